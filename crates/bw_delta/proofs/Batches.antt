-- The value at a key after the first operations of a batch, as the history of the batch's writes there.
use Rattle.std.proofs.Common.{◌≡◌, ℕ, zero, suc, ◌+◌, ◌<◌, ◌≤◌, Bool, true, false, cond, List, [], ◌∷◌, ◌++◌, Option, Some, None, refl, sym, ap, ◌∙◌, arith}
use Rattle.std.specs.Prelude.{filter}
use Rattle.std.specs.FinMap.{get, get-insert, get-remove}
use Rattle.bw_key.specs.Order.{KeyBytes, key_cmp_total, key_eq, key_ties}
use Rattle.bw_model.specs.Contents.{Contents, set_at}
use Rattle.bw_model.specs.Values.{ValueBytes}
use Rattle.bw_model.specs.Actions.{effect}
use Rattle.bw_model.specs.Model.{after, written_at}
use Rattle.bw_model.specs.declared.operations.Action.{Action}
use Rattle.bw_model.specs.declared.operations.Op.{Op}
use Rattle.bw_model.specs.declared.operations.Op.TheVariants.{Get, Insert, Upsert, Update, Delete, SwapIf, Scan, Rscan}
use Rattle.bw_page.proofs.Search.{same_keys}
use Rattle.bw_delta.specs.Writes.{WriteView}
use Rattle.bw_delta.specs.History.{history, action_at}
use Rattle.bw_delta.specs.Rising.{HasRisingStamps}
use Rattle.bw_delta.specs.Batches.{write_of, stamped, writes_of, writes_to, ContentsAreHistory}
use Rattle.bw_delta.proofs.Histories.{quiet, none_below, past_first}

-- a map with a value, or none, set at a key
pub get_set_at : {V : Type 0} (m : Contents V) (k : KeyBytes) (o : Option V) (key : KeyBytes) → get (set_at m k o) key ≡ cond (key_eq key k) o (get m key)
get_set_at {V} m k None key = get-remove key_cmp_total m k key ∙ ap (λ b. cond b None (get m key)) (sym (key_ties key k))
get_set_at {V} m k (Some v) key = get-insert key_cmp_total m k v key ∙ ap (λ b. cond b (Some v) (get m key)) (sym (key_ties key k))

-- what a write leaves
abbrev left_by : Option (KeyBytes × Action) → Contents ValueBytes → Contents ValueBytes
left_by None m = m
left_by (Some write) m = written_at m write.0 write.1

after_is : (op : Op) (m : Contents ValueBytes) → after op m ≡ left_by (write_of op) m
after_is (Get key) m = refl
after_is (Insert key v) m = refl
after_is (Upsert key v) m = refl
after_is (Update key v) m = refl
after_is (Delete key) m = refl
after_is (SwapIf key old new) m = refl
after_is (Scan from to most) m = refl
after_is (Rscan from to most) m = refl

-- the stamps rise from a lower one on too
pub from_lower : (low low' : ℕ) (ws : List WriteView) → low ≤ low' → HasRisingStamps low' ws → HasRisingStamps low ws
from_lower low low' [] le rising = tt
from_lower low low' (w ∷ ws) le rising = (omega (arith, le, rising.0), rising.1)

pub rising_filter : (test : WriteView → Bool) (low : ℕ) (ws : List WriteView) → HasRisingStamps low ws → HasRisingStamps low (filter test ws)
rising_filter test low [] rising = tt
rising_filter test low (w ∷ ws) rising = by (test w) (rising_filter test (w.stamp + 1) ws rising.1)
  where
    by : (b : Bool) → HasRisingStamps (w.stamp + 1) (filter test ws) → HasRisingStamps low (cond b (w ∷ filter test ws) (filter test ws))
    by true rest = (rising.0, rest)
    by false rest = from_lower low (w.stamp + 1) (filter test ws) (omega (arith, rising.0)) rest

-- the stamps of a batch's writes strictly rise
pub rising_batch : (base : ℕ) (ops : List Op) → HasRisingStamps base (writes_of base ops)
rising_batch base [] = tt
rising_batch base (op ∷ ops) = by (write_of op) (rising_batch (base + 1) ops)
  where
    by : (o : Option (KeyBytes × Action)) → HasRisingStamps (base + 1) (writes_of (base + 1) ops) → HasRisingStamps base (stamped base o ++ writes_of (base + 1) ops)
    by None rest = from_lower base (base + 1) (writes_of (base + 1) ops) (omega arith) rest
    by (Some write) rest = (omega arith, rest)

-- one write, and the ones behind it
one_write : (m : Contents ValueBytes) (write : Option (KeyBytes × Action)) (base n : ℕ) (ws : List WriteView) (key : KeyBytes) → HasRisingStamps (base + 1) ws → base < n →
    history (get (left_by write m) key) (action_at (writes_to key ws)) n ≡ history (get m key) (action_at (writes_to key (stamped base write ++ ws))) n
one_write m None base n ws key rising lt = refl
one_write m (Some write) base n ws key rising lt =
    let k = write.0 in
    let left = effect write.1 (get m k) in
    let rest = writes_to key ws in
    elim (key_eq key k) as (λ b. key_eq key k ≡ b → history (get (set_at m k left) key) (action_at rest) n ≡ history (get m key) (action_at (cond b (record { stamp = base; key = k; action = write.1 } ∷ rest) rest)) n) [
      | true ↦ λ same.
          let here = get_set_at m k left key ∙ ap (λ b. cond b left (get m key)) same ∙ ap (λ (q : KeyBytes). effect write.1 (get m q)) (sym (same_keys key k same)) in
          ap (λ v. history v (action_at rest) n) here
          ∙ sym (past_first (get m key) (record { stamp = base; key = k; action = write.1 }) rest n (rising_filter (λ w. key_eq key w.key) (base + 1) ws rising) lt)
      | false ↦ λ other. ap (λ v. history v (action_at rest) n) (get_set_at m k left key ∙ ap (λ b. cond b left (get m key)) other)
    ] refl

-- as of the first stamp of a batch there is only what was before
pub nothing_yet : (m : Contents ValueBytes) (base : ℕ) (ops : List Op) (key : KeyBytes) (n : ℕ) → n ≤ base → get m key ≡ history (get m key) (action_at (writes_to key (writes_of base ops))) n
nothing_yet m base ops key n le =
    let rising = rising_filter (λ w. key_eq key w.key) base (writes_of base ops) (rising_batch base ops) in
    sym (quiet (get m key) (action_at (writes_to key (writes_of base ops))) n (λ t lt. none_below base (writes_to key (writes_of base ops)) t rising (omega (arith, le, lt))))

pub contents_are_history : ContentsAreHistory
contents_are_history [] m base zero key = nothing_yet m base [] key (base + 0) (omega arith)
contents_are_history [] m base (suc i) key = sym (quiet (get m key) (action_at []) (base + suc i) (λ t lt. refl))
contents_are_history (op ∷ ops) m base zero key = nothing_yet m base (op ∷ ops) key (base + 0) (omega arith)
contents_are_history (op ∷ ops) m base (suc i) key =
    let rest = writes_of (base + 1) ops in
    contents_are_history ops (after op m) (base + 1) i key
    ∙ ap (λ (n : ℕ). history (get (after op m) key) (action_at (writes_to key rest)) n) (further base i)
    ∙ ap (λ (l : Contents ValueBytes). history (get l key) (action_at (writes_to key rest)) (base + suc i)) (after_is op m)
    ∙ one_write m (write_of op) base (base + suc i) rest key (rising_batch (base + 1) ops) (omega arith)
  where
    further : (base i : ℕ) → base + 1 + i ≡ base + suc i
    further base i = omega arith
