-- The map as of a stamp, looked up at a key.
use Rattle.std.proofs.Common.{◌≡◌, ℕ, zero, suc, ◌+◌, ◌<◌, true, false, cond, List, [], ◌∷◌, take, map, nat_eq, Option, Some, None, refl, sym, ap, ◌∙◌, arith}
use Rattle.std.specs.List.{AllByRecursion}
use Rattle.std.specs.FinMap.{IsAntisymmetric, nat_cmp-IsAntisymmetric, slice_cmp-IsAntisymmetric, get, same_map}
use Rattle.std.proofs.lemmas.Bool.Decides.{nat_tests}
use Rattle.std.proofs.lemmas.Map.Keys.{IsDistinct-head}
use Rattle.bw_key.specs.Order.{KeyBytes, key_cmp, key_cmp_total, key_eq}
use Rattle.bw_model.specs.Contents.{Contents}
use Rattle.bw_model.specs.Values.{ValueBytes}
use Rattle.bw_model.specs.Actions.{effect}
use Rattle.bw_model.specs.Model.{contents_after}
use Rattle.bw_model.specs.declared.operations.Action.{Action}
use Rattle.bw_page.proofs.Search.{same_keys}
use Rattle.bw_delta.specs.Writes.{WriteView}
use Rattle.bw_delta.specs.History.{history, then_effect, action_at, HasDistinctStamps}
use Rattle.bw_delta.specs.Batches.{writes_of, writes_to}
use Rattle.bw_delta.specs.ContentsAsOf.{write_at, then_written, contents_as_of, BatchIsReadInTurn}
use Rattle.bw_delta.proofs.Histories.{at_first, past_other, same_history, history_parts}
use Rattle.bw_delta.proofs.Orders.{not_same, distinct_rest}
use Rattle.bw_delta.proofs.Filters.{apart_filter}
use Rattle.bw_delta.proofs.Batches.{get_set_at, nothing_yet, contents_are_history}

-- the action of a write that is there and at this key
abbrev at_key : KeyBytes → Option WriteView → Option Action
at_key key None = None
at_key key (Some w) = cond (key_eq key w.key) (Some w.action) None

equal : (m n : ℕ) → nat_eq m n ≡ true → m ≡ n
equal m n e = grind (arith, nat_tests)

turned : (m n : ℕ) → m ≡ n → nat_eq m n ≡ true
turned m n e = grind (arith, nat_tests)

-- nothing was written with a stamp that no write has
nothing_at : (ws : List WriteView) (t : ℕ) → AllByRecursion (λ y. nat_eq t y ≡ false) (map (λ (w : WriteView). w.stamp) ws) → action_at ws t ≡ None
nothing_at [] t apart = refl
nothing_at (w ∷ ws) t apart = past_other w ws t (λ e. absurd (different (sym (turned t w.stamp (sym e)) ∙ apart.0))) ∙ nothing_at ws t apart.1
  where
    different : true ≡ false → ⊥
    different e = cc

-- what was written with a stamp at a key, by the write with this stamp
action_is : (key : KeyBytes) (ws : List WriteView) (t : ℕ) → HasDistinctStamps ws → action_at (writes_to key ws) t ≡ at_key key (write_at ws t)
action_is key [] t distinct = refl
action_is key (w ∷ ws) t distinct = elim (nat_eq w.stamp t) as (λ b. nat_eq w.stamp t ≡ b → action_at (cond (key_eq key w.key) (w ∷ writes_to key ws) (writes_to key ws)) t ≡ at_key key (cond b (Some w) (write_at ws t))) [
  | true ↦ λ same. elim (key_eq key w.key) as (λ b. action_at (cond b (w ∷ writes_to key ws) (writes_to key ws)) t ≡ cond b (Some w.action) None) [
    | true ↦ at_first w (writes_to key ws) t (equal w.stamp t same)
    | false ↦ ap (action_at (writes_to key ws)) (sym (equal w.stamp t same)) ∙ nothing_at (writes_to key ws) w.stamp (apart_filter (λ v. key_eq key v.key) w.stamp ws (IsDistinct-head nat_eq w.stamp (map (λ (v : WriteView). v.stamp) ws) distinct))
  ]
  | false ↦ λ other. elim (key_eq key w.key) as (λ b. action_at (cond b (w ∷ writes_to key ws) (writes_to key ws)) t ≡ at_key key (write_at ws t)) [
    | true ↦ past_other w (writes_to key ws) t (not_same w.stamp t other) ∙ action_is key ws t (distinct_rest w ws distinct)
    | false ↦ action_is key ws t (distinct_rest w ws distinct)
  ]
] refl

-- one stamp further, at a key
one_further : (m : Contents ValueBytes) (write : Option WriteView) (key : KeyBytes) → get (then_written write m) key ≡ then_effect (at_key key write) (get m key)
one_further m None key = refl
one_further m (Some w) key =
    let left = effect w.action (get m w.key) in
    get_set_at m w.key left key ∙ (elim (key_eq key w.key) as (λ b. key_eq key w.key ≡ b → cond b left (get m key) ≡ then_effect (cond b (Some w.action) None) (get m key)) [
      | true ↦ λ same. ap (λ (q : KeyBytes). effect w.action (get m q)) (sym (same_keys key w.key same))
      | false ↦ λ other. refl
    ] refl)

-- the value at a key as of a stamp is the history of the writes there
pub get_as_of : (start : Contents ValueBytes) (ws : List WriteView) → HasDistinctStamps ws → (n : ℕ) (key : KeyBytes) → get (contents_as_of start ws n) key ≡ history (get start key) (action_at (writes_to key ws)) n
unfolding history contents_as_of
get_as_of start ws distinct zero key = refl
get_as_of start ws distinct (suc n) key =
    let before = contents_as_of start ws n in
    one_further before (write_at ws n) key
    ∙ ap (λ a. then_effect a (get before key)) (sym (action_is key ws n distinct))
    ∙ ap (then_effect (action_at (writes_to key ws) n)) (get_as_of start ws distinct n key)

-- maps with the same values are the same
pub only_equal_tie : IsAntisymmetric key_cmp
only_equal_tie = slice_cmp-IsAntisymmetric nat_cmp-IsAntisymmetric

pub same_contents : (m n : Contents ValueBytes) → ((key : KeyBytes) → get m key ≡ get n key) → m ≡ n
same_contents m n same = same_map key_cmp_total only_equal_tie m n same

-- writes that agree below a stamp leave the same as of it
pub same_as_of : (start : Contents ValueBytes) (xs ys : List WriteView) (n : ℕ) → HasDistinctStamps xs → HasDistinctStamps ys →
    ((key : KeyBytes) (t : ℕ) → t < n → action_at (writes_to key xs) t ≡ action_at (writes_to key ys) t) → contents_as_of start xs n ≡ contents_as_of start ys n
same_as_of start xs ys n distinct distinct' same = same_contents (contents_as_of start xs n) (contents_as_of start ys n) (λ key.
    get_as_of start xs distinct n key
    ∙ same_history (get start key) (action_at (writes_to key xs)) (action_at (writes_to key ys)) n (same key)
    ∙ sym (get_as_of start ys distinct' n key))

pub batch_is_read_in_turn : BatchIsReadInTurn
batch_is_read_in_turn start writes base ops i holds = same_contents (contents_as_of start writes (base + i)) (contents_after (take i ops) (contents_as_of start writes base)) (λ key.
    let m = contents_as_of start writes base in
    let all = action_at (writes_to key writes) in
    let batch = action_at (writes_to key (writes_of base ops)) in
    let before = get_as_of start writes holds.distinct base key in
    get_as_of start writes holds.distinct (base + i) key
    ∙ history_parts (get start key) all base i
    ∙ ap (λ v. history v (λ t. all (base + t)) i) (sym before)
    ∙ same_history (get m key) (λ t. all (base + t)) (λ t. batch (base + t)) i (λ t lt. holds.same key (base + t) (omega arith))
    ∙ ap (λ v. history v (λ t. batch (base + t)) i) (nothing_yet m base ops key base (omega arith))
    ∙ sym (history_parts (get m key) batch base i)
    ∙ sym (contents_are_history ops m base i key))
