-- The writes from a stamp on.
use Rattle.std.proofs.Common.{◌≡◌, ℕ, ◌+◌, ◌-◌, ◌<◌, ◌≤◌, true, false, cond, List, [], ◌∷◌, Option, Some, None, eqb, nat_le, refl, sym, ap, ◌∙◌, arith}
use Rattle.std.proofs.lemmas.Bool.Decides.{nat_tests}
use Rattle.bw_model.specs.Values.{ValueBytes}
use Rattle.bw_model.specs.Actions.{effect}
use Rattle.bw_delta.specs.Writes.{WriteView}
use Rattle.bw_delta.specs.History.{history, action_at}
use Rattle.bw_delta.specs.Readings.{from_stamp}
use Rattle.bw_delta.specs.Rising.{HasRisingStamps}
use Rattle.bw_delta.proofs.Histories.{past_other, same_history, quiet, history_parts, none_below, IsFolding, folds_first, folded, folded_all}
use Rattle.bw_delta.proofs.Batches.{rising_filter}

reaches : (m n : ℕ) → m ≤ n → nat_le m n ≡ true
reaches m n le = grind (arith, nat_tests)

falls_short : (m n : ℕ) → n < m → nat_le m n ≡ false
falls_short m n lt = grind (arith, nat_tests)

-- of writes whose stamps rise from there on, all are left
pub all_left : (stamp low : ℕ) (ws : List WriteView) → stamp ≤ low → HasRisingStamps low ws → from_stamp stamp ws ≡ ws
all_left stamp low [] le rising = refl
all_left stamp low (w ∷ ws) le rising =
    ap (λ b. cond b (w ∷ from_stamp stamp ws) (from_stamp stamp ws)) (reaches stamp w.stamp (omega (arith, le, rising.0)))
    ∙ ap (λ l. w ∷ l) (all_left stamp (w.stamp + 1) ws (omega (arith, le, rising.0)) rising.1)

-- a write below the stamp is not
pub one_passed : (stamp : ℕ) (w : WriteView) (ws : List WriteView) → w.stamp < stamp → from_stamp stamp ws ≡ from_stamp stamp (w ∷ ws)
one_passed stamp w ws lt = sym (ap (λ b. cond b (w ∷ from_stamp stamp ws) (from_stamp stamp ws)) (falls_short stamp w.stamp lt))

-- the stamps of what is left rise from the stamp on
pub left_rises : (stamp low : ℕ) (ws : List WriteView) → HasRisingStamps low ws → HasRisingStamps stamp (from_stamp stamp ws)
left_rises stamp low [] rising = tt
left_rises stamp low (w ∷ ws) rising = elim (nat_le stamp w.stamp) as (λ b. nat_le stamp w.stamp ≡ b → HasRisingStamps stamp (cond b (w ∷ from_stamp stamp ws) (from_stamp stamp ws))) [
  | true ↦ λ up. (is_up stamp w.stamp up, rising_filter (λ v. nat_le stamp v.stamp) (w.stamp + 1) ws rising.1)
  | false ↦ λ down. left_rises stamp (w.stamp + 1) ws rising.1
] refl
  where
    is_up : (m n : ℕ) → nat_le m n ≡ true → m ≤ n
    is_up m n e = grind (arith, nat_tests)

-- what was written from a stamp on is left
pub action_left : (stamp : ℕ) (ws : List WriteView) (t : ℕ) → stamp ≤ t → action_at (from_stamp stamp ws) t ≡ action_at ws t
action_left stamp [] t le = refl
action_left stamp (w ∷ ws) t le = elim (nat_le stamp w.stamp) as (λ b. nat_le stamp w.stamp ≡ b → action_at (cond b (w ∷ from_stamp stamp ws) (from_stamp stamp ws)) t ≡ action_at (w ∷ ws) t) [
  | true ↦ λ up. ap (λ o. cond (eqb w.stamp t) (Some w.action) o) (action_left stamp ws t le)
  | false ↦ λ down. action_left stamp ws t le ∙ sym (past_other w ws t (λ e. absurd (omega (arith, le, is_down stamp w.stamp down, e))))
] refl
  where
    is_down : (m n : ℕ) → nat_le m n ≡ false → n < m
    is_down m n e = grind (arith, nat_tests)

-- and nothing from before
pub nothing_left : (stamp : ℕ) (low : ℕ) (ws : List WriteView) (t : ℕ) → HasRisingStamps low ws → t < stamp → action_at (from_stamp stamp ws) t ≡ None
nothing_left stamp low ws t rising lt = none_below stamp (from_stamp stamp ws) t (left_rises stamp low ws rising) lt

-- reading goes on from one stamp to a later one
pub resumed : (start : Option ValueBytes) (low : ℕ) (ws : List WriteView) (n m : ℕ) → HasRisingStamps low ws → n ≤ m →
    history (history start (action_at ws) n) (action_at (from_stamp n ws)) m ≡ history start (action_at ws) m
resumed start low ws n m rising le =
    let here = history start (action_at ws) n in
    let d = m - n in
    let whole : m ≡ n + d = omega (arith, le) in
    ap (history here (action_at (from_stamp n ws))) whole
    ∙ history_parts here (action_at (from_stamp n ws)) n d
    ∙ ap (λ v. history v (λ t. action_at (from_stamp n ws) (n + t)) d) (quiet here (action_at (from_stamp n ws)) n (λ t lt. nothing_left n low ws t rising lt))
    ∙ same_history here (λ t. action_at (from_stamp n ws) (n + t)) (λ t. action_at ws (n + t)) d (λ t lt. action_left n ws (n + t) (omega arith))
    ∙ sym (history_parts start (action_at ws) n d)
    ∙ ap (history start (action_at ws)) (sym whole)

-- what is left later is left of what is left now
pub left_later : (n m : ℕ) (ws : List WriteView) → n ≤ m → from_stamp m (from_stamp n ws) ≡ from_stamp m ws
left_later n m [] le = refl
left_later n m (w ∷ ws) le = elim (nat_le n w.stamp) as (λ b. nat_le n w.stamp ≡ b → from_stamp m (cond b (w ∷ from_stamp n ws) (from_stamp n ws)) ≡ from_stamp m (w ∷ ws)) [
  | true ↦ λ up. ap (λ l. cond (nat_le m w.stamp) (w ∷ l) l) (left_later n m ws le)
  | false ↦ λ down. left_later n m ws le ∙ one_passed m w ws (omega (arith, le, is_down n w.stamp down))
] refl
  where
    is_down : (m n : ℕ) → nat_le m n ≡ false → n < m
    is_down m n e = grind (arith, nat_tests)

-- Of all the writes, those of rest are still to have their effects on value, as of a stamp.
pub record IsPassing (stamp : ℕ) (start : Option ValueBytes) (all rest : List WriteView) (value : Option ValueBytes) : Type 0 where
  pub folding : IsFolding stamp start all rest value
  pub left : from_stamp stamp rest ≡ from_stamp stamp all

pub passes_first : (stamp : ℕ) (start value : Option ValueBytes) (all : List WriteView) (w : WriteView) (ws : List WriteView) → w.stamp < stamp →
    IsPassing stamp start all (w ∷ ws) value → IsPassing stamp start all ws (effect w.action value)
passes_first stamp start value all w ws lt so = record { folding = folds_first stamp start value all w ws lt so.folding; left = one_passed stamp w ws lt ∙ so.left }

pub passed_value : (stamp : ℕ) (start value : Option ValueBytes) (all : List WriteView) (w : WriteView) (ws : List WriteView) → stamp ≤ w.stamp →
    IsPassing stamp start all (w ∷ ws) value → (value ≡ history start (action_at all) stamp) × (w ∷ ws ≡ from_stamp stamp all)
passed_value stamp start value all w ws le so = (
  folded stamp start value all w ws le so.folding,
  sym (all_left stamp w.stamp (w ∷ ws) le (omega arith, so.folding.rising.1)) ∙ so.left,
)

pub passed_all : (stamp : ℕ) (start value : Option ValueBytes) (all rest : List WriteView) → rest ≡ [] → IsPassing stamp start all rest value →
    (value ≡ history start (action_at all) stamp) × (rest ≡ from_stamp stamp all)
passed_all stamp start value all rest none so = (
  folded_all stamp start value all rest none so.folding,
  none ∙ ap (from_stamp stamp) (sym none) ∙ so.left,
)
