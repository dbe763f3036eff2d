-- The history of writes, one stamp or one write further.
use Rattle.std.proofs.Common.{◌≡◌, ◌≢◌, ℕ, zero, suc, ◌+◌, ◌<◌, ◌≤◌, true, false, cond, List, [], ◌∷◌, Option, Some, None, eqb, inl, inr, refl, sym, ap, ◌∙◌, arith}
use Rattle.std.proofs.lemmas.Bool.{cases_eq}
use Rattle.std.proofs.lemmas.Bool.Decides.{nat_tests}
use Rattle.bw_model.specs.Values.{ValueBytes}
use Rattle.bw_model.specs.Actions.{effect}
use Rattle.bw_model.specs.declared.operations.Action.{Action}
use Rattle.bw_delta.specs.Writes.{WriteView}
use Rattle.bw_delta.specs.History.{history, then_effect, action_at}
use Rattle.bw_delta.specs.Rising.{HasRisingStamps}

is_same : (m n : ℕ) → m ≡ n → eqb m n ≡ true
is_same m n e = grind (arith, nat_tests)

differs : (m n : ℕ) → m ≢ n → eqb m n ≡ false
differs m n e = grind (arith, nat_tests)

pub at_first : (w : WriteView) (ws : List WriteView) (t : ℕ) → w.stamp ≡ t → action_at (w ∷ ws) t ≡ Some w.action
at_first w ws t e = ap (λ b. cond b (Some w.action) (action_at ws t)) (is_same w.stamp t e)

pub past_other : (w : WriteView) (ws : List WriteView) (t : ℕ) → w.stamp ≢ t → action_at (w ∷ ws) t ≡ action_at ws t
past_other w ws t e = ap (λ b. cond b (Some w.action) (action_at ws t)) (differs w.stamp t e)

-- a history depends on what is below its stamp
pub same_history : (start : Option ValueBytes) (f g : ℕ → Option Action) (n : ℕ) → ((t : ℕ) → t < n → f t ≡ g t) → history start f n ≡ history start g n
unfolding history
same_history start f g zero same = refl
same_history start f g (suc n) same = ap (λ o. then_effect o (history start f n)) (same n (omega arith)) ∙ ap (then_effect (g n)) (same_history start f g n (λ t lt. same t (omega arith)))

-- where nothing is, nothing changes
pub quiet : (start : Option ValueBytes) (f : ℕ → Option Action) (n : ℕ) → ((t : ℕ) → t < n → f t ≡ None) → history start f n ≡ start
unfolding history
quiet start f zero none = refl
quiet start f (suc n) none = ap (λ o. then_effect o (history start f n)) (none n (omega arith)) ∙ quiet start f n (λ t lt. none t (omega arith))

-- a history up to a stamp, and from there on
pub history_parts : (start : Option ValueBytes) (at : ℕ → Option Action) (m n : ℕ) → history start at (m + n) ≡ history (history start at m) (λ t. at (m + t)) n
unfolding history
history_parts start at m zero = ap (history start at) (add_zero m)
  where
    add_zero : (m : ℕ) → m + 0 ≡ m
    add_zero m = omega arith
history_parts start at m (suc n) =
    ap (history start at) (add_suc m n) ∙ ap (then_effect (at (m + n))) (history_parts start at m n)
  where
    add_suc : (m n : ℕ) → m + suc n ≡ suc (m + n)
    add_suc m n = omega arith

-- of writes whose stamps rise, none has a stamp below the first
pub none_below : (low : ℕ) (ws : List WriteView) (t : ℕ) → HasRisingStamps low ws → t < low → action_at ws t ≡ None
none_below low [] t rising lt = refl
none_below low (w ∷ ws) t rising lt =
    past_other w ws t (λ e. absurd (omega (arith, rising.0, lt, e))) ∙ none_below (w.stamp + 1) ws t rising.1 (omega (arith, rising.0))

-- past the first write, it has had its effect
pub past_first : (start : Option ValueBytes) (w : WriteView) (ws : List WriteView) (t : ℕ) → HasRisingStamps (w.stamp + 1) ws → w.stamp < t →
    history start (action_at (w ∷ ws)) t ≡ history (effect w.action start) (action_at ws) t
unfolding history
past_first start w ws zero rising lt = absurd (omega arith)
past_first start w ws (suc t) rising lt = elim (cases_eq t w.stamp) [
  | inl e ↦
      let here : action_at (w ∷ ws) t ≡ Some w.action = at_first w ws t (sym e) in
      let before : history start (action_at (w ∷ ws)) t ≡ start = quiet start (action_at (w ∷ ws)) t (λ u below. past_other w ws u (λ f. absurd (omega (arith, e, f, below))) ∙ none_below (w.stamp + 1) ws u rising (omega (arith, e, below))) in
      let after : action_at ws t ≡ None = none_below (w.stamp + 1) ws t rising (omega (arith, e)) in
      let then : history (effect w.action start) (action_at ws) t ≡ effect w.action start = quiet (effect w.action start) (action_at ws) t (λ u below. none_below (w.stamp + 1) ws u rising (omega (arith, e, below))) in
      ap (λ o. then_effect o (history start (action_at (w ∷ ws)) t)) here ∙ ap (effect w.action) before ∙ sym (ap (λ o. then_effect o (history (effect w.action start) (action_at ws) t)) after ∙ then)
  | inr other ↦
      let same : action_at (w ∷ ws) t ≡ action_at ws t = past_other w ws t (λ e. other (sym e)) in
      let later : w.stamp < t = grind (arith, lt, other) in
      ap (λ o. then_effect o (history start (action_at (w ∷ ws)) t)) same ∙ ap (then_effect (action_at ws t)) (past_first start w ws t rising later)
]

-- Of all, the writes of rest are still to have their effect on value, as of a stamp.
pub record IsFolding (stamp : ℕ) (start : Option ValueBytes) (all rest : List WriteView) (value : Option ValueBytes) : Type 0 where
  pub from : ℕ
  pub rising : HasRisingStamps from rest
  pub is : history value (action_at rest) stamp ≡ history start (action_at all) stamp

pub folds_first : (stamp : ℕ) (start value : Option ValueBytes) (all : List WriteView) (w : WriteView) (ws : List WriteView) → w.stamp < stamp →
    IsFolding stamp start all (w ∷ ws) value → IsFolding stamp start all ws (effect w.action value)
folds_first stamp start value all w ws lt so = record { from = w.stamp + 1; rising = so.rising.1; is = sym (past_first value w ws stamp so.rising.1 lt) ∙ so.is }

-- a first write from the stamp on ends it
pub folded : (stamp : ℕ) (start value : Option ValueBytes) (all : List WriteView) (w : WriteView) (ws : List WriteView) → stamp ≤ w.stamp →
    IsFolding stamp start all (w ∷ ws) value → value ≡ history start (action_at all) stamp
folded stamp start value all w ws le so =
    sym (quiet value (action_at (w ∷ ws)) stamp (λ t lt. none_below w.stamp (w ∷ ws) t (at_own w ws so.rising.1) (omega (arith, le, lt)))) ∙ so.is
  where
    at_own : (w : WriteView) (ws : List WriteView) → HasRisingStamps (w.stamp + 1) ws → HasRisingStamps w.stamp (w ∷ ws)
    at_own w ws rising = (omega arith, rising)

-- and so does the end of the list
pub folded_all : (stamp : ℕ) (start value : Option ValueBytes) (all rest : List WriteView) → rest ≡ [] → IsFolding stamp start all rest value → value ≡ history start (action_at all) stamp
folded_all stamp start value all rest none so =
    sym (quiet value (action_at rest) stamp (λ t lt. ap (λ (l : List WriteView). action_at l t) none)) ∙ so.is
