-- The writes of a range below a stamp.
use Rattle.std.proofs.Common.{◌≡◌, ℕ, ◌+◌, ◌<◌, ◌≤◌, Bool, true, false, cond, ◌&&◌, List, [], ◌∷◌, Option, Some, None, nat_lt, eqb, refl, sym, ap, ◌∙◌, arith}
use Rattle.std.proofs.lemmas.Bool.Decides.{nat_tests}
use Rattle.std.proofs.lemmas.List.Elements.{All-from_recursion, recursion_from_All}
use Rattle.std.proofs.lemmas.List.Sorted.{All-permutation}
use Rattle.std.specs.List.{AllByRecursion}
use Rattle.std.specs.List.Sorted.{IsPermutation}
use Rattle.std.specs.Prelude.{filter}
use Rattle.bw_key.specs.Order.{KeyBytes, key_eq}
use Rattle.bw_model.specs.Actions.{effect}
use Rattle.bw_model.specs.Contents.{is_in_range}
use Rattle.bw_model.specs.Values.{ValueBytes}
use Rattle.bw_model.specs.declared.operations.Action.{Action}
use Rattle.bw_page.proofs.Search.{same_keys}
use Rattle.bw_delta.specs.Batches.{writes_to}
use Rattle.bw_delta.specs.History.{history, action_at, HasDistinctStamps}
use Rattle.bw_delta.specs.Merging.{after_writes, is_due}
use Rattle.bw_delta.specs.Rising.{HasRisingStamps}
use Rattle.bw_delta.specs.Writes.{WriteView}
use Rattle.bw_delta.proofs.Filters.{distinct_filter, same_filtered}
use Rattle.bw_delta.proofs.Histories.{past_first, past_other, quiet, same_history}

-- writes whose stamps rise below an end have their effects one after another
pub one_by_one : (start : Option ValueBytes) (low stamp : ℕ) (ws : List WriteView) → HasRisingStamps low ws → AllByRecursion (λ w. w.stamp < stamp) ws →
    after_writes start ws ≡ history start (action_at ws) stamp
one_by_one start low stamp [] rising below = sym (quiet start (action_at []) stamp (λ t lt. refl))
one_by_one start low stamp (w ∷ ws) rising below =
    one_by_one (effect w.action start) (w.stamp + 1) stamp ws rising.1 below.1 ∙ sym (past_first start w ws stamp rising.1 below.0)

all_filter : {X : Type 0} (P : X → Type 0) (p : X → Bool) (xs : List X) → AllByRecursion P xs → AllByRecursion P (filter p xs)
all_filter P p [] h = tt
all_filter P p (x ∷ xs) h = elim (p x) as (λ b. AllByRecursion P (cond b (x ∷ filter p xs) (filter p xs))) [ true ↦ (h.0, all_filter P p xs h.1) | false ↦ all_filter P p xs h.1 ]

module _ (low : KeyBytes) (high : Option KeyBytes) (stamp : ℕ) where
  -- those that are due are below the stamp
  due_below : (ws : List WriteView) → AllByRecursion (λ w. w.stamp < stamp) (filter (is_due low high stamp) ws)
  due_below [] = tt
  due_below (w ∷ ws) = by (nat_lt w.stamp stamp) (is_in_range low high w.key) refl (due_below ws)
    where
      by : (a b : Bool) → nat_lt w.stamp stamp ≡ a → AllByRecursion (λ w. w.stamp < stamp) (filter (is_due low high stamp) ws) →
          AllByRecursion (λ w. w.stamp < stamp) (cond (a && b) (w ∷ filter (is_due low high stamp) ws) (filter (is_due low high stamp) ws))
      by true true e more = (is_less w.stamp stamp e, more)
        where
          is_less : (m n : ℕ) → nat_lt m n ≡ true → m < n
          is_less m n e = grind (arith, nat_tests)
      by true false e more = more
      by false b e more = more

  -- what was written to a key of the range below the stamp is due, and nothing else
  due_action : (q : KeyBytes) (ws : List WriteView) (t : ℕ) → t < stamp → action_at (writes_to q (filter (is_due low high stamp) ws)) t ≡ cond (is_in_range low high q) (action_at (writes_to q ws) t) None
  due_action q [] t lt = by (is_in_range low high q)
    where
      by : (b : Bool) → ◌≡◌ {A = Option Action} None (cond b None None)
      by true = refl
      by false = refl
  due_action q (w ∷ ws) t lt = by (key_eq q w.key) (nat_lt w.stamp stamp) (is_in_range low high q) refl refl refl (due_action q ws t lt)
    where
      rest : List WriteView
      rest = filter (is_due low high stamp) ws

      first_to : (l : List WriteView) → key_eq q w.key ≡ true → writes_to q (w ∷ l) ≡ w ∷ writes_to q l
      first_to l e = ap (λ a. cond a (w ∷ writes_to q l) (writes_to q l)) e

      other_to : (l : List WriteView) → key_eq q w.key ≡ false → writes_to q (w ∷ l) ≡ writes_to q l
      other_to l e = ap (λ a. cond a (w ∷ writes_to q l) (writes_to q l)) e

      skip : (d : Bool) → key_eq q w.key ≡ false → action_at (writes_to q (cond d (w ∷ rest) rest)) t ≡ action_at (writes_to q rest) t
      skip true e = ap (λ (l : List WriteView). action_at l t) (other_to rest e)
      skip false e = refl

      both : (b c : Bool) → nat_lt w.stamp stamp ≡ b → is_in_range low high w.key ≡ c → (nat_lt w.stamp stamp && is_in_range low high w.key) ≡ (b && c)
      both b c f g = ap (λ x. x && is_in_range low high w.key) f ∙ ap (λ x. b && x) g

      late : nat_lt w.stamp stamp ≡ false → w.stamp ≡ t → ⊥
      late f e = not_yet w.stamp stamp t f e lt
        where
          not_yet : (m n t : ℕ) → nat_lt m n ≡ false → m ≡ t → t < n → ⊥
          not_yet m n t f e lt = absurd (omega (arith, upto m n f, e, lt))
            where
              upto : (m n : ℕ) → nat_lt m n ≡ false → n ≤ m
              upto m n e = grind (arith, nat_tests)

      by : (a b c : Bool) → key_eq q w.key ≡ a → nat_lt w.stamp stamp ≡ b → is_in_range low high q ≡ c → action_at (writes_to q rest) t ≡ cond (is_in_range low high q) (action_at (writes_to q ws) t) None →
          action_at (writes_to q (cond (nat_lt w.stamp stamp && is_in_range low high w.key) (w ∷ rest) rest)) t ≡ cond (is_in_range low high q) (action_at (writes_to q (w ∷ ws)) t) None
      by false b c e f g more =
          skip (nat_lt w.stamp stamp && is_in_range low high w.key) e ∙ more
          ∙ sym (ap (λ (l : List WriteView). cond (is_in_range low high q) (action_at l t) None) (other_to ws e))
      by true true true e f g more =
          ap (λ d. action_at (writes_to q (cond d (w ∷ rest) rest)) t) (both true true f (ap (is_in_range low high) (sym (same_keys q w.key e)) ∙ g))
          ∙ ap (λ (l : List WriteView). action_at l t) (first_to rest e)
          ∙ ap (λ o. cond (eqb w.stamp t) (Some w.action) o) (more ∙ ap (λ c. cond c (action_at (writes_to q ws) t) None) g)
          ∙ sym (ap (λ (l : List WriteView). action_at l t) (first_to ws e))
          ∙ sym (ap (λ c. cond c (action_at (writes_to q (w ∷ ws)) t) None) g)
      by true true false e f g more =
          ap (λ d. action_at (writes_to q (cond d (w ∷ rest) rest)) t) (both true false f (ap (is_in_range low high) (sym (same_keys q w.key e)) ∙ g))
          ∙ more ∙ ap (λ c. cond c (action_at (writes_to q ws) t) None) g
          ∙ sym (ap (λ c. cond c (action_at (writes_to q (w ∷ ws)) t) None) g)
      by true false c e f g more =
          ap (λ d. action_at (writes_to q (cond d (w ∷ rest) rest)) t) (both false c f (ap (is_in_range low high) (sym (same_keys q w.key e)) ∙ g))
          ∙ more
          ∙ sym (ap (λ o. cond (is_in_range low high q) o None) (ap (λ (l : List WriteView). action_at l t) (first_to ws e) ∙ past_other w (writes_to q ws) t (late f)))

  -- so at each key of the range they leave the history, and elsewhere nothing
  pub due_values : (start : Option ValueBytes) (q : KeyBytes) (all ws : List WriteView) → HasDistinctStamps all → IsPermutation (filter (is_due low high stamp) all) ws → HasRisingStamps 0 (writes_to q ws) →
      after_writes start (writes_to q ws) ≡ cond (is_in_range low high q) (history start (action_at (writes_to q all)) stamp) start
  due_values start q all ws distinct moved rising =
      let due = filter (is_due low high stamp) all in
      let early = λ (w : WriteView). w.stamp < stamp in
      let apart = distinct_filter (is_due low high stamp) all distinct in
      let below = all_filter early (λ w. key_eq q w.key) ws (recursion_from_All early ws (All-permutation early due ws moved (All-from_recursion early due (due_below all)))) in
      one_by_one start 0 stamp (writes_to q ws) rising below
      ∙ same_history start (action_at (writes_to q ws)) (λ t. cond (is_in_range low high q) (action_at (writes_to q all) t) None) stamp
      (λ t lt. same_filtered (λ w. key_eq q w.key) due ws t moved apart ∙ due_action q all t lt)
      ∙ by (is_in_range low high q)
    where
      by : (b : Bool) → history start (λ t. cond b (action_at (writes_to q all) t) None) stamp ≡ cond b (history start (action_at (writes_to q all)) stamp) start
      by true = refl
      by false = quiet start (λ t. None) stamp (λ t lt. refl)
