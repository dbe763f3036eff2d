-- Pages to which nothing leads.
use Rattle.std.proofs.Common.{◌≡◌, ℕ, suc, ◌<◌, true, false, List, [], ◌∷◌, length, Option, Some, None, refl, sym, ap, ◌∙◌, subst, arith}
use Rattle.std.specs.Borrow.{Bor}
use Rattle.std.specs.List.{Contains}
use Rattle.std.specs.Option.{option_copied}
use Rattle.std.specs.Prelude.{MatchOption, is_some}
use Rattle.bw_key.specs.Order.{KeyBytes}
use Rattle.bw_page.specs.declared.pages.RemovedPage.{RemovedPage}
use Rattle.bw_level.specs.Before.{low_at, removed_at}
use Rattle.bw_level.specs.Children.{HasChildAt}
use Rattle.bw_level.specs.Entries.{AreExact}
use Rattle.bw_level.specs.Freeing.{IsUnreached}
use Rattle.bw_level.specs.Levels.{AreLevels, LeadsBelow, row}
use Rattle.bw_level.specs.Slots.{Slot, Free, Gone, Live, left_of, left_of_slot, slot_at}
use Rattle.bw_level.specs.KeptLevels.{IsTerm}
use Rattle.bw_level.specs.Walk.{Leads}
use Rattle.bw_level.proofs.StepLemmas.{child_there}
use Rattle.bw_look.specs.RemovedPages.{HasNoNamerOfRemoved, IsNamerOfRemoved}
use Rattle.bw_look.specs.Routing.{IsInLevel, IsInNoLevel}
use Rattle.bw_look.specs.View.{TreeView}

no_step : {q : ℕ} → None ≡ Some q → ⊥
no_step e = cc

one_step : {p q : ℕ} → Some p ≡ Some q → p ≡ q
one_step e = cc

-- a removed page's left neighbour, as a reader answers it
pub left_is : (slot : Slot) (o : Option (Bor RemovedPage)) (g : Bor RemovedPage) → option_copied o ≡ removed_at slot → o ≡ Some g → left_of_slot slot ≡ Some g.now.left
left_is slot o g read is = by slot (sym read ∙ ap option_copied is)
  where
    none : {a : RemovedPage} → None ≡ Some a → ⊥
    none e = cc

    one : {a b : RemovedPage} → Some a ≡ Some b → a ≡ b
    one e = cc

    by : (x : Slot) → removed_at x ≡ Some g.now → left_of_slot x ≡ Some g.now.left
    by Free e = absurd (none e)
    by (Gone l) e = ap (λ (r : RemovedPage). Some r.left) (one e)
    by (Live s) e = absurd (none e)

-- any other page has none
pub left_none : (slot : Slot) (o : Option (Bor RemovedPage)) (p : ℕ) → option_copied o ≡ removed_at slot → o ≡ None → left_of_slot slot ≡ Some p → ⊥
left_none slot o p read is = by slot (sym read ∙ ap option_copied is)
  where
    some : {a : RemovedPage} → Some a ≡ None → ⊥
    some e = cc

    by : (x : Slot) → removed_at x ≡ None → left_of_slot x ≡ Some p → ⊥
    by Free e left = no_step left
    by (Gone l) e left = some e
    by (Live s) e left = no_step left

-- a slot with a low key is no free one
pub taken_low : (slot : Slot) (o : Option (Bor KeyBytes)) → option_copied o ≡ low_at slot → is_some o ≡ true → slot ≡ Free → ⊥
taken_low slot None read some free = different (sym some)
  where
    different : true ≡ false → ⊥
    different e = cc
taken_low slot (Some low) read some free = none (sym (read ∙ ap low_at free))
  where
    none : {k : KeyBytes} → None ≡ Some k → ⊥
    none e = cc

different : true ≡ false → ⊥
different e = cc

module _ (tree : TreeView) (lawful : AreLevels tree.slots tree.root tree.levels) (exact : AreExact tree.slots tree.levels) (p : ℕ) where
  -- a child of a page of a level is a page of the level below, or a removed one that is named where it began
  term_there : (n : ℕ) (k : KeyBytes) → suc n < length tree.levels → IsTerm tree.slots tree.levels n k p → IsInNoLevel tree p → HasNoNamerOfRemoved tree p → ⊥
  term_there n k lt term off unnamed = by (slot_at tree.slots p) refl
    where
      leads : LeadsBelow tree.slots (row tree.levels n) k p
      leads = lawful.terms n term.page term.state k p lt term.in_level term.is term.named

      by : (o : Slot) → slot_at tree.slots p ≡ o → ⊥
      by Free is = child_there tree.slots tree.root tree.levels lawful n k p lt term is
      by (Live s) is = on leads.removed leads.way
        where
          on : (xs : List ℕ) → Leads (left_of tree.slots) p xs leads.page → ⊥
          on [] way = off n (omega (arith, lt), subst (Contains (row tree.levels n)) (sym way.0) leads.in_level)
          on (x ∷ xs) way = no_step (sym (ap left_of_slot is) ∙ way.1.1)
      by (Gone g) is =
          let began = exact.began n k p g lt term is in
          unnamed term.page (record {
            removed = g;
            is = is;
            above = subst (λ m. (suc m < length tree.levels) × Contains (row tree.levels (suc m)) term.page) (sym began.1) (lt, term.in_level);
            named =
                subst (λ (o : Slot). HasChildAt o g.low p) (sym term.is)
                (subst (λ (key : KeyBytes). HasChildAt (Live term.state) key p) (sym began.0) term.named);
          })

  pub unreached : IsInNoLevel tree p → HasNoNamerOfRemoved tree p → ((q : ℕ) → left_of tree.slots q ≡ Some p → ⊥) → IsUnreached tree.slots tree.levels p
  unreached off unnamed left = record {
    stands = λ on. off on.level (on.within, on.in_level);
    named = λ n k lt term. term_there n k lt term off unnamed;
    left = left;
  }

  -- what is still named isn't unreached
  pub named_still : (parent : ℕ) → IsNamerOfRemoved tree p parent → IsUnreached tree.slots tree.levels p → ⊥
  named_still parent still gone = by (slot_at tree.slots parent) refl still.named
    where
      by : (o : Slot) → slot_at tree.slots parent ≡ o → HasChildAt o still.removed.low p → ⊥
      by Free is named = named
      by (Gone g) is named = named
      by (Live s) is named = gone.named still.removed.level still.removed.low still.above.0 (record { page = parent; in_level = still.above.1; state = s; is = is; named = named })

  -- by what a search for its name answers
  pub named_some : (o : Option ℕ) → is_some o ≡ true → MatchOption o (HasNoNamerOfRemoved tree p) (IsNamerOfRemoved tree p) → IsUnreached tree.slots tree.levels p → ⊥
  named_some None some answer gone = different (sym some)
  named_some (Some parent) some answer gone = named_still parent answer gone

  pub named_none : (o : Option ℕ) → is_some o ≡ false → MatchOption o (HasNoNamerOfRemoved tree p) (IsNamerOfRemoved tree p) → HasNoNamerOfRemoved tree p
  named_none None none answer = answer
  named_none (Some parent) none answer = absurd (different none)

  -- and one for its level
  pub level_none : (o : Option ℕ) → is_some o ≡ false → MatchOption o (IsInNoLevel tree p) (IsInLevel tree p) → IsInNoLevel tree p
  level_none None none answer = answer
  level_none (Some level) none answer = absurd (different none)
