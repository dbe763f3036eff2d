-- Pages that were removed, and the pages that still name them.
use Rattle.std.proofs.Common.{◌≡◌, ℕ, suc, ◌≤◌, length, Option, Some, None, sym, ap, ◌∙◌, subst, arith}
use Rattle.std.specs.Borrow.{Bor}
use Rattle.std.specs.Option.{option_copied}
use Rattle.bw_key.specs.Order.{KeyBytes}
use Rattle.bw_page.specs.declared.pages.RemovedPage.{RemovedPage}
use Rattle.bw_level.specs.Before.{removed_at}
use Rattle.bw_level.specs.Children.{HasChildAt}
use Rattle.bw_level.specs.Levels.{AreLevels, IsHomeAt}
use Rattle.bw_level.specs.Slots.{Slot, Free, Gone, Live, slot_at}
use Rattle.bw_level.specs.Turns.{StartsUpto}
use Rattle.bw_level.proofs.AboveLemmas.{one_above}
use Rattle.bw_look.specs.RemovedPages.{HasNoNamerOfRemoved, IsNamerOfRemoved}
use Rattle.bw_look.specs.Routing.{IsInnerPage}
use Rattle.bw_look.specs.View.{TreeView}
use Rattle.bw_look.proofs.PageLemmas.{entry_home}

one : {a b : RemovedPage} → Some a ≡ Some b → a ≡ b
one e = cc

none : {a : RemovedPage} → None ≡ Some a → ⊥
none e = cc

-- a slot with something left is that of a removed page
pub is_gone : (slot : Slot) (g : RemovedPage) → removed_at slot ≡ Some g → slot ≡ Gone g
is_gone Free g e = absurd (none e)
is_gone (Gone l) g e = ap Gone (one e)
is_gone (Live s) g e = absurd (none' e)
  where
    none' : None ≡ Some g → ⊥
    none' e = cc

-- what a reader answers of it
pub gone_of : (slot : Slot) (o : Option (Bor RemovedPage)) (g : Bor RemovedPage) → option_copied o ≡ removed_at slot → o ≡ Some g → slot ≡ Gone g.now
gone_of slot o g read is = is_gone slot g.now (sym read ∙ ap option_copied is)

module _ (tree : TreeView) (p : ℕ) where
  -- no page names one that wasn't removed
  pub none_removed : removed_at (slot_at tree.slots p) ≡ None → HasNoNamerOfRemoved tree p
  none_removed left parent s = none (sym left ∙ ap removed_at s.is)

  module _ (g : RemovedPage) (gone : slot_at tree.slots p ≡ Gone g) where
    same : (parent : ℕ) (s : IsNamerOfRemoved tree p parent) → s.removed ≡ g
    same parent s = one (sym (ap removed_at s.is) ∙ ap removed_at gone)

    -- nor one of a level that has none above
    pub none_above : length tree.levels ≤ suc g.level → HasNoNamerOfRemoved tree p
    none_above top parent s = omega (arith, s.above.0, top, ap (λ (x : RemovedPage). x.level) (same parent s))

    -- the key is at home on one page, so no page names it where that page doesn't
    pub none_there : (root : ℕ) → AreLevels tree.slots root tree.levels → (parent : ℕ) → IsHomeAt tree.slots tree.levels g.low (suc g.level) parent → (HasChildAt (slot_at tree.slots parent) g.low p → ⊥) → HasNoNamerOfRemoved tree p
    none_there root lawful parent home unnamed other s =
        let is = same other s in
        let there : IsHomeAt tree.slots tree.levels s.removed.low (suc s.removed.level) other = entry_home tree root lawful other s.removed.level s.removed.low p s.above s.named in
        let one_page : other ≡ parent = one_above tree.slots root tree.levels lawful (suc g.level) g.low other parent (subst (λ (x : RemovedPage). IsHomeAt tree.slots tree.levels x.low (suc x.level) other) is there) home in
        unnamed (subst (λ q. HasChildAt (slot_at tree.slots q) g.low p) one_page (subst (λ (x : RemovedPage). HasChildAt (slot_at tree.slots other) x.low p) is s.named))

-- the page above is an inner one, and doesn't begin above the key
pub inner_there : (tree : TreeView) (key : KeyBytes) (level parent : ℕ) → IsHomeAt tree.slots tree.levels key (suc level) parent → IsInnerPage tree parent
inner_there tree key level parent home = record { in_levels = record { level = suc level; within = home.reached.within; in_level = home.reached.in_level }; raised = omega arith }

pub starts_there : (tree : TreeView) (key : KeyBytes) (level parent : ℕ) → IsHomeAt tree.slots tree.levels key level parent → StartsUpto (slot_at tree.slots parent) key
starts_there tree key level parent home = subst (λ (o : Slot). StartsUpto o key) (sym home.reached.is) home.reached.from_low
