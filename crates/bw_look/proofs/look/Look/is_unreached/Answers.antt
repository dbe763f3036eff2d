use Rattle.std.proofs.Common.{◌≡◌, ℕ, true, false, Bool, Decides, Some, not, refl, sym, ◌∙◌}
use Rattle.bw_level.specs.Freeing.{IsUnreached}
use Rattle.bw_level.specs.Slots.{left_of}
use Rattle.bw_look.specs.View.{TreeView}
use Rattle.bw_look.proofs.UnreachedLemmas.{unreached, level_none, named_none, named_some}
use Rattle.bw_look.proofs.look.Look.is_unreached.Goals as goal

no : {P : Type 0} → (P → ⊥) → Decides false P
no none = (λ e. absurd (different e), λ p. absurd (none p))
  where
    different : false ≡ true → ⊥
    different e = cc

-- it isn't where a removed page has it on its left, and is otherwise, if nothing else leads to it
by_left : (tree : TreeView) (p : ℕ) (b : Bool) → Decides b ((q : ℕ) × (left_of tree.slots q ≡ Some p)) → (((q : ℕ) → left_of tree.slots q ≡ Some p → ⊥) → IsUnreached tree.slots tree.levels p) → Decides (not b) (IsUnreached tree.slots tree.levels p)
by_left tree p true answer gone = let there = answer.0 refl in no (λ g. g.left there.0 there.1)
by_left tree p false answer gone = (λ e. gone (λ q left. different (answer.1 (q, left))), λ g. refl)
  where
    different : false ≡ true → ⊥
    different e = cc

pub returns-then-is_some-2 : goal.returns-then-is_some-2
returns-then-is_some-2 c =
    no (named_some c.args.self.now c.know_levels.ensures.lawful c.know_entries.ensures c.args.page c.namer_of_removed.result (sym c.is_some-2.ensures ∙ c.if-is_some-2.true) c.namer_of_removed.ensures)

pub returns : goal.returns
returns c =
    by_left c.args.self.now c.args.page c.is_left.result c.is_left.ensures
    (unreached c.args.self.now c.know_levels.ensures.lawful c.know_entries.ensures c.args.page
    (level_none c.args.self.now c.know_levels.ensures.lawful c.know_entries.ensures c.args.page c.in_level.result (sym c.is_some.ensures ∙ c.if-is_some.false) c.in_level.ensures.level)
    (named_none c.args.self.now c.know_levels.ensures.lawful c.know_entries.ensures c.args.page c.namer_of_removed.result (sym c.is_some-2.ensures ∙ c.if-is_some-2.false) c.namer_of_removed.ensures))
