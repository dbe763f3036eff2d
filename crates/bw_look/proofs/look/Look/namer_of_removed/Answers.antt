use Rattle.std.proofs.Common.{◌≡◌, ℕ, suc, ◌+◌, true, false, sym, ap, ◌∙◌, subst, arith}
use Rattle.std.specs.Option.{option_copied}
use Rattle.bw_key.specs.Order.{KeyBytes}
use Rattle.bw_level.specs.Levels.{IsHomeAt}
use Rattle.bw_level.specs.Slots.{slot_at}
use Rattle.bw_look.specs.View.{TreeView}
use Rattle.bw_look.proofs.RemovedLemmas.{gone_of, inner_there, none_removed, none_there}
use Rattle.bw_look.proofs.look.Look.namer_of_removed.Goals as goal

different : true ≡ false → ⊥
different e = cc

next_level : (n : ℕ) → n + 1 ≡ suc n
next_level n = omega arith

home_there : (tree : TreeView) (key : KeyBytes) (level parent : ℕ) → IsHomeAt tree.slots tree.levels key (level + 1) parent → IsHomeAt tree.slots tree.levels key (suc level) parent
home_there tree key level parent home = subst (λ n. IsHomeAt tree.slots tree.levels key n parent) (next_level level) home

pub returns-in_default : goal.returns-in_default
returns-in_default c = none_removed c.args.self.now c.args.page (sym c.removed.ensures ∙ ap option_copied c.in_default.is)

pub has_child-requires-clause-inner : goal.has_child-requires-clause-inner
has_child-requires-clause-inner c = inner_there c.args.self.now _ _ c.in-Some-above.parent (home_there c.args.self.now _ _ c.in-Some-above.parent c.in-Some-above.ensures)

pub returns : goal.returns
returns c =
    none_there c.args.self.now c.args.page c.in-Some.removed.now (gone_of (slot_at c.args.self.now.slots c.args.page) c.removed.result c.in-Some.removed c.removed.ensures c.in-Some.is) c.args.self.now.root c.know_levels.ensures.lawful c.in-Some-above.parent
    (home_there c.args.self.now _ _ c.in-Some-above.parent c.in-Some-above.ensures)
    (λ named. different (sym (c.has_child.ensures.1 named) ∙ c.if-has_child.false))
