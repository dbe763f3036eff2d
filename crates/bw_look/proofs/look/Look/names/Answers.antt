use Rattle.std.proofs.Common.{sym, subst, Decides, arith}
use Rattle.bw_key.specs.Order.{KeyBytes}
use Rattle.bw_level.specs.Children.{HasChildAt}
use Rattle.bw_level.specs.Slots.{slot_at}
use Rattle.bw_level.specs.Turns.{StartsUpto}
use Rattle.bw_look.proofs.PageLemmas.{decides_namer, starts_above}
use Rattle.bw_look.proofs.UnnamedLemmas.{home_inner}
use Rattle.bw_look.proofs.look.Look.names.Goals as goal

pub has_child-requires-clause-inner : goal.has_child-requires-clause-inner
has_child-requires-clause-inner c = home_inner c.args.self.now _ _ c.args.parent c.requires.home (omega arith)

pub has_child-requires-clause-starts : goal.has_child-requires-clause-starts
has_child-requires-clause-starts c =
    subst (λ (k : KeyBytes). StartsUpto (slot_at c.args.self.now.slots c.args.parent) k) (sym c.low.ensures)
    (starts_above c.args.self.now c.args.self.now.root c.know_levels.ensures.lawful c.args.page c.args.parent c.requires)

pub returns : goal.returns
returns c =
    decides_namer c.args.self.now c.args.self.now.root c.know_levels.ensures.lawful c.args.page c.args.parent c.requires c.has_child.result
    (subst (λ (k : KeyBytes). Decides c.has_child.result (HasChildAt (slot_at c.args.self.now.slots c.args.parent) k c.args.page)) c.low.ensures c.has_child.ensures)
