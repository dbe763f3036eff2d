use Rattle.std.proofs.Common.{subst}
use Rattle.std.specs.Prelude.{MatchOption}
use Rattle.bw_look.specs.PageStates.{IsState}
use Rattle.bw_look.specs.Routing.{IsInNoLevel}
use Rattle.bw_shape.proofs.absorbing.count_entries.Goals as goal

pub unreachable-requires : goal.unreachable-requires
unreachable-requires c =
    let tree = c.args.tree.now in
    (subst (λ o. MatchOption o (IsInNoLevel tree c.args.page) (IsState tree c.args.page c.next_stamp.result)) c.in_default.is c.in_ok-state.ensures) c.requires.level (c.requires.within, c.requires.in_level)
