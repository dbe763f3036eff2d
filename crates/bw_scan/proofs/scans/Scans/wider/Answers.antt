use Rattle.std.proofs.Common.{sym, subst}
use Rattle.bw_scan.specs.Gaps.{IsGap}
use Rattle.bw_scan.specs.Replaying.{ScansView}
use Rattle.bw_scan.proofs.scans.Scans.wider.Goals as goal

pub joined-requires-clause-left : goal.joined-requires-clause-left
joined-requires-clause-left c =
    let known = c.in_ok-known.known.now in
    subst (λ (v : ScansView). IsGap v.tree known) c.self.view_is (c.self.invariant.empty c.args.page known (sym c.in_ok-known.ensures.value))

pub joined-requires-in-Falling-clause-right : goal.joined-requires-in-Falling-clause-right
joined-requires-in-Falling-clause-right c =
    let known = c.in_ok-known.known.now in
    subst (λ (v : ScansView). IsGap v.tree known) c.self.view_is (c.self.invariant.empty c.args.page known (sym c.in_ok-known.ensures.value))
