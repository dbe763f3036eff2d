use Rattle.std.proofs.Common.{sym, subst}
use Rattle.bw_scan.specs.Gaps.{IsGap}
use Rattle.bw_scan.specs.Replaying.{ScansView}
use Rattle.bw_scan.proofs.scans.Scans.known_gap.Goals as goal

pub returns : goal.returns
returns c =
    let gap = c.in_ok-gap.gap.now in
    let held = c.holds_at.ensures c.if-not-holds_at.false in (
      subst (λ (v : ScansView). IsGap v.tree gap) c.self.view_is (c.self.invariant.empty c.args.page gap (sym c.in_ok-gap.ensures.value)),
      held.0,
      held.1,
    )
