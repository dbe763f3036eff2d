use Rattle.std.proofs.Common.{T, sym, subst}
use Rattle.std.specs.Option.{option_copied}
use Rattle.bw_level.specs.Before.{IsBefore}
use Rattle.bw_scan.specs.Replaying.{ScansView}
use Rattle.bw_scan.proofs.ReplayLemmas.{kept_before}
use Rattle.bw_scan.proofs.scans.Scans.kept_before.Goals as goal

pub returns : goal.returns
returns c =
    let page = c.match-end.last.1.now in
    let leaf = c.in_ok-leaf.leaf.now in
    subst (λ (v : ScansView). IsBefore v.tree.slots v.tree.levels (option_copied c.args.end) page) c.self.view_is
    (kept_before c.self.inside.tree c.know_levels.ensures.lawful page leaf
    (c.self.invariant.read page leaf (sym c.in_ok-leaf.ensures.value))
    (option_copied c.args.end) (subst T c.if-not-is_below.ensures tt) (c.reaches.ensures.reached c.if-not-reaches.false))
