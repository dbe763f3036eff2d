use Rattle.std.proofs.Common.{T, sym, subst, ◌∙◌}
use Rattle.bw_level.specs.Levels.{IsHome}
use Rattle.bw_scan.specs.Replaying.{ScansView}
use Rattle.bw_scan.proofs.ReplayLemmas.{kept_home}
use Rattle.bw_scan.proofs.scans.Scans.kept_home.Goals as goal

pub returns : goal.returns
returns c =
    let page = c.in_ok-page.page.now in
    let leaf = c.in_ok-leaf.leaf.now in
    subst (λ (v : ScansView). IsHome v.tree.slots v.tree.levels c.args.key.now page) c.self.view_is
    (kept_home c.self.inside.tree c.know_levels.ensures.lawful page leaf
    (c.self.invariant.read page leaf (sym c.in_ok-leaf.ensures.value))
    c.args.key.now (sym c.lt.ensures ∙ c.if-lt.false) (subst T c.if-not-is_below.ensures tt))
