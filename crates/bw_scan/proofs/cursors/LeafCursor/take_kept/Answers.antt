use Rattle.std.proofs.Common.{T, sym, subst, ◌∙◌}
use Rattle.std.specs.Prelude.{IfSome}
use Rattle.bw_scan.specs.Cursors.{IsLeafOf}
use Rattle.bw_scan.specs.Replaying.{IsKept, ScansView}
use Rattle.bw_scan.proofs.ReplayLemmas.{kept_home}
use Rattle.bw_scan.proofs.cursors.LeafCursor.take_kept.Goals as goal

pub returns-clause-leaf : goal.returns-clause-leaf
returns-clause-leaf c =
    let tree = c.self.inside.tree in
    let page = c.in_ok-page.page in
    let leaf = c.in_ok-page.leaf in
    let kept : IsKept tree page leaf = subst (λ o. IfSome o (λ k. IsKept tree k.0 k.1)) (sym c.take.ensures.value ∙ c.in_ok-page.was) c.self.invariant in
    subst (λ (v : ScansView). IsLeafOf v.tree c.args.key.now (page, leaf)) c.self.view_is
    (record {
      home = kept_home tree c.know_levels.ensures.lawful page leaf kept c.args.key.now (sym c.lt.ensures ∙ c.if-lt.false) (subst T c.if-not-is_below.ensures tt);
      read = kept.read;
    })
