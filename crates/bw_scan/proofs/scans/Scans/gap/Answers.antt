use Rattle.std.proofs.Common.{ap, sym, subst}
use Rattle.bw_scan.specs.Gaps.{IsGap}
use Rattle.bw_scan.specs.Replaying.{ScansView}
use Rattle.bw_look.specs.View.{TreeView}
use Rattle.bw_scan.proofs.ReplayLemmas.{kept_same, kept_with}
use Rattle.bw_scan.proofs.scans.Scans.gap.Goals as goal

pub invariant_of-self : goal.invariant_of-self
invariant_of-self c = record {
  read = c.self.invariant.read;
  empty =
      kept_with (λ p. IsGap c.self.inside.tree) c.self.inside.gaps c.insert.new.self c.args.page c.in-Some-leaf_gap.gap c.in_ok-insert.ensures.updates
      (subst (λ (t : TreeView). IsGap t c.in-Some-leaf_gap.gap) (sym (ap (λ (v : ScansView). v.tree) c.self.view_is)) c.in-Some-leaf_gap.ensures.0) c.self.invariant.empty;
}

pub invariant_of-self-in_err-insert : goal.invariant_of-self-in_err-insert
invariant_of-self-in_err-insert c = record {
  read = c.self.invariant.read;
  empty = kept_same (λ p. IsGap c.self.inside.tree) c.self.inside.gaps c.insert.new.self c.in_err-insert.ensures.err c.self.invariant.empty;
}
