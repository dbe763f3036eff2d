use Rattle.std.proofs.Common.{ap, sym, subst}
use Rattle.bw_scan.specs.Replaying.{IsKept, ScansView}
use Rattle.bw_look.specs.View.{TreeView}
use Rattle.bw_scan.proofs.ReplayLemmas.{kept_with, kept_same}
use Rattle.bw_scan.proofs.scans.Scans.keep.Goals as goal

pub invariant_of-self : goal.invariant_of-self
invariant_of-self c = record {
  read = kept_same (IsKept c.self.inside.tree) c.self.inside.leaves c.insert.new.self c.in_err-insert.ensures.err c.self.invariant.read;
  empty = c.self.invariant.empty;
}

pub invariant_of-self-in_ok-insert : goal.invariant_of-self-in_ok-insert
invariant_of-self-in_ok-insert c = record {
  read =
      kept_with (IsKept c.self.inside.tree) c.self.inside.leaves c.insert.new.self c.args.page c.args.leaf c.in_ok-insert.ensures.updates
      (subst (λ (t : TreeView). IsKept t c.args.page c.args.leaf) (sym (ap (λ (v : ScansView). v.tree) c.self.view_is)) c.requires) c.self.invariant.read;
  empty = c.self.invariant.empty;
}

pub invariant_of-self-in_ok-insert-2 : goal.invariant_of-self-in_ok-insert-2
invariant_of-self-in_ok-insert-2 c = record {
  read =
      kept_with (IsKept c.self.inside.tree) c.self.inside.leaves c.insert.new.self c.args.page c.args.leaf c.in_ok-insert.ensures.updates
      (subst (λ (t : TreeView). IsKept t c.args.page c.args.leaf) (sym (ap (λ (v : ScansView). v.tree) c.self.view_is)) c.requires) c.self.invariant.read;
  empty = c.self.invariant.empty;
}
