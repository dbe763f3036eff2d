use Rattle.std.proofs.Common.{sym, subst, ◌∙◌}
use Rattle.bw_level.specs.Slots.{slot_at}
use Rattle.bw_scan.specs.Replaying.{IsKept, IsReadLeaf, ScansView}
use Rattle.bw_scan.proofs.ReplayLemmas.{kept_without}
use Rattle.bw_scan.proofs.scans.Scans.take_kept.Goals as goal

pub invariant_of-self : goal.invariant_of-self
invariant_of-self c = record {
  read = kept_without (IsKept c.self.inside.tree) c.self.inside.leaves c.remove.new.self c.args.page c.remove.ensures.updates c.self.invariant.read;
  empty = c.self.invariant.empty;
}

pub invariant_of-self-then-stamp : goal.invariant_of-self-then-stamp
invariant_of-self-then-stamp c = record {
  read = kept_without (IsKept c.self.inside.tree) c.self.inside.leaves c.remove.new.self c.args.page c.remove.ensures.updates c.self.invariant.read;
  empty = c.self.invariant.empty;
}

pub invariant_of-self-2 : goal.invariant_of-self-2
invariant_of-self-2 c = record {
  read = kept_without (IsKept c.self.inside.tree) c.self.inside.leaves c.remove.new.self c.args.page c.remove.ensures.updates c.self.invariant.read;
  empty = c.self.invariant.empty;
}

pub returns-clause-leaf : goal.returns-clause-leaf
returns-clause-leaf c =
    subst (λ (v : ScansView). IsReadLeaf (slot_at v.tree.slots c.args.page) c.in_ok-leaf.leaf) c.self.view_is
    (c.self.invariant.read c.args.page c.in_ok-leaf.leaf (sym (sym c.in_ok-leaf.was ∙ c.remove.ensures.value))).read
