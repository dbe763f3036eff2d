use Rattle.std.specs.List.{AllByRecursion}
use Rattle.bw_shape.specs.Sweeps.{HoldsSame}
use Rattle.bw_tidy.specs.Findings.{ArePut, IsLeafAt}
use Rattle.bw_tidy.proofs.leaf_workers.put_leaves.Given as goal

abbrev pub invariant-loop-finding : goal.invariant-loop-finding
invariant-loop-finding l = record {
  same : HoldsSame l.fn.tree l.tree;
  put : ArePut l.fn.tree l.tree l.yielded;
  leaves : AllByRecursion (λ finding. IsLeafAt l.fn.tree l.fn.tree.next finding.page finding.leaf) l.finding-iterator.rest.items;
}
