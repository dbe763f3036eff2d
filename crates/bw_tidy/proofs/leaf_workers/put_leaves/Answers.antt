use Rattle.std.proofs.Common.{[], ◌∷◌, subst}
use Rattle.std.specs.List.{AllByRecursion}
use Rattle.bw_shape.proofs.SweepLemmas.{holds_on}
use Rattle.bw_tidy.specs.Findings.{IsLeafAt}
use Rattle.bw_tidy.specs.declared.findings.Finding.{Finding}
use Rattle.bw_tidy.proofs.PutLeafLemmas.{leaf_still, put_more}
use Rattle.bw_tidy.proofs.leaf_workers.put_leaves.Goals as goal

pub put_leaf-requires-clause-leaf : goal.put_leaf-requires-clause-leaf
put_leaf-requires-clause-leaf c =
    let i = c.loop-finding.invariant in
    let parts = subst (AllByRecursion (λ (finding : Finding). IsLeafAt c.args.tree.now c.args.tree.now.next finding.page finding.leaf)) c.in-Some.ensures.steps.0 i.leaves in
    leaf_still c.args.tree.now c.loop-finding.tree i.same c.in-Some.finding.page c.in-Some.finding.leaf parts.0

pub loop-finding-preserved : goal.loop-finding-preserved
loop-finding-preserved c =
    let i = c.loop-finding.invariant in
    let parts = subst (AllByRecursion (λ (finding : Finding). IsLeafAt c.args.tree.now c.args.tree.now.next finding.page finding.leaf)) c.in-Some.ensures.steps.0 i.leaves in
    record {
      same = holds_on c.args.tree.now c.loop-finding.tree c.put_leaf.new.tree i.same c.put_leaf.ensures.same;
      put = put_more c.args.tree.now c.loop-finding.tree c.put_leaf.new.tree c.loop-finding.yielded (c.in-Some.finding ∷ []) i.same i.put c.put_leaf.ensures.put;
      leaves = parts.1;
    }
