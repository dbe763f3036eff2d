use Rattle.std.proofs.Common.{refl}
use Rattle.bw_tree.proofs.StageLemmas.{stage_reads_on}
use Rattle.bw_tree.proofs.tree.Tree.stage_reads.Goals as goal

pub invariant_of-self : goal.invariant_of-self
invariant_of-self c =
    (stage_reads_on c.self.inside.heads.items c.self.inside.chains.bases c.self.inside.chains.records c.self.inside.root c.self.inside.next c.self.inside.staged _ c.args.ops.now c.self.invariant c.self.view_is c.requires.none c.requires.fits c.requires.reads
    _ _ _ c.replace.ensures.after c.len-records.ensures refl).tree_is

pub returns-clause-tree : goal.returns-clause-tree
returns-clause-tree c =
    (stage_reads_on c.self.inside.heads.items c.self.inside.chains.bases c.self.inside.chains.records c.self.inside.root c.self.inside.next c.self.inside.staged _ c.args.ops.now c.self.invariant c.self.view_is c.requires.none c.requires.fits c.requires.reads
    _ _ _ c.replace.ensures.after c.len-records.ensures refl).view

pub returns-clause-reads : goal.returns-clause-reads
returns-clause-reads c =
    (stage_reads_on c.self.inside.heads.items c.self.inside.chains.bases c.self.inside.chains.records c.self.inside.root c.self.inside.next c.self.inside.staged _ c.args.ops.now c.self.invariant c.self.view_is c.requires.none c.requires.fits c.requires.reads
    _ _ _ c.replace.ensures.after c.len-records.ensures refl).reads
