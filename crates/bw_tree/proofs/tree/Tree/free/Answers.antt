use Rattle.bw_tree.proofs.FreeLemmas.{free_on, free_within}
use Rattle.bw_tree.proofs.tree.Tree.free.Goals as goal

pub free_base-requires : goal.free_base-requires
free_base-requires c =
    free_within c.self.inside.heads.items c.self.inside.chains.bases c.self.inside.chains.records c.self.inside.root c.self.inside.next c.self.inside.staged c.args.self.now c.self.view_is c.self.invariant c.args.page c.requires.page

pub invariant_of-self-2 : goal.invariant_of-self-2
invariant_of-self-2 c =
    (free_on c.self.inside.heads.items c.self.inside.chains.bases c.self.inside.chains.records c.self.inside.root c.self.inside.next c.self.inside.staged c.args.self.now c.self.view_is c.requires.none c.self.invariant
    c.args.page c.requires.page c.free_base.new.self.bases c.free_base.new.self.records c.free_base.ensures.bases c.free_base.ensures.records).0

pub returns-clause-ok : goal.returns-clause-ok
returns-clause-ok c =
    (free_on c.self.inside.heads.items c.self.inside.chains.bases c.self.inside.chains.records c.self.inside.root c.self.inside.next c.self.inside.staged c.args.self.now c.self.view_is c.requires.none c.self.invariant
    c.args.page c.requires.page c.free_base.new.self.bases c.free_base.new.self.records c.free_base.ensures.bases c.free_base.ensures.records).1
