use Rattle.bw_look.proofs.BoundLemmas.{leaf_bounded}
use Rattle.bw_look.proofs.LeafScanLemmas.{distinct_here, lawful_here}
use Rattle.bw_look.proofs.look.Look.know_pairs.Goals as goal

pub returns : goal.returns
returns c = λ p has.
    leaf_bounded c.args.self.now _
    (lawful_here c.self.inside.heads.now.items c.self.inside.chains.now.bases c.self.inside.chains.now.records c.self.inside.root c.self.inside.next _ c.self.inside.staged.now _ c.self.view_is c.self.invariant.now)
    (distinct_here c.self.inside.heads.now.items c.self.inside.chains.now.bases c.self.inside.chains.now.records c.self.inside.root c.self.inside.next _ c.self.inside.staged.now _ c.self.view_is c.self.invariant.now) p has
