use Rattle.bw_level.specs.Levels.{row}
use Rattle.bw_level.proofs.HomeLemmas.{home_value, one_home}
use Rattle.bw_look.proofs.LeafScanLemmas.{distinct_here, lawful_here}
use Rattle.bw_look.proofs.LeafRangeLemmas.{page_distinct}
use Rattle.bw_look.proofs.look.Look.know_homes.Goals as goal

pub returns-clause-one : goal.returns-clause-one
returns-clause-one c = λ key p q home other.
    let tree = c.args.self.now in
    one_home tree.slots _ tree.levels (lawful_here c.self.inside.heads.now.items c.self.inside.chains.now.bases c.self.inside.chains.now.records c.self.inside.root c.self.inside.next _ c.self.inside.staged.now _ c.self.view_is c.self.invariant.now) key q p other home

pub returns-clause-values : goal.returns-clause-values
returns-clause-values c = λ key p stamp home.
    let tree = c.args.self.now in
    home_value tree.slots _ tree.levels (lawful_here c.self.inside.heads.now.items c.self.inside.chains.now.bases c.self.inside.chains.now.records c.self.inside.root c.self.inside.next _ c.self.inside.staged.now _ c.self.view_is c.self.invariant.now)
    (distinct_here c.self.inside.heads.now.items c.self.inside.chains.now.bases c.self.inside.chains.now.records c.self.inside.root c.self.inside.next _ c.self.inside.staged.now _ c.self.view_is c.self.invariant.now) key p stamp home

pub returns-clause-distinct : goal.returns-clause-distinct
returns-clause-distinct c = λ p has.
    let tree = c.args.self.now in
    page_distinct tree.slots (row tree.levels 0) p has
    (distinct_here c.self.inside.heads.now.items c.self.inside.chains.now.bases c.self.inside.chains.now.records c.self.inside.root c.self.inside.next _ c.self.inside.staged.now _ c.self.view_is c.self.invariant.now)
