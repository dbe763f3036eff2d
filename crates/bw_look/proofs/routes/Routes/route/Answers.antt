use Rattle.std.proofs.Common.{subst}
use Rattle.bw_level.specs.Levels.{AreLevels, IsHome}
use Rattle.bw_level.proofs.HomeLemmas.{one_home}
use Rattle.bw_level.proofs.RouteLemmas.{home_leaf}
use Rattle.bw_look.specs.Routing.{RoutesView}
use Rattle.bw_look.specs.View.{TreeView}
use Rattle.bw_look.proofs.routes.Routes.route.Goals as goal

pub returns-in-Some-clause-only : goal.returns-in-Some-clause-only
returns-in-Some-clause-only c = λ page home.
    let lawful = subst (λ (v : RoutesView). AreLevels v.tree.slots v.tree.root v.tree.levels) c.self.view_is c.know_levels.ensures.lawful in
    one_home _ _ _ lawful c.args.key.now page c.in-Some.leaf home c.in-Some.ensures.found.home

pub returns-in-Some-clause-leaf : goal.returns-in-Some-clause-leaf
returns-in-Some-clause-leaf c =
    let lawful = subst (λ (v : RoutesView). AreLevels v.tree.slots v.tree.root v.tree.levels) c.self.view_is c.know_levels.ensures.lawful in
    (home_leaf _ _ _ lawful c.args.key.now c.in-Some.leaf c.in-Some.ensures.found.home).1

pub returns-clause-only : goal.returns-clause-only
returns-clause-only c = λ page home.
    let lawful = subst (λ (v : RoutesView). AreLevels v.tree.slots v.tree.root v.tree.levels) c.self.view_is c.know_levels.ensures.lawful in
    let found = subst (λ (t : TreeView). IsHome t.slots t.levels c.args.key.now c.leaf_from.result) c.leaf_at.ensures.tree c.leaf_from.ensures.found.home in
    one_home _ _ _ lawful c.args.key.now page c.leaf_from.result home found

pub returns-clause-leaf : goal.returns-clause-leaf
returns-clause-leaf c =
    let lawful = subst (λ (v : RoutesView). AreLevels v.tree.slots v.tree.root v.tree.levels) c.self.view_is c.know_levels.ensures.lawful in
    let found = subst (λ (t : TreeView). IsHome t.slots t.levels c.args.key.now c.leaf_from.result) c.leaf_at.ensures.tree c.leaf_from.ensures.found.home in
    (home_leaf _ _ _ lawful c.args.key.now c.leaf_from.result found).1
