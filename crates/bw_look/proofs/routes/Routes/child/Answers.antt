use Rattle.std.proofs.Common.{ℕ, [], List, get_or, sym, subst}
use Rattle.bw_key.specs.Order.{KeyBytes}
use Rattle.bw_level.specs.declared.target.Target.TheVariants.{Home}
use Rattle.bw_level.specs.Levels.{AreLevels}
use Rattle.bw_level.specs.Searches.{IsSearching}
use Rattle.bw_level.proofs.SearchLemmas.{begins_under}
use Rattle.bw_look.specs.Routing.{RoutesView}
use Rattle.bw_look.proofs.routes.Routes.child.Goals as goal

pub returns-clause-begins : goal.returns-clause-begins
returns-clause-begins c =
    let tree = c.args.self.now.tree in
    let lawful : AreLevels tree.slots tree.root tree.levels = subst (λ (v : RoutesView). AreLevels v.tree.slots v.tree.root v.tree.levels) c.self.view_is c.know_levels.ensures.lawful in
    let above = c.in_ok-inner.ensures.of_tree in
    let read : KeyBytes × ℕ = ([], 0) in
    subst (IsSearching tree.slots tree.levels (Home c.args.key)) (sym (c.child.ensures read))
    (subst (λ (l : List (KeyBytes × ℕ)). IsSearching tree.slots tree.levels (Home c.args.key) (get_or l c.in_ok-place.place read).1) (sym c.children.ensures.value)
    (begins_under tree.slots tree.root tree.levels lawful (Home c.args.key) above.page c.in_ok-place.place c.in_ok-inner.inner.now read above.in_levels above.is c.children.ensures.rules c.in_ok-place.ensures))
