use Rattle.std.proofs.Common.{◌≡◌, ap, subst, ◌∙◌}
use Rattle.std.specs.Option.{option_copied}
use Rattle.bw_level.proofs.RouteLemmas.{least}
use Rattle.bw_look.specs.Routing.{IsFound, RoutesView}
use Rattle.bw_look.specs.View.{TreeView}
use Rattle.bw_look.proofs.RoutingLemmas.{home_found}
use Rattle.bw_look.proofs.routes.Routes.leaf_at.Goals as goal

pub end_for-requires-clause-starts : goal.end_for-requires-clause-starts
end_for-requires-clause-starts c = least c.args.key.now

pub returns-clause-found : goal.returns-clause-found
returns-clause-found c =
    let same : c.again-tree.result ≡ c.args.self.now.tree = c.again-tree.ensures ∙ ap (λ (v : RoutesView). v.tree) c.self.view_is in
    let found = c.in_ok-end.ensures in
    subst (λ (t : TreeView). IsFound t c.args.key.now (option_copied c.in_ok-end.end) c.in_ok-page.page) same
    (home_found c.again-tree.result c.args.key c.in_ok-page.page c.in_ok-end.end found.homes found.there found.is)
