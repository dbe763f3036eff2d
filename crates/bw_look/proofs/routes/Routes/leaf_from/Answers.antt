use Rattle.std.proofs.Common.{◌≡◌, ap, subst, ◌∙◌}
use Rattle.std.specs.Option.{option_copied}
use Rattle.bw_level.proofs.RouteLemmas.{least}
use Rattle.bw_look.specs.Routing.{IsFound, RoutesView}
use Rattle.bw_look.specs.View.{TreeView}
use Rattle.bw_look.proofs.RoutingLemmas.{home_found, home_in_row}
use Rattle.bw_look.proofs.routes.Routes.leaf_from.Goals as goal

pub search_from-found-requires-clause-starts : goal.search_from-found-requires-clause-starts
search_from-found-requires-clause-starts c = least c.args.key.now

pub end-self-inside-requires : goal.end-self-inside-requires
end-self-inside-requires c = home_in_row c.again-tree.result c.args.key c.search_from-found.result.leaf c.search_from-found.ensures.homes

pub returns-clause-found : goal.returns-clause-found
returns-clause-found c =
    let same : c.again-tree.result ≡ c.args.self.now.tree = c.again-tree.ensures ∙ ap (λ (v : RoutesView). v.tree) c.self.view_is in
    let found = c.search_from-found in
    subst (λ (t : TreeView). IsFound t c.args.key.now (option_copied c.end-self-inside.result) found.result.leaf) same
    (home_found c.again-tree.result c.args.key found.result.leaf c.end-self-inside.result found.ensures.homes found.ensures.there c.end-self-inside.ensures)
