use Rattle.std.proofs.Common.{[], ◌∷◌, ◌++◌, ap, ◌∙◌}
use Rattle.std.specs.List.{zip}
use Rattle.bw_delta.specs.Arenas.{ArenaView}
use Rattle.bw_delta.proofs.Zips.{zip_append}
use Rattle.bw_delta.proofs.arena.Arena.append.Goals as goal

pub returns-clause-records : goal.returns-clause-records
returns-clause-records c =
    let deltas = c.self.inside.deltas.items in
    let links = c.self.inside.links.items in
    ap (λ l. zip l c.push_reserved-2.new.self.items) c.push_reserved.ensures.items ∙ ap (zip (deltas ++ c.args.delta ∷ [])) c.push_reserved-2.ensures.items
    ∙ zip_append deltas links (c.args.delta ∷ []) (c.args.link ∷ []) c.self.invariant ∙ ap (λ (a : ArenaView). a.records ++ (c.args.delta, c.args.link) ∷ []) c.self.view_is
