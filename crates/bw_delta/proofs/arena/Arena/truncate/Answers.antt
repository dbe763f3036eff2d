use Rattle.std.proofs.Common.{ap, take, ◌∙◌}
use Rattle.std.specs.List.{zip}
use Rattle.bw_delta.specs.Arenas.{ArenaView}
use Rattle.bw_delta.proofs.Zips.{zip_take}
use Rattle.bw_delta.proofs.arena.Arena.truncate.Goals as goal

pub returns : goal.returns
returns c =
    let deltas = c.self.inside.deltas.items in
    ap (λ l. zip l c.truncate-2.new.self.items) c.truncate.ensures ∙ ap (zip (take c.args.len deltas)) c.truncate-2.ensures
    ∙ zip_take c.args.len deltas c.self.inside.links.items ∙ ap (λ (a : ArenaView). take c.args.len a.records) c.self.view_is
