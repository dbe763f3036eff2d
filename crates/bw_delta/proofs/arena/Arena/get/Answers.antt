use Rattle.std.proofs.Common.{ap, slice_get, sym, ◌∙◌}
use Rattle.std.proofs.lemmas.Option.{get_or_from_slice_get, slice_get_within}
use Rattle.std.specs.Option.{option_map}
use Rattle.bw_delta.specs.Arenas.{ArenaView}
use Rattle.bw_delta.proofs.Zips.{zip_at, zip_none, zip_none_too}
use Rattle.bw_delta.proofs.arena.Arena.get.Goals as goal

pub returns-in_err-delta : goal.returns-in_err-delta
returns-in_err-delta c =
    ap (option_map _) c.from_residual.ensures
    ∙ zip_none c.args.at c.self.inside.deltas.items c.self.inside.links.items c.in_err-delta.ensures
    ∙ ap (λ (a : ArenaView). slice_get a.records c.args.at) c.self.view_is

pub returns-in_err-link : goal.returns-in_err-link
returns-in_err-link c =
    ap (option_map _) c.from_residual-in_err-link.ensures
    ∙ zip_none_too c.args.at c.self.inside.deltas.items c.self.inside.links.items c.in_err-link.ensures
    ∙ ap (λ (a : ArenaView). slice_get a.records c.args.at) c.self.view_is

pub returns : goal.returns
returns c =
    let deltas = c.self.inside.deltas.items in
    let links = c.self.inside.links.items in
    let delta = c.in_ok-delta.delta.now in
    let link = c.in_ok-link.link.now in
    zip_at c.args.at deltas links delta link c.self.invariant (slice_get_within deltas c.args.at delta (sym c.in_ok-delta.ensures))
    (sym (get_or_from_slice_get deltas c.args.at delta delta (sym c.in_ok-delta.ensures)))
    (sym (get_or_from_slice_get links c.args.at link link (sym c.in_ok-link.ensures)))
    ∙ ap (λ (a : ArenaView). slice_get a.records c.args.at) c.self.view_is
