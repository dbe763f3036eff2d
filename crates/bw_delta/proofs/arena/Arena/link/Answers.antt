use Rattle.std.proofs.Common.{ap, slice_get, sym, ◌∙◌}
use Rattle.std.proofs.lemmas.Slice.Zip.{seconds-zip}
use Rattle.bw_delta.specs.Arenas.{ArenaView, links_of}
use Rattle.bw_delta.proofs.arena.Arena.link.Goals as goal

pub returns : goal.returns
returns c =
    c.copied.ensures ∙ c.get.ensures
    ∙ ap (λ l. slice_get l c.args.at) (sym (seconds-zip c.self.inside.deltas.items c.self.inside.links.items c.self.invariant))
    ∙ ap (λ (a : ArenaView). slice_get (links_of a.records) c.args.at) c.self.view_is
