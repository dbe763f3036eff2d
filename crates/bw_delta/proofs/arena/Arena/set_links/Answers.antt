use Rattle.std.proofs.Common.{◌≡◌, ◌+◌, ◌++◌, List, ℕ, ap, sym, take, drop, length, arith, ◌∙◌}
use Rattle.std.proofs.lemmas.Slice.Zip.{firsts-zip, seconds-zip}
use Rattle.bw_delta.specs.Arenas.{ArenaView, deltas_of, links_of}
use Rattle.bw_delta.proofs.Zips.{length_put, length_zipped}
use Rattle.bw_delta.proofs.arena.Arena.set_links.Goals as goal
use Rattle.bw_delta.proofs.arena.Arena.set_links.Goals.{After-overwrite}

pub overwrite-requires : goal.overwrite-requires
overwrite-requires c =
    let both = length_zipped c.self.inside.deltas.items c.self.inside.links.items c.self.invariant in
    let seen = ap (λ (a : ArenaView). length a.records) c.self.view_is in
    omega (arith, both, seen, c.requires, c.self.invariant)

-- there are as many links as before
as_long : (c : After-overwrite) → length c.overwrite.new.self.items ≡ length c.self.inside.deltas.items
as_long c =
    let both = length_zipped c.self.inside.deltas.items c.self.inside.links.items c.self.invariant in
    let seen = ap (λ (a : ArenaView). length a.records) c.self.view_is in
    ap length c.overwrite.ensures.items
    ∙ length_put c.args.start c.args.links.now c.self.inside.links.items (omega (arith, both, seen, c.requires, c.self.invariant))
    ∙ c.self.invariant

pub invariant_of-self : goal.invariant_of-self
invariant_of-self c = as_long c

pub returns-clause-deltas : goal.returns-clause-deltas
returns-clause-deltas c =
    let deltas = c.self.inside.deltas.items in
    firsts-zip deltas c.overwrite.new.self.items (as_long c) ∙ sym (firsts-zip deltas c.self.inside.links.items c.self.invariant)
    ∙ ap (λ (a : ArenaView). deltas_of a.records) c.self.view_is

pub returns-clause-links : goal.returns-clause-links
returns-clause-links c =
    let deltas = c.self.inside.deltas.items in
    let start = c.args.start in
    let given = c.args.links.now in
    seconds-zip deltas c.overwrite.new.self.items (as_long c) ∙ c.overwrite.ensures.items
    ∙ ap (λ (l : List ℕ). take start l ++ given ++ drop (start + length given) l)
    (sym (seconds-zip deltas c.self.inside.links.items c.self.invariant) ∙ ap (λ (a : ArenaView). links_of a.records) c.self.view_is)
