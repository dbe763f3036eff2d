use Rattle.std.proofs.Common.{ap, length, arith}
use Rattle.bw_delta.specs.Arenas.{ArenaView}
use Rattle.bw_delta.proofs.Zips.{length_zipped}
use Rattle.bw_delta.proofs.arena.Arena.len.Goals as goal

pub returns : goal.returns
returns c =
    let both = length_zipped c.self.inside.deltas.items c.self.inside.links.items c.self.invariant in
    let seen = ap (λ (a : ArenaView). length a.records) c.self.view_is in
    omega (arith, both, seen, c.len.ensures)
