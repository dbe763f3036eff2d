use Rattle.std.proofs.Common.{◌≡◌, map, take}
use Rattle.bw_look.specs.Folding.{spare_of}
use Rattle.bw_look.proofs.look.Look.spare_on.Given as goal

abbrev pub invariant-loop-page : goal.invariant-loop-page
invariant-loop-page l = l.spares.items ≡ map (spare_of l.self l.chain_max) (take l.page-index l.pages)
