use Rattle.std.proofs.Common.{◌≡◌, map, take}
use Rattle.bw_core.specs.Events.{longest}
use Rattle.bw_world.proofs.copies.longest.Given as goal

abbrev pub invariant-loop-page : goal.invariant-loop-page
invariant-loop-page l = map (λ c. c.items) l.chains.items ≡ take l.page (longest (map (λ c. c.items) l.mine) (map (λ c. c.items) l.others))
