use Rattle.std.proofs.Common.{◌≡◌, map, take}
use Rattle.bw_world.proofs.copies.copied.Given as goal

abbrev pub invariant-loop-chain : goal.invariant-loop-chain
invariant-loop-chain l = map (λ c. c.items) l.copies.items ≡ take l.chain-index (map (λ c. c.items) l.chains)
