use Rattle.std.proofs.Common.{◌≡◌, ◌*◌, ◌<◌, ◌^◌}
use Rattle.bw_key.specs.Prefixes.{continued_by}
use Rattle.bw_key.proofs.prefixes.short_prefix.Given as goal

abbrev pub invariant-loop-place : goal.invariant-loop-place
invariant-loop-place l = (l.number ≡ continued_by l.place 0 l.bytes) × (l.number < 2 ^ (8 * l.place))
