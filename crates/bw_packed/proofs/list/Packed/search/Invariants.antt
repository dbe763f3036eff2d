use Rattle.std.proofs.Common.{slice_range}
use Rattle.bw_packed.specs.Search.{is_before}
use Rattle.bw_packed.proofs.Halving.{IsWithin}
use Rattle.bw_packed.proofs.list.Packed.search.Given as goal

abbrev pub invariant-loop-size : goal.invariant-loop-size
invariant-loop-size g l = IsWithin (λ e. is_before l.bound l.key (g.E.Keyed.key e.1 e.0)) (slice_range l.self l.start l.end) l.base l.size

abbrev pub decreases-loop-size : goal.decreases-loop-size
decreases-loop-size g l = l.size
