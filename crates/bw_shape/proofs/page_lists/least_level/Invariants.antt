use Rattle.std.proofs.Common.{◌<◌, IfSome}
use Rattle.bw_shape.proofs.page_lists.least_level.Given as goal

abbrev pub invariant-loop-page : goal.invariant-loop-page
invariant-loop-page l = IfSome l.least (λ n. l.level < n)
