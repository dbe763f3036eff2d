use Rattle.std.proofs.Common.{drop}
use Rattle.std.specs.Option.{option_copied}
use Rattle.bw_delta.specs.History.{pointed_to}
use Rattle.bw_delta.proofs.Merges.{ArePassing}
use Rattle.bw_delta.proofs.merging.passed.Given as goal

abbrev pub invariant-loop-at : goal.invariant-loop-at
invariant-loop-at l =
    ArePassing l.key (option_copied l.fn.start) (pointed_to l.writes) (pointed_to (drop l.at l.writes)) (option_copied l.value)
