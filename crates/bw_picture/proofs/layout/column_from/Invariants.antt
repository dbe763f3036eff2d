use Rattle.std.proofs.Common.{◌≡◌, ◌-◌, length}
use Rattle.std.specs.Option.{option_copied}
use Rattle.bw_picture.specs.Layout.{column_from}
use Rattle.bw_picture.proofs.layout.column_from.Given as goal

abbrev pub invariant-loop-column : goal.invariant-loop-column
invariant-loop-column l =
    column_from l.pages l.column (option_copied l.end)
    ≡ column_from l.pages l.from (option_copied l.end)

abbrev pub decreases-loop-column : goal.decreases-loop-column
decreases-loop-column l = length l.pages - l.column
