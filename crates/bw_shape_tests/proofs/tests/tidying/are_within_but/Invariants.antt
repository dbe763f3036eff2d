use Rattle.std.proofs.Common.{ℕ, ◌<◌, ◌⊎◌, reverse}
use Rattle.std.specs.List.{Contains}
use Rattle.bw_tree.specs.Levels.{row}
use Rattle.bw_tree.specs.Slots.{slot_at}
use Rattle.bw_shape.specs.Limits.{IsWithin}
use Rattle.bw_shape_tests.proofs.tests.tidying.are_within_but.Given as goal

abbrev pub invariant-loop-page : goal.invariant-loop-page
invariant-loop-page l = (p : ℕ) → p < l.page → Contains (row l.tree.levels 0) p → Contains (reverse l.pages) p ⊎ IsWithin l.limits (slot_at l.tree.slots p)
