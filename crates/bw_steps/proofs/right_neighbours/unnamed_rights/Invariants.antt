use Rattle.std.proofs.Common.{◌≡◌, length}
use Rattle.bw_level.specs.Slots.{side_of}
use Rattle.bw_level.specs.Walk.{walked}
use Rattle.bw_steps.specs.Naming.{AreUnnamed, last_page}
use Rattle.bw_steps.proofs.right_neighbours.unnamed_rights.Given as goal

abbrev pub invariant-loop-entries : goal.invariant-loop-entries
invariant-loop-entries l = record {
  unnamed : AreUnnamed l.tree l.fn.page l.parent l.entries.items;
  last : l.last ≡ last_page l.fn.page l.entries.items;
}

abbrev pub decreases-loop-entries : goal.decreases-loop-entries
decreases-loop-entries l = length (walked (side_of l.tree.slots) (length l.tree.slots) l.last)
