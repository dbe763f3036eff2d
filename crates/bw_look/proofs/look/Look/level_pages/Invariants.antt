use Rattle.std.proofs.Common.{length}
use Rattle.bw_level.specs.Slots.{side_of}
use Rattle.bw_level.specs.Walk.{walked}
use Rattle.bw_look.proofs.ShapeLemmas.{AreListed}
use Rattle.bw_look.proofs.look.Look.level_pages.Given as goal

abbrev pub invariant-loop-pages : goal.invariant-loop-pages
invariant-loop-pages l = AreListed l.self l.level l.pages.items l.page

abbrev pub decreases-loop-pages : goal.decreases-loop-pages
decreases-loop-pages l = length (walked (side_of l.self.slots) (length l.self.slots) l.page)
