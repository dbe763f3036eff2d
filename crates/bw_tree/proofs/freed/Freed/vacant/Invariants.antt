use Rattle.std.specs.BinaryHeap.{heap_len}
use Rattle.bw_tree.proofs.freed.Freed.vacant.Given as goal

abbrev pub decreases-loop-least : goal.decreases-loop-least
decreases-loop-least l = heap_len l.self.heap
