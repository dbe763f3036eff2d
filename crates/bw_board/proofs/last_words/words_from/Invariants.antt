use Rattle.std.proofs.Common.{◌≡◌, take, drop}
use Rattle.std.specs.Mem.Slots.{slots_items}
use Rattle.bw_board.proofs.last_words.words_from.Given as goal

abbrev pub invariant-loop-i : goal.invariant-loop-i
invariant-loop-i l = l.found.items ≡ take l.i (drop l.from (slots_items l.closed.words))
