use Rattle.std.proofs.Common.{ℕ, ◌-◌, ◌<◌, ◌≤◌, List, length, slice_index}
use Rattle.bw_core.specs.World.{Meets}
use Rattle.bw_board.proofs.last_words.last_word.Given as goal

abbrev pub invariant-loop-i : goal.invariant-loop-i
invariant-loop-i l = (whole : List ℕ) × (rest : List ℕ) × (x : ℕ) × Meets l.floor l.links (slice_index l.heads l.page) whole x × Meets l.floor l.links l.word rest x × (x < l.floor) × (length rest ≤ length l.links - l.i)
