use Rattle.std.proofs.Common.{◌≡◌, ◌∷◌, ◌++◌, replicate}
use Rattle.bw_board.proofs.board.first_words.Given as goal

abbrev pub invariant-loop-i : goal.invariant-loop-i
invariant-loop-i l = l.words.items ≡ 0 ∷ (l.heads ++ replicate l.i 0)
