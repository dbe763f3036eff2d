use Rattle.std.proofs.Common.{◌≡◌}
use Rattle.std.specs.Prelude.{vec_len}
use Rattle.bw_board_bench.proofs.bare.new_words.Given as goal

abbrev pub invariant-loop : goal.invariant-loop
invariant-loop l = vec_len l.links ≡ l.counter
