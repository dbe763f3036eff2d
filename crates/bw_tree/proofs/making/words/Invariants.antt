use Rattle.std.proofs.Common.{◌≡◌}
use Rattle.bw_tree.specs.Making.{count_from}
use Rattle.bw_tree.proofs.making.words.Given as goal

abbrev pub invariant-loop-word : goal.invariant-loop-word
invariant-loop-word l = l.words.items ≡ count_from 0 l.word
