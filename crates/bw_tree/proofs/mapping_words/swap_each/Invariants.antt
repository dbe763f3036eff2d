use Rattle.bw_tree.proofs.SwappedWords.{AreSwapped}
use Rattle.bw_tree.proofs.mapping_words.swap_each.Given as goal

abbrev pub invariant-loop-place : goal.invariant-loop-place
invariant-loop-place l = AreSwapped l.fn.heads l.heads l.pages l.fn.words l.words l.place
