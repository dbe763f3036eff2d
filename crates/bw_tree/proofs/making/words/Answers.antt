use Rattle.bw_tree.proofs.MakingLemmas.{counted_more}
use Rattle.bw_tree.proofs.making.words.Goals as goal

pub loop-word-preserved : goal.loop-word-preserved
loop-word-preserved c = counted_more c.loop-word.words.items c.push.new.self.items c.loop-word.word c.in_ok-push.ensures.items c.loop-word.invariant
