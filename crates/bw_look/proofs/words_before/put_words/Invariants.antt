use Rattle.std.proofs.Common.{◌≡◌, drop}
use Rattle.bw_look.specs.Words.{put_words}
use Rattle.bw_look.proofs.words_before.put_words.Given as goal

abbrev pub invariant-loop-place : goal.invariant-loop-place
invariant-loop-place l = put_words l.heads (drop l.place l.pages) (drop l.place l.words) ≡ put_words l.fn.heads l.pages l.words
