use Rattle.std.proofs.Common.{◌≡◌, take}
use Rattle.bw_tree.specs.PageWords.{words_of}
use Rattle.bw_post.proofs.batch_posting.heads_of.Given as goal

abbrev pub invariant-loop-page : goal.invariant-loop-page
invariant-loop-page l = l.words.items ≡ words_of l.tree.heads (take l.page-index l.pages)
