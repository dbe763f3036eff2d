use Rattle.std.proofs.Common.{◌≡◌, [], map, replicate}
use Rattle.bw_world.proofs.book.Book.new.Given as goal

abbrev pub invariant-loop-word : goal.invariant-loop-word
invariant-loop-word l = map (λ v. v.items) l.seen.items ≡ replicate l._word-index []
