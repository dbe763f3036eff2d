use Rattle.std.proofs.Common.{rules, sym, subst, ◌≡◌, ◌≢◌, ◌+◌, ◌∷◌, ◌++◌, [], slice_index}
use Rattle.bw_board.specs.Public.{AreSwapped}
use Rattle.bw_board.proofs.Ends.{swapped_same, swapped_more}
use Rattle.bw_board.proofs.last_words.replaced_pages.Goals as goal
use Rattle.bw_board.proofs.last_words.replaced_pages.Goals.{then-last_word-first+in_ok-push, else-last_word-first}

pub loop-page-preserved : goal.loop-page-preserved
loop-page-preserved c = let e = c.last_word.ensures.end in elim c.if-last_word-first.branch [
  | then-last_word-first+in_ok-push w ↦ (let other : c.last_word.result ≢ slice_index c.args.first.now c.loop-page.page = search rules in
      let items : c.if-last_word-first.found.items ≡ c.loop-page.found.items ++ c.loop-page.page ∷ [] = search rules in
      subst (AreSwapped c.args.first.now c.args.floor c.args.heads.now c.args.links.now (c.loop-page.page + 1)) (sym items)
      (swapped_more c.args.first.now c.args.floor c.args.heads.now c.args.links.now c.loop-page.page c.loop-page.found.items c.last_word.result c.loop-page.invariant e other))
  | else-last_word-first w ↦ (let same : c.last_word.result ≡ slice_index c.args.first.now c.loop-page.page = search rules in
      let items : c.if-last_word-first.found.items ≡ c.loop-page.found.items = search rules in
      subst (AreSwapped c.args.first.now c.args.floor c.args.heads.now c.args.links.now (c.loop-page.page + 1)) (sym items)
      (swapped_same c.args.first.now c.args.floor c.args.heads.now c.args.links.now c.loop-page.page c.loop-page.found.items c.last_word.result c.loop-page.invariant e same))
]
