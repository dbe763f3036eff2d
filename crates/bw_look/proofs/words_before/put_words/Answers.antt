use Rattle.std.proofs.Common.{◌+◌, ℕ, List, ap, sym, ◌∙◌, arith, drop, get_or, set}
use Rattle.std.proofs.lemmas.List.{set_past}
use Rattle.bw_look.specs.Words.{put_words}
use Rattle.bw_look.proofs.WordLemmas.{put_next, put_none}
use Rattle.bw_look.proofs.words_before.put_words.Goals as goal
use Rattle.bw_look.proofs.words_before.put_words.Goals.{then-at-heads, else-at-heads}

pub loop-place-preserved : goal.loop-place-preserved
loop-place-preserved c =
    let place = c.loop-place.place in
    let pages = c.args.pages.now in
    let words = c.args.words.now in
    let next = put_next c.loop-place.heads pages words place c.index-pages-place.result (omega (arith, c.loop-place-test.true, c.min-place-end.ensures)) (omega (arith, c.loop-place-test.true, c.min-place-end.ensures)) c.index-pages-place.is in
    let rest = λ (l : List ℕ). put_words l (drop (place + 1) pages) (drop (place + 1) words) in
    elim c.if-at-heads.branch [
      | then-at-heads w ↦ ap rest (w.heads-is ∙ ap (λ (p : ℕ). set c.loop-place.heads p (get_or words place 0)) c.page.view_is) ∙ sym next ∙ c.loop-place.invariant
      | else-at-heads w ↦ ap rest (w.heads-is ∙ sym (set_past c.loop-place.heads c.index-pages-place.result (get_or words place 0) (omega (arith, w.if-at-heads.false, c.page.view_is)))) ∙ sym next ∙ c.loop-place.invariant
    ]

pub returns : goal.returns
returns c = sym (put_none c.loop-place.heads c.args.pages.now c.args.words.now c.loop-place.place (omega (arith, c.loop-place-test.false, c.min-place-end.ensures))) ∙ c.loop-place.invariant
