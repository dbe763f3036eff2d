use Rattle.std.proofs.Common.{◌<◌, ◌+◌, ℕ, List, ap, sym, subst, ◌∙◌, arith, get_or, length, set}
use Rattle.std.proofs.lemmas.List.{take_all}
use Rattle.bw_tree.specs.PageWords.{words_of}
use Rattle.bw_tree.proofs.SwappedWords.{AreSwapped, all_there, swapped_next, swapped_none}
use Rattle.bw_look.proofs.WordLemmas.{put_none}
use Rattle.bw_tree.proofs.mapping_words.swap_each.Goals as goal

pub loop-place-init : goal.loop-place-init
loop-place-init c = swapped_none c.args.heads.now c.args.pages.now c.args.words.now c.requires.once

pub offset_bounds-heads-page-inside : goal.offset_bounds-heads-page-inside
offset_bounds-heads-page-inside c =
    let there = all_there (length c.args.heads.now) c.args.pages.now c.loop-place.place c.index-pages-place.result c.loop-place-test.true c.index-pages-place.is c.requires.there in
    omega (arith, there, c.page.view_is, c.loop-place.invariant.size)

pub bounds-heads-page-inside : goal.bounds-heads-page-inside
bounds-heads-page-inside c =
    let there = all_there (length c.args.heads.now) c.args.pages.now c.loop-place.place c.index-pages-place.result c.loop-place-test.true c.index-pages-place.is c.requires.there in
    omega (arith, there, c.page.view_is, c.loop-place.invariant.size)

pub loop-place-preserved : goal.loop-place-preserved
loop-place-preserved c =
    let place = c.loop-place.place in
    let pages = c.args.pages.now in
    let old = c.args.heads.now in
    let given = c.args.words.now in
    let page = c.index-pages-place.result in
    let there : page < length old = all_there (length old) pages place page c.loop-place-test.true c.index-pages-place.is c.requires.there in
    let next = swapped_next old c.loop-place.heads pages given c.loop-place.words place page c.loop-place-test.true c.requires.count c.index-pages-place.is there c.loop-place.invariant in
    let at = c.page.inside.0 in
    let heads = c.loop-place.heads in
    let words = c.loop-place.words in
    subst (λ (l : List ℕ). AreSwapped old l pages given (set words place c.swap.new.y) (place + 1))
    (ap (λ (p : ℕ). set heads p (get_or words place 0)) (sym c.page.view_is) ∙ ap (set heads at) (sym c.swap.ensures.x_after))
    (subst (λ (l : List ℕ). AreSwapped old (set heads page (get_or words place 0)) pages given l (place + 1))
    (ap (set words place) (ap (λ (p : ℕ). get_or heads p 0) (sym c.page.view_is) ∙ sym c.swap.ensures.y_after)) next)

pub returns-clause-heads : goal.returns-clause-heads
returns-clause-heads c =
    let n = c.loop-place.place in
    sym (put_none c.loop-place.heads c.args.pages.now c.args.words.now n (omega (arith, c.loop-place-test.false, c.requires.count))) ∙ c.loop-place.invariant.put

pub returns-clause-words : goal.returns-clause-words
returns-clause-words c =
    let n = c.loop-place.place in
    sym (take_all n c.loop-place.words (omega (arith, c.loop-place-test.false, c.requires.count, c.loop-place.invariant.count)))
    ∙ c.loop-place.invariant.taken ∙ ap (words_of c.args.heads.now) (take_all n c.args.pages.now c.loop-place-test.false)
