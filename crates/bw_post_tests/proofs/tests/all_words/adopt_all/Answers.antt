use Rattle.std.proofs.Common.{◌∙◌, ap, sym, subst, ℕ, List, [], ◌∷◌}
use lib.Pointwise.{bytes_decides}
use Rattle.bw_tree.specs.Stages.{IsPostedStage}
use Rattle.bw_look.specs.Words.{put_words}
use Rattle.bw_tree.proofs.SwappedWords.{spread_stage}
use Rattle.bw_post_tests.proofs.tests.all_words.adopt_all.Goals as goal

pub adopt-requires : goal.adopt-requires
adopt-requires g c =
    let tree = c.args.tree.now in
    let pages = c.args.pages.now in
    let two = c.args.two.now in
    let p = (bytes_decides pages c.as_slice.result.now).0 (sym c.eq.ensures ∙ c.if-assert.false) ∙ c.as_slice.ensures in
    let w = sym c.heads.ensures ∙ (bytes_decides c.heads.result.now c.as_slice-2.result.now).0 (sym c.eq-2.ensures ∙ c.if-assert-2.false) ∙ c.as_slice-2.ensures in
    let l = sym c.links.ensures ∙ (bytes_decides c.links.result.now c.links-2.result.now).0 (sym c.eq-3.ensures ∙ c.if-assert-3.false) ∙ c.links-2.ensures in
    let h = sym c.heads-2.ensures ∙ (bytes_decides c.heads-2.result.now c.as_slice-3.result.now).0 (sym c.eq-4.ensures ∙ c.if-assert-4.false) ∙ c.as_slice-3.ensures in
    let a = sym c.heads-3.ensures ∙ (bytes_decides c.heads-3.result.now c.as_slice-4.result.now).0 (sym c.eq-5.ensures ∙ c.if-assert-5.false) ∙ c.as_slice-4.ensures in
    let spread = spread_stage tree tree.staged pages two.heads two.links c.requires in
    subst (λ (ls : List ℕ). IsPostedStage tree tree.staged c.args.all.heads ls) l (subst (λ (hs : List ℕ). IsPostedStage tree tree.staged hs two.links)
    (ap (λ (hs : List ℕ). put_words hs pages two.heads) h ∙ ap (λ (ps : List ℕ). put_words (0 ∷ 1 ∷ 2 ∷ 3 ∷ []) ps two.heads) p ∙ ap (put_words (0 ∷ 1 ∷ 2 ∷ 3 ∷ []) (1 ∷ 2 ∷ [])) w ∙ sym a) spread)
