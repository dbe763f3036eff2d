use Rattle.std.proofs.Common.{◌≡◌, ◌-◌, ◌∙◌, ℕ, List, IfOk, ap, arith, slice_range, subst, sym, take}
use Rattle.bw_key.specs.Order.{KeyBytes}
use Rattle.bw_model.specs.Sorted.{place_of}
use Rattle.bw_page.specs.Pages.{below}
use Rattle.bw_page.proofs.Ranges.{upto_place}
use Rattle.bw_level.proofs.changed_inners.children_below.Goals as goal

pub returns : goal.returns
returns c =
    let all = c.args.inner.now.children in
    let sep = c.args.sep.now in
    let own = c.children-children.result.now in
    let n = c.place.result in
    let whole : n - 0 ≡ n = omega arith in
    let kept : slice_range own 0 n ≡ below sep all =
    ap (λ i. take i own) (whole ∙ c.place.ensures.value) ∙ ap (λ (l : List (KeyBytes × ℕ)). take (place_of sep l) l) c.children-children.ensures.value ∙ sym (upto_place sep all c.children-children.ensures.rules.page.sorted) in
    subst (λ (l : List (KeyBytes × ℕ)). IfOk c.copy.result (λ copy. copy ≡ l)) kept c.copy.ensures
