use Rattle.std.proofs.Common.{◌≡◌, ◌-◌, ◌∙◌, ◌++◌, ◌∷◌, [], ℕ, ap, arith, slice_range, take}
use Rattle.bw_key.specs.Order.{KeyBytes}
use Rattle.bw_model.specs.Sorted.{place_of}
use Rattle.bw_page.proofs.MergingLemmas.{rest_is}
use Rattle.bw_page.proofs.children.Children.with.Goals as goal

pub returns : goal.returns
returns c =
    let own = c.args.self.now in
    let sep = c.args.sep.now in
    let at = c.place-at.result in
    let entry : KeyBytes × ℕ = (sep, c.args.child) in
    let place : at - 0 ≡ place_of sep own = omega (arith, c.place-at.ensures.value) in
    c.in_ok-extend-2.ensures.ok
    ∙ ap (λ l. l ++ slice_range own c.behind-rest.result c.len-len.result) (c.in_ok-push.ensures.ok ∙ ap (λ l. l ++ entry ∷ []) (c.in_ok-extend.ensures.ok ∙ ap (λ l. l ++ slice_range own 0 at) c.in_ok-all.ensures))
    ∙ ap (λ n. (take (at - 0) own ++ entry ∷ []) ++ slice_range own c.behind-rest.result n) c.len-len.ensures.value
    ∙ ap (λ l. (take (at - 0) own ++ entry ∷ []) ++ l) (rest_is c.behind-rest.result own)
    ∙ c.behind-rest.ensures.put 0 (omega arith) place c.args.child
