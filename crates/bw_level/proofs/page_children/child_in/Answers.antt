use Rattle.std.proofs.Common.{ℕ, [], Bool, List, nat_eq, sym, subst, ap, get_or, ◌∙◌, Decides, refl}
use Rattle.std.specs.List.{Contains}
use Rattle.bw_key.specs.Order.{KeyBytes, key_eq}
use Rattle.bw_level.proofs.IndexLemmas.{last_child, no_child, not_false, not_true}
use Rattle.bw_level.proofs.page_children.child_in.Goals as goal

pub returns-then-ne-clause-there : goal.returns-then-ne-clause-there
returns-then-ne-clause-there c =
    let key = c.args.key.now in
    let children = c.args.inner.now.children in
    let place = c.last_place-place.result in
    let e = get_or children place ([], 0) in
    let sep = c.separator.ensures ([], 0) ∙ ap (λ (l : List (KeyBytes × ℕ)). (get_or l place ([], 0)).0) c.children-children.ensures.value in
    no_child key children e c.args.child (c.last_place-place.ensures.entry ([], 0) key (λ x has. refl))
    (ap (λ (k : KeyBytes). key_eq k key) (sym sep) ∙ ap (key_eq c.separator.result.now) (sym c.bytes.ensures.value) ∙ not_true _ (sym c.ne.ensures ∙ c.if-ne.true))

pub returns-clause-there : goal.returns-clause-there
returns-clause-there c =
    let key = c.args.key.now in
    let children = c.args.inner.now.children in
    let place = c.last_place-place.result in
    let e = get_or children place ([], 0) in
    let sep = c.separator.ensures ([], 0) ∙ ap (λ (l : List (KeyBytes × ℕ)). (get_or l place ([], 0)).0) c.children-children.ensures.value in
    let child_is = c.result.view_is ∙ c.child.ensures ([], 0) ∙ ap (λ (l : List (KeyBytes × ℕ)). (get_or l place ([], 0)).1) c.children-children.ensures.value in
    subst (λ (b : Bool). Decides b (Contains children (key, c.args.child)))
    (sym (ap (λ n. nat_eq n c.child-2.inside.0) child_is ∙ ap (λ n. nat_eq e.1 n) c.child-2.view_is))
    (last_child key children e c.args.child c.last_place-place.ensures.sorted (c.last_place-place.ensures.entry ([], 0) key (λ x has. refl))
    (ap (λ (k : KeyBytes). key_eq k key) (sym sep) ∙ ap (key_eq c.separator.result.now) (sym c.bytes.ensures.value) ∙ not_false _ (sym c.ne.ensures ∙ c.if-ne.false)))
