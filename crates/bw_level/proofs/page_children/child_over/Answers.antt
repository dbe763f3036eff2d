use Rattle.std.proofs.Common.{Bool, nat_eq, sym, ap, ◌∙◌, subst, Decides}
use Rattle.std.specs.FinMap.{put}
use Rattle.std.specs.List.{Contains}
use Rattle.bw_key.specs.Order.{key_cmp}
use Rattle.bw_page.specs.Pages.{below}
use Rattle.bw_delta.specs.declared.deltas.Delta.TheVariants.{AddChild, Split}
use Rattle.bw_level.specs.Searches.{plain_inner}
use Rattle.bw_level.proofs.IndexLemmas.{added_child, other_child, over_child, split_child, split_no_child}
use Rattle.bw_level.proofs.page_children.child_over.Goals as goal

pub returns-then-lt : goal.returns-then-lt
returns-then-lt c = λ bases.
    let key = c.args.key.now in
    let base = c.args.base.now in
    over_child key c.args.child bases c.args.delta c.in-Some.delta (Split c.in-Split.sep c.in-Split.to) (plain_inner base) c.child_in-there.result c.in-Some.is c.in-Split.is
    (split_child key c.in-Split.sep base.children c.args.child c.child_in-there.result (sym c.lt.ensures ∙ c.if-lt.true) c.child_in-there.ensures.there)

pub returns-else-lt : goal.returns-else-lt
returns-else-lt c = λ bases.
    let key = c.args.key.now in
    let base = c.args.base.now in
    over_child key c.args.child bases c.args.delta c.in-Some.delta (Split c.in-Split.sep c.in-Split.to) (plain_inner base) c.lt.result c.in-Some.is c.in-Split.is
    (subst (λ (r : Bool). Decides r (Contains (below c.in-Split.sep base.children) (key, c.args.child))) (sym c.if-lt.false)
    (split_no_child key c.in-Split.sep base.children c.args.child (sym c.lt.ensures ∙ c.if-lt.false)))

pub returns-then-eq : goal.returns-then-eq
returns-then-eq c = λ bases.
    let key = c.args.key.now in
    let base = c.args.base.now in
    over_child key c.args.child bases c.args.delta c.in-Some.delta (AddChild c.in-AddChild.sep c.in-AddChild.added) (plain_inner base) (nat_eq c.added.inside.0 c.child.inside.0) c.in-Some.is c.in-AddChild.is
    (subst (λ (b : Bool). Decides b (Contains (put key_cmp c.in-AddChild.sep c.in-AddChild.added base.children) (key, c.args.child)))
    (sym (ap (λ n. nat_eq n c.child.inside.0) c.added.view_is ∙ ap (λ n. nat_eq c.in-AddChild.added n) c.child.view_is))
    (added_child key c.in-AddChild.sep c.in-AddChild.added c.args.child base.children c.child_in-there.ensures.sorted (sym c.eq.ensures ∙ c.if-eq.true)))

pub returns-else-eq : goal.returns-else-eq
returns-else-eq c = λ bases.
    let key = c.args.key.now in
    let base = c.args.base.now in
    over_child key c.args.child bases c.args.delta c.in-Some.delta (AddChild c.in-AddChild.sep c.in-AddChild.added) (plain_inner base) c.child_in-there.result c.in-Some.is c.in-AddChild.is
    (other_child key c.in-AddChild.sep c.in-AddChild.added c.args.child base.children c.child_in-there.result (sym c.eq.ensures ∙ c.if-eq.false) c.child_in-there.ensures.there)
