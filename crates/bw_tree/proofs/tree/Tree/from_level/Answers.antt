use Rattle.std.proofs.Common.{◌≡◌, ◌∙◌, List, [], ◌∷◌, ◌++◌, Some, ap, sym, subst, arith, rules}
use Rattle.std.specs.List.{AllByRecursion}
use Rattle.bw_key.specs.Order.{KeyBytes}
use Rattle.bw_model.specs.Values.{ValueBytes}
use Rattle.bw_page.specs.Inners.{IsInner}
use Rattle.bw_page.specs.Leaves.{LeafView}
use Rattle.bw_look.specs.PageStates.{HasRules}
use Rattle.bw_tree.specs.Making.{terms_from}
use Rattle.bw_level.specs.Changes.{Bases}
use Rattle.bw_chain.specs.Removed.{HasNoRemoved}
use Rattle.bw_page.specs.declared.pages.Page.TheVariants.{Inner as InnerPage}
use Rattle.bw_tree.proofs.MakingLemmas.{none_removed, none_under, root_rules}
use Rattle.bw_tree.proofs.OverLemmas.{one_over, more_over, over_ok}
use Rattle.bw_tree.proofs.tree.Tree.from_level.Goals as goal

pub from_children-root-requires : goal.from_children-root-requires
from_children-root-requires c =
    let leaves = c.args.leaves.items in
    let low : c.unwrap-low.result ≡ [] = search rules in
    subst (λ (k : KeyBytes). IsInner 1 k _ _ c.in_ok-children.children) (sym low)
    (subst (λ (cs : List _). IsInner 1 [] _ _ cs) (sym (c.in_ok-children.ensures.items ∙ ap (terms_from 0) c.deref.ensures.value))
    (root_rules leaves c.requires (subst (λ (ls : List (LeafView ValueBytes)). AllByRecursion HasRules ls) c.deref.ensures.value c.in_ok-children.ensures.rules)))

pub over-requires-clause-tree : goal.over-requires-clause-tree
over-requires-clause-tree c =
    (more_over c.in_ok-bases.bases.items c.push.new.self.items c.args.leaves.items c.from_children-root.result c.requires
    (subst (λ (ls : List (LeafView ValueBytes)). AllByRecursion HasRules ls) c.deref.ensures.value c.in_ok-children.ensures.rules)
    c.in_ok-bases.ensures (omega (arith, c.if-len-gt1.true, c.len-2.ensures)) (omega (arith, c.if-len-ge-FLOOR.false, c.len.ensures, c.args.leaves.ok))
    c.from_children-root.ensures.level (c.from_children-root.ensures.low ∙ search rules) c.from_children-root.ensures.high c.from_children-root.ensures.side
    (c.from_children-root.ensures.children ∙ c.in_ok-children.ensures.items ∙ ap (terms_from 0) c.deref.ensures.value)
    c.in_ok-push.ensures.ok).tree

pub returns-then-len-gt1 : goal.returns-then-len-gt1
returns-then-len-gt1 c =
    over_ok c.over.result c.push.new.self.items c.args.leaves.items
    (more_over c.in_ok-bases.bases.items c.push.new.self.items c.args.leaves.items c.from_children-root.result c.requires
    (subst (λ (ls : List (LeafView ValueBytes)). AllByRecursion HasRules ls) c.deref.ensures.value c.in_ok-children.ensures.rules)
    c.in_ok-bases.ensures (omega (arith, c.if-len-gt1.true, c.len-2.ensures)) (omega (arith, c.if-len-ge-FLOOR.false, c.len.ensures, c.args.leaves.ok))
    c.from_children-root.ensures.level (c.from_children-root.ensures.low ∙ search rules) c.from_children-root.ensures.high c.from_children-root.ensures.side
    (c.from_children-root.ensures.children ∙ c.in_ok-children.ensures.items ∙ ap (terms_from 0) c.deref.ensures.value)
    c.in_ok-push.ensures.ok)
    c.over.ensures

pub over-requires-2-clause-tree : goal.over-requires-2-clause-tree
over-requires-2-clause-tree c =
    (one_over c.in_ok-bases.bases.items c.args.leaves.items c.requires
    (subst (λ (ls : List (LeafView ValueBytes)). AllByRecursion HasRules ls) c.deref.ensures.value c.in_ok-children.ensures.rules)
    c.in_ok-bases.ensures (omega (arith, c.if-len-gt1.false, c.len-2.ensures))).tree

pub returns : goal.returns
returns c =
    over_ok c.over-2.result c.in_ok-bases.bases.items c.args.leaves.items
    (one_over c.in_ok-bases.bases.items c.args.leaves.items c.requires
    (subst (λ (ls : List (LeafView ValueBytes)). AllByRecursion HasRules ls) c.deref.ensures.value c.in_ok-children.ensures.rules)
    c.in_ok-bases.ensures (omega (arith, c.if-len-gt1.false, c.len-2.ensures)))
    c.over-2.ensures

pub over-requires-clause-none : goal.over-requires-clause-none
over-requires-clause-none c =
    subst HasNoRemoved (sym (c.in_ok-push.ensures.ok ∙ ap (λ (bs : Bases). bs ++ Some (InnerPage c.from_children-root.result) ∷ []) c.in_ok-bases.ensures))
    (none_under c.args.leaves.items c.from_children-root.result)

pub over-requires-2-clause-none : goal.over-requires-2-clause-none
over-requires-2-clause-none c = subst HasNoRemoved (sym c.in_ok-bases.ensures) (none_removed c.args.leaves.items)
