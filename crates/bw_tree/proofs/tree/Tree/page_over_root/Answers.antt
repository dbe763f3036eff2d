use Rattle.std.proofs.Common.{◌≡◌, ◌∙◌, suc, [], ap, get_or, rules, arith}
use Rattle.bw_level.specs.Roots.{two_children}
use Rattle.bw_tree.proofs.TreeRootLemmas.{over_sound, root_word}
use Rattle.bw_tree.proofs.tree.Tree.page_over_root.Goals as goal

pub neighbour-requires-clause-ends : goal.neighbour-requires-clause-ends
neighbour-requires-clause-ends c =
    (root_word c.self.inside.heads.items c.self.inside.chains.bases c.self.inside.chains.records c.self.inside.root c.self.inside.next c.self.inside.staged c.args.self.now c.self.view_is c.self.invariant c.index-head.result.now (c.index-head.ensures ∙ ap (λ n. get_or c.self.inside.heads.items n c.index-head.result.now) c.root.view_is)).ends

pub from_children-requires : goal.from_children-requires
from_children-requires c =
    let low : c.unwrap-low.result ≡ [] = search rules in
    let level : c.in-Some-checked_add.level ≡ suc c.in-Some.below = omega (arith, c.in-Some-checked_add.ensures) in
    let kids : c.in_ok-children.children ≡ two_children c.self.inside.root c.in-Some.high.now c.in-Some.side = search rules in
    over_sound c.self.inside.heads.items c.self.inside.chains.bases c.self.inside.chains.records c.self.inside.root c.self.inside.next c.self.inside.staged c.args.self.now c.self.view_is c.self.invariant c.index-head.result.now (c.index-head.ensures ∙ ap (λ n. get_or c.self.inside.heads.items n c.index-head.result.now) c.root.view_is)
    c.in-Some.below c.in-Some.high.now c.in-Some.side c.in-Some.ensures.page
    c.in-Some-checked_add.level c.unwrap-low.result c.in_ok-children.children level low kids
