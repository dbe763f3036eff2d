use Rattle.std.proofs.Common.{set, ap, ◌∙◌, get_or, arith}
use Rattle.std.proofs.lemmas.List.{get_or_default}
use Rattle.bw_tree.specs.TreeMerges.{HasMerged}
use Rattle.bw_look.specs.Trees.{IsTree, view_of}
use Rattle.bw_tree.proofs.TreeMergeLemmas.{left_at, merged_on, neighbours_at, right_at, right_low, right_there, word_of_right}
use Rattle.bw_tree.proofs.tree.Tree.set_merge.Goals as goal

pub index-right-requires : goal.index-right-requires
index-right-requires c =
    let there = right_there c.self.inside.heads.items c.self.inside.chains.bases c.self.inside.chains.records c.self.inside.root c.self.inside.next _ c.self.inside.staged c.args.self.now c.args.left c.args.page c.self.view_is c.self.invariant.now c.requires.pages in
    omega (arith, there, c.page.view_is, c.self.inside.heads.ok)

pub merge-requires-clause-ends : goal.merge-requires-clause-ends
merge-requires-clause-ends c =
    (left_at c.self.inside.heads.items c.self.inside.chains.bases c.self.inside.chains.records c.self.inside.root c.self.inside.next _ c.self.inside.staged c.args.self.now c.args.left c.args.page c.self.view_is c.self.invariant.now c.requires.pages c.index-head.result.now
    (c.index-head.ensures ∙ ap (λ n. get_or c.self.inside.heads.items n c.index-head.result.now) c.left.view_is)).ends

pub merge-requires-clause-right_ends : goal.merge-requires-clause-right_ends
merge-requires-clause-right_ends c =
    (right_at c.self.inside.heads.items c.self.inside.chains.bases c.self.inside.chains.records c.self.inside.root c.self.inside.next _ c.self.inside.staged c.args.self.now c.args.left c.args.page c.self.view_is c.self.invariant.now c.requires.pages c.index-right.result.now
    (c.index-right.ensures ∙ ap (λ n. get_or c.self.inside.heads.items n c.index-right.result.now) c.page.view_is)).ends

pub merge-requires-clause-right_plain : goal.merge-requires-clause-right_plain
merge-requires-clause-right_plain c =
    right_low c.self.inside.heads.items c.self.inside.chains.bases c.self.inside.chains.records c.self.inside.root c.self.inside.next _ c.self.inside.staged c.args.self.now c.args.left c.args.page c.self.view_is c.self.invariant.now c.requires.pages c.index-right.result.now
    (c.index-right.ensures ∙ ap (λ n. get_or c.self.inside.heads.items n c.index-right.result.now) c.page.view_is)

pub merge-requires-clause-neighbours : goal.merge-requires-clause-neighbours
merge-requires-clause-neighbours c =
    neighbours_at c.self.inside.heads.items c.self.inside.chains.bases c.self.inside.chains.records c.self.inside.root c.self.inside.next _ c.self.inside.staged c.args.self.now c.args.left c.args.page c.self.view_is c.self.invariant.now c.requires.pages c.index-head.result.now c.index-right.result.now
    (c.index-head.ensures ∙ ap (λ n. get_or c.self.inside.heads.items n c.index-head.result.now) c.left.view_is)
    (c.index-right.ensures ∙ ap (λ n. get_or c.self.inside.heads.items n c.index-right.result.now) c.page.view_is)

-- the tree of the new words, and what it is to the old one
merged_now : (c : goal.After-self-1) →
    IsTree (set c.self.inside.heads.items c.left-2.inside.0 c.in_ok-word.word) c.merge.new.self.bases c.merge.new.self.records c.self.inside.root c.self.inside.next c.self.inside.staged
    × HasMerged c.args.self.now (view_of (set c.self.inside.heads.items c.left-2.inside.0 c.in_ok-word.word) c.merge.new.self.bases c.merge.new.self.records c.self.inside.root c.self.inside.next c.self.inside.staged) c.args.left c.args.page
merged_now c =
    let heads = c.self.inside.heads.items in
    let there = (left_at c.self.inside.heads.items c.self.inside.chains.bases c.self.inside.chains.records c.self.inside.root c.self.inside.next _ c.self.inside.staged c.args.self.now c.args.left c.args.page c.self.view_is c.self.invariant.now c.requires.pages c.index-head.result.now
    (c.index-head.ensures ∙ ap (λ n. get_or c.self.inside.heads.items n c.index-head.result.now) c.left.view_is)).there in
    merged_on heads c.self.inside.chains.bases c.self.inside.chains.records c.self.inside.root c.self.inside.next c.self.inside.staged c.args.self.now c.self.view_is c.requires.none c.self.invariant c.args.left c.args.page c.requires.pages
    (set heads c.left-2.inside.0 c.in_ok-word.word) c.merge.new.self.bases c.merge.new.self.records c.in_ok-word.word c.index-head.result.now c.index-right.result.now
    c.in_ok-word.ensures.ok c.in_ok-word.ensures.few c.in_ok-word.ensures.word
    (c.index-head.ensures ∙ ap (λ n. get_or heads n c.index-head.result.now) c.left.view_is ∙ get_or_default heads c.args.left c.index-head.result.now 0 there)
    (word_of_right c.self.inside.heads.items c.self.inside.chains.bases c.self.inside.chains.records c.self.inside.root c.self.inside.next _ c.self.inside.staged c.args.self.now c.args.left c.args.page c.self.view_is c.self.invariant.now c.requires.pages c.index-right.result.now
    (c.index-right.ensures ∙ ap (λ n. get_or c.self.inside.heads.items n c.index-right.result.now) c.page.view_is))
    (ap (λ n. set heads n c.in_ok-word.word) c.left-2.view_is)

pub invariant_of-self-2 : goal.invariant_of-self-2
invariant_of-self-2 c = (merged_now c).0

pub returns-clause-ok : goal.returns-clause-ok
returns-clause-ok c = (merged_now c).1
