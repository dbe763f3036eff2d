use Rattle.std.proofs.Common.{set, ap, ◌∙◌, get_or, sym}
use Rattle.bw_tree.specs.TreeMerges.{HasLostChild}
use Rattle.bw_look.specs.Trees.{IsTree, view_of}
use Rattle.bw_tree.proofs.TreeDropLemmas.{drops_there, lost_on, other_low}
use Rattle.bw_look.proofs.RoutingLemmas.{sound_there, page_at_head}
use Rattle.bw_tree.proofs.tree.Tree.unset_child.Goals as goal

pub drop_child-requires-clause-ends : goal.drop_child-requires-clause-ends
drop_child-requires-clause-ends c =
    (page_at_head c.self.inside.heads.items c.self.inside.chains.bases c.self.inside.chains.records c.self.inside.root c.self.inside.next _ c.self.inside.staged c.args.self.now c.args.parent c.index-head.result.now c.self.view_is c.self.invariant.now
    (drops_there c.args.self.now c.args.parent c.args.sep c.requires.page).in_levels
    (c.index-head.ensures ∙ ap (λ n. get_or c.self.inside.heads.items n c.index-head.result.now) c.parent.view_is)).ends

pub drop_child-requires-clause-inner : goal.drop_child-requires-clause-inner
drop_child-requires-clause-inner c =
    sound_there c.self.inside.heads.items c.self.inside.chains.bases c.self.inside.chains.records c.self.inside.root c.self.inside.next _ c.self.inside.staged c.args.self.now c.args.parent c.index-head.result.now c.self.view_is c.self.invariant.now
    (drops_there c.args.self.now c.args.parent c.args.sep c.requires.page)
    (c.index-head.ensures ∙ ap (λ n. get_or c.self.inside.heads.items n c.index-head.result.now) c.parent.view_is)

pub drop_child-requires-clause-other : goal.drop_child-requires-clause-other
drop_child-requires-clause-other c =
    other_low _ c.args.self.now c.args.parent c.args.sep c.requires.page.drops
    (sym (page_at_head c.self.inside.heads.items c.self.inside.chains.bases c.self.inside.chains.records c.self.inside.root c.self.inside.next _ c.self.inside.staged c.args.self.now c.args.parent c.index-head.result.now c.self.view_is c.self.invariant.now
    (drops_there c.args.self.now c.args.parent c.args.sep c.requires.page).in_levels
    (c.index-head.ensures ∙ ap (λ n. get_or c.self.inside.heads.items n c.index-head.result.now) c.parent.view_is)).slot)

-- the tree of the new words, and what it is to the old one
lost_now : (c : goal.After-self-1) →
    IsTree (set c.self.inside.heads.items c.parent.inside.0 c.in_ok-word.word) c.drop_child.new.self.bases c.drop_child.new.self.records c.self.inside.root c.self.inside.next c.self.inside.staged
    × HasLostChild c.args.self.now (view_of (set c.self.inside.heads.items c.parent.inside.0 c.in_ok-word.word) c.drop_child.new.self.bases c.drop_child.new.self.records c.self.inside.root c.self.inside.next c.self.inside.staged) c.args.parent c.args.sep
lost_now c =
    let heads = c.self.inside.heads.items in
    let word = c.in_ok-word.word in
    lost_on heads c.self.inside.chains.bases c.self.inside.chains.records c.self.inside.root c.self.inside.next c.self.inside.staged c.args.self.now c.self.view_is c.requires.none c.self.invariant c.args.parent c.args.sep c.requires.page c.in_ok-word.ensures.few
    (set heads c.parent.inside.0 word) c.drop_child.new.self.bases c.drop_child.new.self.records word c.index-head.result.now
    c.in_ok-word.ensures.ok c.in_ok-word.ensures.word (c.index-head.ensures ∙ ap (λ n. get_or heads n c.index-head.result.now) c.parent.view_is)
    (ap (λ n. set heads n word) c.parent.view_is)

pub invariant_of-self-2 : goal.invariant_of-self-2
invariant_of-self-2 c = (lost_now c).0

pub returns-clause-ok : goal.returns-clause-ok
returns-clause-ok c = (lost_now c).1
