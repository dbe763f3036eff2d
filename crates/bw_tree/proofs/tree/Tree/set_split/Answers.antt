use Rattle.std.proofs.Common.{◌≡◌, set, List, ℕ, ap, ◌∙◌, get_or}
use Rattle.std.proofs.lemmas.List.{get_or_default}
use Rattle.bw_chain.specs.Placing.{put_at}
use Rattle.bw_tree.specs.TreeSplits.{IsSplit}
use Rattle.bw_look.specs.Trees.{IsTree, view_of}
use Rattle.bw_tree.proofs.IdentifierLemmas.{unused_on}
use Rattle.bw_look.proofs.RoutingLemmas.{page_at_head}
use Rattle.bw_tree.proofs.TreeSplitLemmas.{in_levels, split_on}
use Rattle.bw_tree.proofs.tree.Tree.set_split.Goals as goal

pub split-requires-clause-ends : goal.split-requires-clause-ends
split-requires-clause-ends c =
    let heads = c.self.inside.heads.items in
    (page_at_head heads c.self.inside.chains.bases c.self.inside.chains.records c.self.inside.root c.self.inside.next _ c.self.inside.staged c.args.self.now c.args.page c.index-head.result.now c.self.view_is c.self.invariant.now (in_levels c.args.self.now c.args.page c.args.keep c.requires.page)
    (c.index-head.ensures ∙ ap (λ n. get_or heads n c.index-head.result.now) c.page.view_is)).ends

-- the tree of the new words, and what it is to the old one
split_now : (c : goal.After-put_own) →
    IsTree c.put_own.new.heads.items c.split.new.self.bases c.split.new.self.records c.self.inside.root c.self.inside.next c.self.inside.staged
    × IsSplit c.args.self.now (view_of c.put_own.new.heads.items c.split.new.self.bases c.split.new.self.records c.self.inside.root c.self.inside.next c.self.inside.staged) c.args.page c.args.keep c.in_ok-to.to
split_now c =
    let heads = c.self.inside.heads.items in
    let bases = c.self.inside.chains.bases in
    let records = c.self.inside.chains.records in
    let word = c.in_ok-word.word in
    let to = c.in_ok-to.to in
    let read : c.index-head.result.now ≡ get_or heads c.args.page c.index-head.result.now = c.index-head.ensures ∙ ap (λ n. get_or heads n c.index-head.result.now) c.page.view_is in
    let at = page_at_head heads bases records c.self.inside.root c.self.inside.next _ c.self.inside.staged c.args.self.now c.args.page c.index-head.result.now c.self.view_is c.self.invariant.now (in_levels c.args.self.now c.args.page c.args.keep c.requires.page) read in
    split_on heads bases records c.self.inside.root c.self.inside.next c.self.inside.staged c.args.self.now c.self.view_is c.requires.none c.self.invariant c.args.page c.args.keep c.requires.page
    c.put_own.new.heads.items c.split.new.self.bases c.split.new.self.records to word c.index-head.result.now
    c.in_ok-word.ensures.cut (unused_on c.self.inside.heads.items c.self.inside.chains.bases c.self.inside.chains.records c.self.inside.root c.self.inside.next c.self.inside.staged c.args.self.now c.self.view_is c.self.invariant c.in_ok-to.to c.in_ok-to.ensures.place c.in_ok-to.ensures.vacant) c.in_ok-to.ensures.few c.in_ok-word.ensures.few c.in_ok-word.ensures.word (read ∙ get_or_default heads c.args.page c.index-head.result.now 0 at.there)
    (c.put_own.ensures ∙ ap (λ (h : List ℕ). put_at (set h c.page.inside.0 word) to to) c.in_ok-reserve.ensures.items ∙ ap (λ n. put_at (set heads n word) to to) c.page.view_is)

pub invariant_of-self-2 : goal.invariant_of-self-2
invariant_of-self-2 c = (split_now c).0

pub returns-clause-ok : goal.returns-clause-ok
returns-clause-ok c = (split_now c).1
