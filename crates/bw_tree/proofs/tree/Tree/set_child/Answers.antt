use Rattle.std.proofs.Common.{set, ap, ◌∙◌, get_or}
use Rattle.bw_tree.specs.TreeChildren.{IsNamed}
use Rattle.bw_look.specs.Trees.{IsTree, view_of}
use Rattle.bw_tree.proofs.TreeEntryLemmas.{named_on}
use Rattle.bw_tree.proofs.tree.Tree.set_child.Goals as goal

-- the tree of the new words, and what it is to the old one
named_now : (c : goal.After-self-1) →
    IsTree (set c.self.inside.heads.items c.parent.inside.0 c.in_ok-word.word) c.add_record.new.self.bases c.add_record.new.self.records c.self.inside.root c.self.inside.next c.self.inside.staged
    × IsNamed c.args.self.now (view_of (set c.self.inside.heads.items c.parent.inside.0 c.in_ok-word.word) c.add_record.new.self.bases c.add_record.new.self.records c.self.inside.root c.self.inside.next c.self.inside.staged) c.args.parent c.args.sep c.args.child
named_now c =
    let heads = c.self.inside.heads.items in
    let word = c.in_ok-word.word in
    named_on heads c.self.inside.chains.bases c.self.inside.chains.records c.self.inside.root c.self.inside.next c.self.inside.staged c.args.self.now c.self.view_is c.requires.none c.self.invariant c.args.parent c.args.sep c.args.child c.requires.page c.in_ok-word.ensures.few
    (set heads c.parent.inside.0 word) c.add_record.new.self.bases c.add_record.new.self.records word c.index-head.result.now
    c.in_ok-word.ensures.word (c.index-head.ensures ∙ ap (λ n. get_or heads n c.index-head.result.now) c.parent.view_is)
    (ap (λ n. set heads n word) c.parent.view_is) c.in_ok-word.ensures.bases c.in_ok-word.ensures.ok

pub invariant_of-self-2 : goal.invariant_of-self-2
invariant_of-self-2 c = (named_now c).0

pub returns-clause-ok : goal.returns-clause-ok
returns-clause-ok c = (named_now c).1
