use Rattle.std.proofs.Common.{set, ap}
use Rattle.bw_chain.proofs.OwnBaseLemmas.{own_number}
use Rattle.bw_look.specs.Trees.{IsTree, view_of}
use Rattle.bw_tree.specs.Consolidation.{IsRebased}
use Rattle.bw_tree.proofs.RebaseLemmas.{heads_there, rebased_on}
use Rattle.bw_tree.proofs.tree.Tree.rebase.Goals as goal

-- the tree of the new word and base page, and what it is to the old one
rebased_now : (c : goal.After-self-1) →
    IsTree (set c.self.inside.heads.items c.page.inside.0 c.page.inside.0) c.replace_base.new.self.bases c.replace_base.new.self.records c.self.inside.root c.self.inside.next c.self.inside.staged
    × IsRebased c.args.self.now (view_of (set c.self.inside.heads.items c.page.inside.0 c.page.inside.0) c.replace_base.new.self.bases c.replace_base.new.self.records c.self.inside.root c.self.inside.next c.self.inside.staged) c.args.page
rebased_now c =
    let heads = c.self.inside.heads.items in
    let bases = c.self.inside.chains.bases in
    let records = c.self.inside.chains.records in
    let there = heads_there heads bases records c.self.inside.root c.self.inside.next c.self.inside.staged c.args.self.now c.args.page c.self.view_is c.requires.there in
    rebased_on heads bases records c.self.inside.root c.self.inside.next c.self.inside.staged c.args.self.now c.args.page c.args.state c.self.invariant c.self.view_is c.requires.none c.requires.there c.requires.same
    (set heads c.page.inside.0 c.page.inside.0) c.replace_base.new.self.bases c.replace_base.new.self.records c.args.page
    (own_number heads bases records c.self.invariant.now.own c.args.page there)
    (ap (λ n. set heads n n) c.page.view_is) c.replace_base.ensures.bases c.replace_base.ensures.records

pub invariant_of-self : goal.invariant_of-self
invariant_of-self c = (rebased_now c).0

pub returns : goal.returns
returns c = (rebased_now c).1
