use Rattle.std.proofs.Common.{set, ap, arith}
use Rattle.bw_chain.proofs.OwnBaseLemmas.{own_number}
use Rattle.bw_look.proofs.LeafScanLemmas.{leaf_held}
use Rattle.bw_look.specs.Trees.{IsTree, view_of}
use Rattle.bw_tree.specs.Consolidation.{IsConsolidated}
use Rattle.bw_tree.proofs.ConsolidationLemmas.{consolidated_on}
use Rattle.bw_tree.proofs.tree.Tree.put_leaf.Goals as goal

pub index_mut-requires : goal.index_mut-requires
index_mut-requires c =
    let held = leaf_held c.self.inside.heads.items c.self.inside.chains.bases c.self.inside.chains.records c.self.inside.root c.self.inside.next _ c.self.inside.staged _ c.self.view_is c.self.invariant.now c.args.page c.requires.leaf in
    omega (arith, held, c.page.view_is, c.self.inside.heads.ok)

-- the tree of the new word and base page, and what it is to the old one
put_now : (c : goal.After-self-1) →
    IsTree (set c.self.inside.heads.items c.page.inside.0 c.page.inside.0) c.replace_base.new.self.bases c.replace_base.new.self.records c.self.inside.root c.self.inside.next c.self.inside.staged
    × IsConsolidated c.args.self.now (view_of (set c.self.inside.heads.items c.page.inside.0 c.page.inside.0) c.replace_base.new.self.bases c.replace_base.new.self.records c.self.inside.root c.self.inside.next c.self.inside.staged) c.args.page
put_now c =
    let heads = c.self.inside.heads.items in
    let bases = c.self.inside.chains.bases in
    let records = c.self.inside.chains.records in
    let held = leaf_held heads bases records c.self.inside.root c.self.inside.next _ c.self.inside.staged _ c.self.view_is c.self.invariant.now c.args.page c.requires.leaf in
    consolidated_on heads bases records c.self.inside.root c.self.inside.next c.self.inside.staged c.args.self.now c.args.page c.args.leaf c.self.invariant c.self.view_is c.requires.none c.requires.leaf c.requires.consolidated
    (set heads c.page.inside.0 c.page.inside.0) c.replace_base.new.self.bases c.replace_base.new.self.records c.args.page
    (own_number heads bases records c.self.invariant.now.own c.args.page held)
    (ap (λ n. set heads n n) c.page.view_is) c.replace_base.ensures.bases c.replace_base.ensures.records

pub invariant_of-self : goal.invariant_of-self
invariant_of-self c = (put_now c).0

pub returns : goal.returns
returns c = (put_now c).1
