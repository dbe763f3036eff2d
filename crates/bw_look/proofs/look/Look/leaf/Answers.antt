use Rattle.std.proofs.Common.{◌∙◌, sym, ap, subst, get_or, arith}
use Rattle.std.specs.Prelude.{IfOk}
use Rattle.bw_chain.specs.LeafChains.{IsLeafChain}
use Rattle.bw_level.specs.Slots.{Slot}
use Rattle.bw_look.proofs.LeafScanLemmas.{leaf_held, leaf_at, lawful_here, read_values}
use Rattle.bw_look.proofs.look.Look.leaf.Goals as goal

pub index-requires : goal.index-requires
index-requires c =
    let held = leaf_held c.self.inside.heads.now.items c.self.inside.chains.now.bases c.self.inside.chains.now.records c.self.inside.root c.self.inside.next _ c.self.inside.staged.now _ c.self.view_is c.self.invariant.now c.args.page c.requires in
    omega (arith, held, c.page.view_is, c.self.inside.heads.now.ok)

pub leaf-requires-clause-ends : goal.leaf-requires-clause-ends
leaf-requires-clause-ends c =
    (leaf_at c.self.inside.heads.now.items c.self.inside.chains.now.bases c.self.inside.chains.now.records c.self.inside.root c.self.inside.next _ c.self.inside.staged.now _ c.self.view_is c.self.invariant.now c.args.page c.index.result.now c.requires
    (c.index.ensures ∙ ap (λ n. get_or c.self.inside.heads.now.items n c.index.result.now) c.page.view_is)).ends

pub leaf-requires-clause-leaf : goal.leaf-requires-clause-leaf
leaf-requires-clause-leaf c =
    (leaf_at c.self.inside.heads.now.items c.self.inside.chains.now.bases c.self.inside.chains.now.records c.self.inside.root c.self.inside.next _ c.self.inside.staged.now _ c.self.view_is c.self.invariant.now c.args.page c.index.result.now c.requires
    (c.index.ensures ∙ ap (λ n. get_or c.self.inside.heads.now.items n c.index.result.now) c.page.view_is)).leaf

pub returns : goal.returns
returns c =
    let at = leaf_at c.self.inside.heads.now.items c.self.inside.chains.now.bases c.self.inside.chains.now.records c.self.inside.root c.self.inside.next _ c.self.inside.staged.now _ c.self.view_is c.self.invariant.now c.args.page c.index.result.now c.requires
    (c.index.ensures ∙ ap (λ n. get_or c.self.inside.heads.now.items n c.index.result.now) c.page.view_is) in
    let read : IfOk c.leaf.result (IsLeafChain _) = subst (λ (o : Slot). IfOk c.leaf.result (IsLeafChain o)) (sym at.slot) c.leaf.ensures in
    record {
      leaf = read;
      values = read_values c.args.self.now c.self.inside.root c.args.page c.leaf.result
          (lawful_here c.self.inside.heads.now.items c.self.inside.chains.now.bases c.self.inside.chains.now.records c.self.inside.root c.self.inside.next _ c.self.inside.staged.now _ c.self.view_is c.self.invariant.now) read;
    }
