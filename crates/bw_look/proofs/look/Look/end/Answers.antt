use Rattle.std.proofs.Common.{◌∙◌, sym, ap, get_or, arith}
use Rattle.bw_level.specs.Scans.{high_of}
use Rattle.bw_look.proofs.LeafScanLemmas.{leaf_held, leaf_at}
use Rattle.bw_look.proofs.look.Look.end.Goals as goal

pub index-requires : goal.index-requires
index-requires c =
    let held = leaf_held c.self.inside.heads.now.items c.self.inside.chains.now.bases c.self.inside.chains.now.records c.self.inside.root c.self.inside.next _ c.self.inside.staged.now _ c.self.view_is c.self.invariant.now c.args.page c.requires in
    omega (arith, held, c.page.view_is, c.self.inside.heads.now.ok)

pub end-requires-clause-ends : goal.end-requires-clause-ends
end-requires-clause-ends c =
    (leaf_at c.self.inside.heads.now.items c.self.inside.chains.now.bases c.self.inside.chains.now.records c.self.inside.root c.self.inside.next _ c.self.inside.staged.now _ c.self.view_is c.self.invariant.now c.args.page c.index.result.now c.requires
    (c.index.ensures ∙ ap (λ n. get_or c.self.inside.heads.now.items n c.index.result.now) c.page.view_is)).ends

pub end-requires-clause-leaf : goal.end-requires-clause-leaf
end-requires-clause-leaf c =
    (leaf_at c.self.inside.heads.now.items c.self.inside.chains.now.bases c.self.inside.chains.now.records c.self.inside.root c.self.inside.next _ c.self.inside.staged.now _ c.self.view_is c.self.invariant.now c.args.page c.index.result.now c.requires
    (c.index.ensures ∙ ap (λ n. get_or c.self.inside.heads.now.items n c.index.result.now) c.page.view_is)).leaf

pub returns : goal.returns
returns c =
    let at = leaf_at c.self.inside.heads.now.items c.self.inside.chains.now.bases c.self.inside.chains.now.records c.self.inside.root c.self.inside.next _ c.self.inside.staged.now _ c.self.view_is c.self.invariant.now c.args.page c.index.result.now c.requires
    (c.index.ensures ∙ ap (λ n. get_or c.self.inside.heads.now.items n c.index.result.now) c.page.view_is) in
    c.end.ensures.high ∙ sym (ap high_of at.slot)
