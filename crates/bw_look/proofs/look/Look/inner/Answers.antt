use Rattle.std.proofs.Common.{◌∙◌, ap, get_or, arith}
use Rattle.std.proofs.lemmas.Option.{IfSome_then}
use Rattle.bw_look.proofs.RoutingLemmas.{page_at_head, page_there}
use Rattle.bw_look.proofs.look.Look.inner.Goals as goal

pub index-requires : goal.index-requires
index-requires c =
    let there = page_there c.self.inside.heads.now.items c.self.inside.chains.now.bases c.self.inside.chains.now.records c.self.inside.root c.self.inside.next _ c.self.inside.staged.now _ c.args.page c.self.view_is c.self.invariant.now c.requires in
    omega (arith, there, c.page.view_is, c.self.inside.heads.now.ok)

pub inner-requires : goal.inner-requires
inner-requires c =
    (page_at_head c.self.inside.heads.now.items c.self.inside.chains.now.bases c.self.inside.chains.now.records c.self.inside.root c.self.inside.next _ c.self.inside.staged.now _ c.args.page c.index.result.now c.self.view_is c.self.invariant.now c.requires
    (c.index.ensures ∙ ap (λ n. get_or c.self.inside.heads.now.items n c.index.result.now) c.page.view_is)).ends

pub returns : goal.returns
returns c =
    let at = page_at_head c.self.inside.heads.now.items c.self.inside.chains.now.bases c.self.inside.chains.now.records c.self.inside.root c.self.inside.next _ c.self.inside.staged.now _ c.args.page c.index.result.now c.self.view_is c.self.invariant.now c.requires
    (c.index.ensures ∙ ap (λ n. get_or c.self.inside.heads.now.items n c.index.result.now) c.page.view_is) in
    IfSome_then c.inner.result c.inner.ensures.page (λ inner is. at.slot ∙ is)
