use Rattle.std.proofs.Common.{◌∙◌, ap, get_or, arith}
use Rattle.std.proofs.lemmas.Result.{IfOk-weaker}
use Rattle.bw_look.proofs.RoutingLemmas.{sound_there, page_at_head, page_there}
use Rattle.bw_look.proofs.look.Look.inner_page.Goals as goal

pub index-requires : goal.index-requires
index-requires c =
    let there = page_there c.self.inside.heads.now.items c.self.inside.chains.now.bases c.self.inside.chains.now.records c.self.inside.root c.self.inside.next _ c.self.inside.staged.now _ c.args.page c.self.view_is c.self.invariant.now c.requires.in_levels in
    omega (arith, there, c.page.view_is, c.self.inside.heads.now.ok)

pub inner_page-requires-clause-ends : goal.inner_page-requires-clause-ends
inner_page-requires-clause-ends c =
    (page_at_head c.self.inside.heads.now.items c.self.inside.chains.now.bases c.self.inside.chains.now.records c.self.inside.root c.self.inside.next _ c.self.inside.staged.now _ c.args.page c.index.result.now c.self.view_is c.self.invariant.now c.requires.in_levels
    (c.index.ensures ∙ ap (λ n. get_or c.self.inside.heads.now.items n c.index.result.now) c.page.view_is)).ends

pub inner_page-requires-clause-inner : goal.inner_page-requires-clause-inner
inner_page-requires-clause-inner c =
    sound_there c.self.inside.heads.now.items c.self.inside.chains.now.bases c.self.inside.chains.now.records c.self.inside.root c.self.inside.next _ c.self.inside.staged.now _ c.args.page c.index.result.now c.self.view_is c.self.invariant.now c.requires
    (c.index.ensures ∙ ap (λ n. get_or c.self.inside.heads.now.items n c.index.result.now) c.page.view_is)

pub returns : goal.returns
returns c =
    let at = page_at_head c.self.inside.heads.now.items c.self.inside.chains.now.bases c.self.inside.chains.now.records c.self.inside.root c.self.inside.next _ c.self.inside.staged.now _ c.args.page c.index.result.now c.self.view_is c.self.invariant.now c.requires.in_levels
    (c.index.ensures ∙ ap (λ n. get_or c.self.inside.heads.now.items n c.index.result.now) c.page.view_is) in
    IfOk-weaker c.inner_page.result _ _ (λ inner is. at.slot ∙ is) c.inner_page.ensures
