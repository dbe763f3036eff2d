use Rattle.std.proofs.Common.{◌∙◌, length, get_or, ap, arith}
use Rattle.std.specs.Option.{option_copied}
use Rattle.bw_look.proofs.ContentsLemmas.{if_same}
use Rattle.bw_look.proofs.RoutingLemmas.{sound_there, page_at_head, page_there}
use Rattle.bw_look.proofs.ShapeLemmas.{inner_shape, raised_page}
use Rattle.bw_look.proofs.look.Look.inner_shape.Goals as goal

pub index-requires : goal.index-requires
index-requires c =
    let there = page_there c.self.inside.heads.now.items c.self.inside.chains.now.bases c.self.inside.chains.now.records c.self.inside.root c.self.inside.next _ c.self.inside.staged.now _ c.args.page c.self.view_is c.self.invariant.now (raised_page c.args.self.now c.args.level c.args.page c.requires.page c.requires.inner).in_levels in
    omega (arith, there, c.page.view_is, c.self.inside.heads.now.ok)

pub inner_page-requires-clause-ends : goal.inner_page-requires-clause-ends
inner_page-requires-clause-ends c =
    (page_at_head c.self.inside.heads.now.items c.self.inside.chains.now.bases c.self.inside.chains.now.records c.self.inside.root c.self.inside.next _ c.self.inside.staged.now _ c.args.page c.index.result.now c.self.view_is c.self.invariant.now (raised_page c.args.self.now c.args.level c.args.page c.requires.page c.requires.inner).in_levels
    (c.index.ensures ∙ ap (λ n. get_or c.self.inside.heads.now.items n c.index.result.now) c.page.view_is)).ends

pub inner_page-requires-clause-inner : goal.inner_page-requires-clause-inner
inner_page-requires-clause-inner c =
    sound_there c.self.inside.heads.now.items c.self.inside.chains.now.bases c.self.inside.chains.now.records c.self.inside.root c.self.inside.next _ c.self.inside.staged.now _ c.args.page c.index.result.now c.self.view_is c.self.invariant.now (raised_page c.args.self.now c.args.level c.args.page c.requires.page c.requires.inner)
    (c.index.ensures ∙ ap (λ n. get_or c.self.inside.heads.now.items n c.index.result.now) c.page.view_is)

pub returns : goal.returns
returns c =
    let at = page_at_head c.self.inside.heads.now.items c.self.inside.chains.now.bases c.self.inside.chains.now.records c.self.inside.root c.self.inside.next _ c.self.inside.staged.now _ c.args.page c.index.result.now c.self.view_is c.self.invariant.now (raised_page c.args.self.now c.args.level c.args.page c.requires.page c.requires.inner).in_levels
    (c.index.ensures ∙ ap (λ n. get_or c.self.inside.heads.now.items n c.index.result.now) c.page.view_is) in
    if_same c.shape_from.result _ _
    (inner_shape c.args.self.now c.args.level c.args.page c.in_ok-inner.inner c.low.result.now (option_copied c.high.result) c.len.result (at.slot ∙ c.in_ok-inner.ensures) c.low.ensures c.high.ensures (c.len.ensures.value ∙ ap length c.children.ensures.value))
    c.shape_from.ensures
