use Rattle.std.proofs.Common.{◌∙◌, sym, ap, get_or, subst, Decides, arith}
use Rattle.bw_level.specs.Children.{HasChildAt}
use Rattle.bw_level.specs.Slots.{Slot}
use Rattle.bw_level.specs.Turns.{StartsUpto}
use Rattle.bw_look.proofs.RoutingLemmas.{sound_there, page_at_head, page_there}
use Rattle.bw_look.proofs.look.Look.has_child.Goals as goal

pub index-requires : goal.index-requires
index-requires c =
    let there = page_there c.self.inside.heads.now.items c.self.inside.chains.now.bases c.self.inside.chains.now.records c.self.inside.root c.self.inside.next _ c.self.inside.staged.now _ c.args.page c.self.view_is c.self.invariant.now c.requires.inner.in_levels in
    omega (arith, there, c.page.view_is, c.self.inside.heads.now.ok)

pub has_child-requires-clause-ends : goal.has_child-requires-clause-ends
has_child-requires-clause-ends c =
    (page_at_head c.self.inside.heads.now.items c.self.inside.chains.now.bases c.self.inside.chains.now.records c.self.inside.root c.self.inside.next _ c.self.inside.staged.now _ c.args.page c.index.result.now c.self.view_is c.self.invariant.now c.requires.inner.in_levels
    (c.index.ensures ∙ ap (λ n. get_or c.self.inside.heads.now.items n c.index.result.now) c.page.view_is)).ends

pub has_child-requires-clause-inner : goal.has_child-requires-clause-inner
has_child-requires-clause-inner c =
    sound_there c.self.inside.heads.now.items c.self.inside.chains.now.bases c.self.inside.chains.now.records c.self.inside.root c.self.inside.next _ c.self.inside.staged.now _ c.args.page c.index.result.now c.self.view_is c.self.invariant.now c.requires.inner
    (c.index.ensures ∙ ap (λ n. get_or c.self.inside.heads.now.items n c.index.result.now) c.page.view_is)

pub has_child-requires-clause-starts : goal.has_child-requires-clause-starts
has_child-requires-clause-starts c =
    subst (λ (o : Slot). StartsUpto o c.args.key.now)
    (page_at_head c.self.inside.heads.now.items c.self.inside.chains.now.bases c.self.inside.chains.now.records c.self.inside.root c.self.inside.next _ c.self.inside.staged.now _ c.args.page c.index.result.now c.self.view_is c.self.invariant.now c.requires.inner.in_levels
    (c.index.ensures ∙ ap (λ n. get_or c.self.inside.heads.now.items n c.index.result.now) c.page.view_is)).slot
    c.requires.starts

pub returns : goal.returns
returns c =
    subst (λ (o : Slot). Decides c.has_child.result (HasChildAt o c.args.key.now c.args.child))
    (sym (page_at_head c.self.inside.heads.now.items c.self.inside.chains.now.bases c.self.inside.chains.now.records c.self.inside.root c.self.inside.next _ c.self.inside.staged.now _ c.args.page c.index.result.now c.self.view_is c.self.invariant.now c.requires.inner.in_levels
    (c.index.ensures ∙ ap (λ n. get_or c.self.inside.heads.now.items n c.index.result.now) c.page.view_is)).slot)
    c.has_child.ensures
