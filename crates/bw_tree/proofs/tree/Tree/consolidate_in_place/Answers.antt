use Rattle.std.proofs.Common.{◌∙◌, set, ap, get_or, arith}
use Rattle.bw_tree.proofs.NarrowLemmas.{narrowed_on, sound_at}
use Rattle.bw_look.proofs.RoutingLemmas.{page_at_head, page_there}
use Rattle.bw_tree.proofs.tree.Tree.consolidate_in_place.Goals as goal

pub index-head-requires : goal.index-head-requires
index-head-requires c =
    let there = page_there c.self.inside.heads.items c.self.inside.chains.bases c.self.inside.chains.records c.self.inside.root c.self.inside.next _ c.self.inside.staged _ c.args.page c.self.view_is c.self.invariant.now c.requires.in_levels in
    omega (arith, there, c.page.view_is, c.self.inside.heads.ok)

pub consolidate_in_place-requires-clause-ends : goal.consolidate_in_place-requires-clause-ends
consolidate_in_place-requires-clause-ends c =
    (page_at_head c.self.inside.heads.items c.self.inside.chains.bases c.self.inside.chains.records c.self.inside.root c.self.inside.next _ c.self.inside.staged _ c.args.page c.index-head.result.now c.self.view_is c.self.invariant.now c.requires.in_levels
    (c.index-head.ensures ∙ ap (λ n. get_or c.self.inside.heads.items n c.index-head.result.now) c.page.view_is)).ends

pub consolidate_in_place-requires-clause-sound : goal.consolidate_in_place-requires-clause-sound
consolidate_in_place-requires-clause-sound c =
    sound_at c.self.inside.heads.items c.self.inside.chains.bases c.self.inside.chains.records c.self.inside.root c.self.inside.next _ c.self.inside.staged c.args.self.now c.args.page c.index-head.result.now c.self.view_is c.self.invariant.now c.requires.in_levels
    (c.index-head.ensures ∙ ap (λ n. get_or c.self.inside.heads.items n c.index-head.result.now) c.page.view_is)

pub index_mut-requires : goal.index_mut-requires
index_mut-requires c =
    let there = page_there c.self.inside.heads.items c.self.inside.chains.bases c.self.inside.chains.records c.self.inside.root c.self.inside.next _ c.self.inside.staged _ c.args.page c.self.view_is c.self.invariant.now c.requires.in_levels in
    omega (arith, there, c.page.view_is, c.self.inside.heads.ok)

pub invariant_of-self-2 : goal.invariant_of-self-2
invariant_of-self-2 c =
    (narrowed_on c.self.inside.heads.items c.self.inside.chains.bases c.self.inside.chains.records c.self.inside.root c.self.inside.next c.self.inside.staged c.args.self.now c.self.invariant c.self.view_is c.requires.none c.args.page c.index-head.result.now c.requires.in_levels
    (c.index-head.ensures ∙ ap (λ n. get_or c.self.inside.heads.items n c.index-head.result.now) c.page.view_is) c.in-Some.word c.consolidate_in_place.new.self (rw c.in-Some.is at c.in_ok-word.ensures.ok)
    (set c.self.inside.heads.items c.page.inside.0 c.in-Some.word) (ap (λ n. set c.self.inside.heads.items n c.in-Some.word) c.page.view_is)).0

pub returns-clause-ok : goal.returns-clause-ok
returns-clause-ok c =
    (narrowed_on c.self.inside.heads.items c.self.inside.chains.bases c.self.inside.chains.records c.self.inside.root c.self.inside.next c.self.inside.staged c.args.self.now c.self.invariant c.self.view_is c.requires.none c.args.page c.index-head.result.now c.requires.in_levels
    (c.index-head.ensures ∙ ap (λ n. get_or c.self.inside.heads.items n c.index-head.result.now) c.page.view_is) c.in-Some.word c.consolidate_in_place.new.self (rw c.in-Some.is at c.in_ok-word.ensures.ok)
    (set c.self.inside.heads.items c.page.inside.0 c.in-Some.word) (ap (λ n. set c.self.inside.heads.items n c.in-Some.word) c.page.view_is)).1
