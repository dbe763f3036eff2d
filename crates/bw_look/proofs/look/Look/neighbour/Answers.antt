use Rattle.std.proofs.Common.{IfSome, ◌≡◌, get_or, is_some, sym, ap, ◌∙◌, subst, arith}
use Rattle.bw_level.specs.Levels.{AreLevels}
use Rattle.bw_level.specs.Roots.{IsNeighbour}
use Rattle.bw_level.specs.Slots.{Slot, side_of_slot}
use Rattle.bw_level.specs.Targets.{IsLinked}
use Rattle.bw_level.proofs.AboveLemmas.{own_linked}
use Rattle.bw_look.specs.View.{TreeView}
use Rattle.bw_look.proofs.RoutingLemmas.{page_at_head, page_there}
use Rattle.bw_look.proofs.look.Look.neighbour.Goals as goal

lawful_now : (v w : TreeView) → v ≡ w → AreLevels v.slots v.root v.levels → AreLevels w.slots w.root w.levels
lawful_now v w e h = subst (λ (x : TreeView). AreLevels x.slots x.root x.levels) e h

pub index-requires : goal.index-requires
index-requires c =
    let there = page_there c.self.inside.heads.now.items _ _ _ _ _ _ c.args.self.now c.args.page c.self.view_is c.self.invariant.now c.requires in
    omega (arith, there, c.page.view_is, c.self.inside.heads.now.ok)

pub neighbour-requires-clause-ends : goal.neighbour-requires-clause-ends
neighbour-requires-clause-ends c =
    let heads = c.self.inside.heads.now.items in
    (page_at_head heads c.self.inside.chains.now.bases c.self.inside.chains.now.records c.self.inside.root c.self.inside.next _ c.self.inside.staged.now c.args.self.now c.args.page c.index.result.now c.self.view_is c.self.invariant.now c.requires
    (c.index.ensures ∙ ap (λ n. get_or heads n c.index.result.now) c.page.view_is)).ends

pub neighbour-requires-clause-linked : goal.neighbour-requires-clause-linked
neighbour-requires-clause-linked c =
    let heads = c.self.inside.heads.now.items in
    let at = page_at_head heads c.self.inside.chains.now.bases c.self.inside.chains.now.records c.self.inside.root c.self.inside.next _ c.self.inside.staged.now c.args.self.now c.args.page c.index.result.now c.self.view_is c.self.invariant.now c.requires
    (c.index.ensures ∙ ap (λ n. get_or heads n c.index.result.now) c.page.view_is) in
    subst IsLinked at.slot (own_linked _ _ _ (lawful_now _ _ c.self.view_is c.self.invariant.now.lawful) c.args.page c.requires.level c.requires.within c.requires.in_level)

pub returns-clause-there : goal.returns-clause-there
returns-clause-there c =
    let heads = c.self.inside.heads.now.items in
    let at = page_at_head heads c.self.inside.chains.now.bases c.self.inside.chains.now.records c.self.inside.root c.self.inside.next _ c.self.inside.staged.now c.args.self.now c.args.page c.index.result.now c.self.view_is c.self.invariant.now c.requires
    (c.index.ensures ∙ ap (λ n. get_or heads n c.index.result.now) c.page.view_is) in
    c.neighbour.ensures.there ∙ ap (λ (o : Slot). is_some (side_of_slot o)) (sym at.slot)

pub returns-clause-page : goal.returns-clause-page
returns-clause-page c =
    let heads = c.self.inside.heads.now.items in
    let at = page_at_head heads c.self.inside.chains.now.bases c.self.inside.chains.now.records c.self.inside.root c.self.inside.next _ c.self.inside.staged.now c.args.self.now c.args.page c.index.result.now c.self.view_is c.self.invariant.now c.requires
    (c.index.ensures ∙ ap (λ n. get_or heads n c.index.result.now) c.page.view_is) in
    subst (λ (o : Slot). IfSome c.neighbour.result (λ found. IsNeighbour o found.0 found.1.now found.2)) (sym at.slot) c.neighbour.ensures.page
