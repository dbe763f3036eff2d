use Rattle.std.proofs.Common.{◌∙◌, ap, get_or}
use Rattle.bw_delta.specs.History.{pointed_to}
use Rattle.bw_look.proofs.ContentsLemmas.{found_at, found_distinct, found_value, if_same}
use Rattle.bw_look.proofs.look.Look.value_at.Goals as goal

pub writes_at-requires-clause-ends : goal.writes_at-requires-clause-ends
writes_at-requires-clause-ends c = (found_at c.self.inside.heads.now.items c.self.inside.chains.now.bases c.self.inside.chains.now.records c.self.inside.root c.self.inside.next _ c.self.inside.staged.now _ c.args.key.now c.route-page.result c.index-head.result.now c.self.view_is c.self.invariant.now c.route-page.ensures.home (c.index-head.ensures ∙ ap (λ n. get_or c.self.inside.heads.now.items n c.index-head.result.now) c.page.view_is)).ends

pub writes_at-requires-clause-leaf : goal.writes_at-requires-clause-leaf
writes_at-requires-clause-leaf c = (found_at c.self.inside.heads.now.items c.self.inside.chains.now.bases c.self.inside.chains.now.records c.self.inside.root c.self.inside.next _ c.self.inside.staged.now _ c.args.key.now c.route-page.result c.index-head.result.now c.self.view_is c.self.invariant.now c.route-page.ensures.home (c.index-head.ensures ∙ ap (λ n. get_or c.self.inside.heads.now.items n c.index-head.result.now) c.page.view_is)).leaf

pub base_value_at-start-requires-clause-ends : goal.base_value_at-start-requires-clause-ends
base_value_at-start-requires-clause-ends c = (found_at c.self.inside.heads.now.items c.self.inside.chains.now.bases c.self.inside.chains.now.records c.self.inside.root c.self.inside.next _ c.self.inside.staged.now _ c.args.key.now c.route-page.result c.index-head.result.now c.self.view_is c.self.invariant.now c.route-page.ensures.home (c.index-head.ensures ∙ ap (λ n. get_or c.self.inside.heads.now.items n c.index-head.result.now) c.page.view_is)).ends

pub base_value_at-start-requires-clause-above : goal.base_value_at-start-requires-clause-above
base_value_at-start-requires-clause-above c = (found_at c.self.inside.heads.now.items c.self.inside.chains.now.bases c.self.inside.chains.now.records c.self.inside.root c.self.inside.next _ c.self.inside.staged.now _ c.args.key.now c.route-page.result c.index-head.result.now c.self.view_is c.self.invariant.now c.route-page.ensures.home (c.index-head.ensures ∙ ap (λ n. get_or c.self.inside.heads.now.items n c.index-head.result.now) c.page.view_is)).above

pub value_as_of-requires : goal.value_as_of-requires
value_as_of-requires c = found_distinct c.self.inside.heads.now.items c.self.inside.chains.now.bases c.self.inside.chains.now.records c.self.inside.root c.self.inside.next _ c.self.inside.staged.now _ c.args.key.now c.route-page.result c.index-head.result.now _ c.self.view_is c.self.invariant.now c.route-page.ensures.home (c.index-head.ensures ∙ ap (λ n. get_or c.self.inside.heads.now.items n c.index-head.result.now) c.page.view_is)
    (ap pointed_to c.deref.ensures.value ∙ c.in_ok-found.ensures)

pub returns : goal.returns
returns c =
    if_same c.value_as_of.result _ _
    (found_value c.self.inside.heads.now.items c.self.inside.chains.now.bases c.self.inside.chains.now.records c.self.inside.root c.self.inside.next _ c.self.inside.staged.now _ c.args.key.now c.route-page.result c.index-head.result.now c.args.stamp _ _ c.self.view_is c.self.invariant.now c.route-page.ensures.home (c.index-head.ensures ∙ ap (λ n. get_or c.self.inside.heads.now.items n c.index-head.result.now) c.page.view_is)
    (ap pointed_to c.deref.ensures.value ∙ c.in_ok-found.ensures) c.base_value_at-start.ensures)
    c.value_as_of.ensures
