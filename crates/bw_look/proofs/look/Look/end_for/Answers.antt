use Rattle.std.proofs.Common.{◌∙◌, ap, get_or, arith}
use Rattle.std.proofs.lemmas.Option.{IfSome_then}
use Rattle.bw_level.proofs.LeafEndLemmas.{where_some}
use Rattle.bw_look.proofs.RoutingLemmas.{found_end, searched_at_head, searched_there}
use Rattle.bw_look.proofs.look.Look.end_for.Goals as goal

pub index-requires : goal.index-requires
index-requires c =
    let there = searched_there c.self.inside.heads.now.items c.self.inside.chains.now.bases c.self.inside.chains.now.records c.self.inside.root c.self.inside.next _ c.self.inside.staged.now _ c.args.target c.args.page c.self.view_is c.self.invariant.now c.requires.starts c.requires.begins in
    omega (arith, there, c.page.view_is, c.self.inside.heads.now.ok)

pub end_for-requires : goal.end_for-requires
end_for-requires c =
    (searched_at_head c.self.inside.heads.now.items c.self.inside.chains.now.bases c.self.inside.chains.now.records c.self.inside.root c.self.inside.next _ c.self.inside.staged.now _ c.args.target c.args.page c.index.result.now c.self.view_is c.self.invariant.now c.requires.starts c.requires.begins
    (c.index.ensures ∙ ap (λ n. get_or c.self.inside.heads.now.items n c.index.result.now) c.page.view_is)).ends

pub returns : goal.returns
returns c =
    let at = searched_at_head c.self.inside.heads.now.items c.self.inside.chains.now.bases c.self.inside.chains.now.records c.self.inside.root c.self.inside.next _ c.self.inside.staged.now _ c.args.target c.args.page c.index.result.now c.self.view_is c.self.invariant.now c.requires.starts c.requires.begins
    (c.index.ensures ∙ ap (λ n. get_or c.self.inside.heads.now.items n c.index.result.now) c.page.view_is) in
    IfSome_then c.end_for.result (where_some _ c.end_for.result _ c.end_for.ensures.some c.end_for.ensures.end) (λ end h.
    found_end c.self.inside.heads.now.items c.self.inside.chains.now.bases c.self.inside.chains.now.records c.self.inside.root c.self.inside.next _ c.self.inside.staged.now _ c.args.target c.args.page c.index.result.now end c.self.view_is c.self.invariant.now c.requires.begins at h.0 h.1)
