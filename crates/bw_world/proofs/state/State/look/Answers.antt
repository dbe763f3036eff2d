use Rattle.std.proofs.Common.{arith, sym, ap, subst, inl, ◌∙◌, ◌≡◌, ◌<◌, length, get_or, set}
use Rattle.std.proofs.lemmas.List.{get_or_read}
use Rattle.bw_core.specs.declared.BookView.{BookView}
use Rattle.bw_core.specs.declared.Played.TheVariants.{Done}
use Rattle.bw_core.specs.World.{World}
use Rattle.bw_core.specs.Events.{world_with, book_after_look}
use Rattle.bw_world.specs.Inside.{view_of}
use Rattle.bw_core.specs.Transitions.{IsWorld, IsFresh, MayLook, Looks}
use Rattle.bw_core.proofs.Allowed.{read_seat, seat_pages, page_heads}
use Rattle.bw_core.proofs.Lists.{inside_at}
use Rattle.bw_world.proofs.state.State.look.Goals as goal

pub index_mut-requires : goal.index_mut-requires
index_mut-requires c = let i = c.self.inside in let ok = i.books.ok in let may = subst (λ (z : World). (b : BookView) × MayLook z c.args.seat c.args.page b) (sym c.self.view_is) (c.may_look.ensures.0 c.if-not-may_look.false) in
    let h = inside_at i.books.items c.args.seat may.0 may.1.0.0 in omega arith

pub look-requires : goal.look-requires
look-requires c = let w : World = view_of c.self.inside in let k : IsWorld w = subst IsWorld (sym c.self.view_is) c.requires in
    let may = subst (λ (z : World). (b : BookView) × MayLook z c.args.seat c.args.page b) (sym c.self.view_is) (c.may_look.ensures.0 c.if-not-may_look.false) in
    let same : c.index_mut.result.now ≡ may.0 = read_seat w c.args.seat may.0 c.index_mut.result.now may.1.0 c.index_mut.ensures.value in
    subst (λ (z : BookView). (c.args.page < length z.seen) × (c.args.page < length z.ends)) (sym same) (seat_pages w k c.args.seat may.0 c.args.page may.1.0 may.1.1)

pub returns-clause-ok : goal.returns-clause-ok
returns-clause-ok c = let i = c.self.inside in let w : World = view_of i in let k : IsWorld w = subst IsWorld (sym c.self.view_is) c.requires in let seat = c.args.seat in let page = c.args.page in
    let may = subst (λ (z : World). (b : BookView) × MayLook z seat page b) (sym c.self.view_is) (c.may_look.ensures.0 c.if-not-may_look.false) in let d : BookView = may.0 in
    let same : c.index_mut.result.now ≡ d = read_seat w seat d c.index_mut.result.now may.1.0 c.index_mut.ensures.value in
    let s = c.in_ok-chain.chain.records.items in let x = c.in_ok-chain.chain.last in
    let fresh : IsFresh w page s x = subst (λ (z : World). IsFresh z page s x) (sym c.self.view_is) c.in_ok-chain.ensures in
    let head : c.index.result.now ≡ get_or i.heads.items page 0 = get_or_read i.heads.items page _ (page_heads w k page may.1.1) c.index.ensures 0 in
    let new : c.look.new.self ≡ book_after_look d page s x = c.look.ensures ∙ ap (λ (z : BookView). book_after_look z page s x) same in
    subst (λ (z : World). Looks z seat page (world_with w w.heads w.links (set w.books seat c.look.new.self)) (Done c.index.result.now)) c.self.view_is
    (inl (d, s, x, may.1, fresh, ap (λ (z : BookView). world_with w w.heads w.links (set w.books seat z)) new, ap (λ z. Done z) head))
