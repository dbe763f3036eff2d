use Rattle.std.proofs.Common.{arith, sym, ap, subst, inl, inr, ◌∙◌, ◌≡◌, ◌≢◌, ◌<◌, ℕ, length, get_or, set}
use Rattle.std.proofs.lemmas.List.{get_or_read}
use Rattle.bw_core.specs.declared.BookView.{BookView}
use Rattle.bw_core.specs.declared.Played.TheVariants.{Lost}
use Rattle.bw_core.specs.World.{World}
use Rattle.bw_core.specs.Events.{world_with, book_after_late_swap}
use Rattle.bw_world.specs.Inside.{view_of}
use Rattle.bw_core.specs.Transitions.{IsWorld, IsFresh, MayReplace, Replaces}
use Rattle.bw_core.proofs.Allowed.{read_seat, seat_pages, page_heads}
use Rattle.bw_core.proofs.Lists.{inside_at}
use Rattle.bw_world.proofs.state.State.come_late.Goals as goal

pub index_mut-requires : goal.index_mut-requires
index_mut-requires c = let i = c.self.inside in let w : World = view_of i in let k : IsWorld w = subst IsWorld (sym c.self.view_is) c.requires.world in let may = (let t = subst (λ (z : World). (b : BookView) × (spare : ℕ) × MayReplace z c.args.seat c.args.page b spare) (sym c.self.view_is) c.requires.may in t) in let ok = i.books.ok in let h = inside_at i.books.items c.args.seat may.0 may.2.0.0 in omega arith

pub come_late-requires : goal.come_late-requires
come_late-requires c = let i = c.self.inside in let w : World = view_of i in let k : IsWorld w = subst IsWorld (sym c.self.view_is) c.requires.world in let may = (let t = subst (λ (z : World). (b : BookView) × (spare : ℕ) × MayReplace z c.args.seat c.args.page b spare) (sym c.self.view_is) c.requires.may in t) in let same : c.index_mut.result.now ≡ may.0 = read_seat w c.args.seat may.0 c.index_mut.result.now may.2.0 c.index_mut.ensures.value in let t = seat_pages w k c.args.seat may.0 c.args.page may.2.0 may.2.2 in
    subst (λ (z : BookView). (c.args.page < length z.ends) × (c.args.page < length z.seen)) (sym same) (t.1, t.0)

pub returns-clause-ok : goal.returns-clause-ok
returns-clause-ok c = let i = c.self.inside in let w : World = view_of i in let k : IsWorld w = subst IsWorld (sym c.self.view_is) c.requires.world in let may = (let t = subst (λ (z : World). (b : BookView) × (spare : ℕ) × MayReplace z c.args.seat c.args.page b spare) (sym c.self.view_is) c.requires.may in t) in let same : c.index_mut.result.now ≡ may.0 = read_seat w c.args.seat may.0 c.index_mut.result.now may.2.0 c.index_mut.ensures.value in
    let seat = c.args.seat in let page = c.args.page in let d : BookView = may.0 in
    let s = c.in_ok-chain.chain.records.items in let x = c.in_ok-chain.chain.last in
    let miss = subst (λ (z : World). get_or z.heads page 0 ≢ get_or z.first page 0) (sym c.self.view_is) c.requires.miss in
    let fresh : IsFresh w page s x = subst (λ (z : World). IsFresh z page s x) (sym c.self.view_is) c.in_ok-chain.ensures in
    let head : c.index.result.now ≡ get_or i.heads.items page 0 = get_or_read i.heads.items page _ (page_heads w k page may.2.2) c.index.ensures 0 in
    let new : c.come_late.new.self ≡ book_after_late_swap d page s x = c.in_ok-come_late.ensures.ok ∙ ap (λ (z : BookView). book_after_late_swap z page s x) same in
    subst (λ (z : World). Replaces z seat page (world_with w w.heads w.links (set w.books seat c.come_late.new.self)) (Lost c.index.result.now)) c.self.view_is
    (inl (d, may.1, may.2, inr (s, x, miss, fresh, ap (λ (z : BookView). world_with w w.heads w.links (set w.books seat z)) new, ap (λ z. Lost z) head)))
