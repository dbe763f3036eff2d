use Rattle.std.proofs.Common.{arith, sym, ap, subst, inl, inr, ◌∙◌, ◌≡◌, ◌≢◌, ◌<◌, length, get_or, set}
use Rattle.std.proofs.lemmas.List.{get_or_read}
use Rattle.bw_core.specs.declared.BookView.{BookView}
use Rattle.bw_core.specs.declared.Played.TheVariants.{Lost}
use Rattle.bw_core.specs.World.{World}
use Rattle.bw_core.specs.Events.{world_with, book_after_loss}
use Rattle.bw_world.specs.Inside.{view_of}
use Rattle.bw_core.specs.Transitions.{IsWorld, IsFresh, MayTry, Tries}
use Rattle.bw_core.proofs.Allowed.{read_seat, seat_pages, page_heads, tried, tried_few}
use Rattle.bw_core.proofs.Lists.{inside_at}
use Rattle.bw_world.proofs.state.State.lose.Goals as goal

pub chain-requires-clause-page : goal.chain-requires-clause-page
chain-requires-clause-page c = let may = c.requires.may in (tried c.args.self.now c.requires.world c.args.seat c.args.rec c.args.page may.0 c.args.lost may.1).on_page

pub index_mut-requires : goal.index_mut-requires
index_mut-requires c = let i = c.self.inside in let w : World = view_of i in let k : IsWorld w = subst IsWorld (sym c.self.view_is) c.requires.world in let may = subst (λ (z : World). (b : BookView) × MayTry z c.args.seat c.args.rec c.args.page b c.args.lost) (sym c.self.view_is) c.requires.may in let ok = i.books.ok in let h = inside_at i.books.items c.args.seat may.0 may.1.0.0 in omega arith

pub lose-requires-clause-pages : goal.lose-requires-clause-pages
lose-requires-clause-pages c = let i = c.self.inside in let w : World = view_of i in let k : IsWorld w = subst IsWorld (sym c.self.view_is) c.requires.world in let may = subst (λ (z : World). (b : BookView) × MayTry z c.args.seat c.args.rec c.args.page b c.args.lost) (sym c.self.view_is) c.requires.may in let same : c.index_mut.result.now ≡ may.0 = read_seat w c.args.seat may.0 c.index_mut.result.now may.1.0 c.index_mut.ensures.value in
    subst (λ (z : BookView). (c.args.page < length z.seen) × (c.args.page < length z.ends)) (sym same) (seat_pages w k c.args.seat may.0 c.args.page may.1.0 (tried w k c.args.seat c.args.rec c.args.page may.0 c.args.lost may.1).on_page)

pub lose-requires-clause-few : goal.lose-requires-clause-few
lose-requires-clause-few c = let may = c.requires.may in tried_few c.args.self.now c.requires.world c.args.seat c.args.rec c.args.page may.0 c.args.lost may.1

pub index-requires : goal.index-requires
index-requires c = let i = c.self.inside in let w : World = view_of i in let k : IsWorld w = subst IsWorld (sym c.self.view_is) c.requires.world in let may = subst (λ (z : World). (b : BookView) × MayTry z c.args.seat c.args.rec c.args.page b c.args.lost) (sym c.self.view_is) c.requires.may in let ok = i.heads.ok in let h = page_heads w k c.args.page (tried w k c.args.seat c.args.rec c.args.page may.0 c.args.lost may.1).on_page in omega arith

pub returns-clause-ok : goal.returns-clause-ok
returns-clause-ok c = let i = c.self.inside in let w : World = view_of i in let k : IsWorld w = subst IsWorld (sym c.self.view_is) c.requires.world in let may = subst (λ (z : World). (b : BookView) × MayTry z c.args.seat c.args.rec c.args.page b c.args.lost) (sym c.self.view_is) c.requires.may in let same : c.index_mut.result.now ≡ may.0 = read_seat w c.args.seat may.0 c.index_mut.result.now may.1.0 c.index_mut.ensures.value in
    let seat = c.args.seat in let rec = c.args.rec in let page = c.args.page in let lost = c.args.lost in let d : BookView = may.0 in
    let s = c.in_ok-chain.chain.records.items in let x = c.in_ok-chain.chain.last in
    let miss = subst (λ (z : World). get_or z.heads page 0 ≢ get_or z.links rec 0) (sym c.self.view_is) c.requires.miss in
    let fresh : IsFresh w page s x = subst (λ (z : World). IsFresh z page s x) (sym c.self.view_is) c.in_ok-chain.ensures in
    let head : c.index.result.now ≡ get_or i.heads.items page 0 = get_or_read i.heads.items page _ (page_heads w k page (tried w k seat rec page d lost may.1).on_page) c.index.ensures 0 in
    let new : c.lose.new.self ≡ book_after_loss d rec page lost s x = c.lose.ensures ∙ ap (λ (z : BookView). book_after_loss z rec page lost s x) same in
    subst (λ (z : World). Tries z seat rec page (world_with w w.heads w.links (set w.books seat c.lose.new.self)) (Lost c.index.result.now)) c.self.view_is
    (inl (d, lost, may.1, inr (s, x, miss, fresh, ap (λ (z : BookView). world_with w w.heads w.links (set w.books seat z)) new, ap (λ z. Lost z) head)))
