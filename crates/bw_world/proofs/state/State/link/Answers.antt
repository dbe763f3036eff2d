use Rattle.std.proofs.Common.{arith, sym, ap, subst, inl, ◌∙◌, ◌≡◌, ◌<◌, ◌+◌, ◌^◌, length, set}
use Rattle.bw_core.specs.declared.BookView.{BookView}
use Rattle.bw_core.specs.declared.Played.TheVariants.{Done}
use Rattle.std.specs.List.{AllByRecursion}
use Rattle.bw_core.specs.World.{World, seen_at, end_at, top}
use Rattle.bw_core.specs.Events.{world_with, book_after_link}
use Rattle.bw_world.specs.Inside.{view_of}
use Rattle.bw_core.specs.Transitions.{IsWorld, MayLink, Links}
use Rattle.bw_core.proofs.Allowed.{read_seat, seat_pages, seen_words, own_link}
use Rattle.bw_core.proofs.Lists.{inside_at}
use Rattle.bw_world.proofs.state.State.link.Goals as goal

pub index_mut-book-requires : goal.index_mut-book-requires
index_mut-book-requires c = let i = c.self.inside in let ok = i.books.ok in let may = subst (λ (z : World). (b : BookView) × MayLink z c.args.seat c.args.rec c.args.page b c.in-Some.lost) (sym c.self.view_is) c.in-Some.ensures in
    let h = inside_at i.books.items c.args.seat may.0 may.1.0.0 in omega arith

pub top-word-requires-clause-page : goal.top-word-requires-clause-page
top-word-requires-clause-page c = let w : World = view_of c.self.inside in let k : IsWorld w = subst IsWorld (sym c.self.view_is) c.requires in
    let may = subst (λ (z : World). (b : BookView) × MayLink z c.args.seat c.args.rec c.args.page b c.in-Some.lost) (sym c.self.view_is) c.in-Some.ensures in
    let same : c.index_mut-book.result.now ≡ may.0 = read_seat w c.args.seat may.0 c.index_mut-book.result.now may.1.0 c.index_mut-book.ensures.value in
    subst (λ (z : BookView). (c.args.page < length z.seen) × (c.args.page < length z.ends)) (sym same) (seat_pages w k c.args.seat may.0 c.args.page may.1.0 may.1.1)

pub top-word-requires-clause-fits : goal.top-word-requires-clause-fits
top-word-requires-clause-fits c = let w : World = view_of c.self.inside in let k : IsWorld w = subst IsWorld (sym c.self.view_is) c.requires in
    let may = subst (λ (z : World). (b : BookView) × MayLink z c.args.seat c.args.rec c.args.page b c.in-Some.lost) (sym c.self.view_is) c.in-Some.ensures in
    let same : c.index_mut-book.result.now ≡ may.0 = read_seat w c.args.seat may.0 c.index_mut-book.result.now may.1.0 c.index_mut-book.ensures.value in
    subst (λ (z : BookView). AllByRecursion (λ r. w.floor + r < 2 ^ 64) (seen_at z c.args.page)) (sym same) (seen_words w k c.args.seat may.0 c.args.page may.1.0 may.1.1)

pub index_mut-requires : goal.index_mut-requires
index_mut-requires c = let i = c.self.inside in let ok = i.links.ok in let w : World = view_of i in let k : IsWorld w = subst IsWorld (sym c.self.view_is) c.requires in
    let may = subst (λ (z : World). (b : BookView) × MayLink z c.args.seat c.args.rec c.args.page b c.in-Some.lost) (sym c.self.view_is) c.in-Some.ensures in
    let l = (own_link w k c.args.seat c.args.rec may.0 may.1.0 may.1.2).0 in omega arith

pub returns : goal.returns
returns c = let w : World = view_of c.self.inside in let seat = c.args.seat in let rec = c.args.rec in let page = c.args.page in let lost = c.in-Some.lost in
    let may = subst (λ (z : World). (b : BookView) × MayLink z seat rec page b lost) (sym c.self.view_is) c.in-Some.ensures in let d : BookView = may.0 in
    let same : c.index_mut-book.result.now ≡ d = read_seat w seat d c.index_mut-book.result.now may.1.0 c.index_mut-book.ensures.value in
    let new : c.link.new.self ≡ book_after_link d rec page lost = c.link.ensures ∙ ap (λ (z : BookView). book_after_link z rec page lost) same in
    let word : c.top-word.result ≡ top w.floor (end_at d page) (seen_at d page) = c.top-word.ensures ∙ ap (λ (z : BookView). top w.floor (end_at z page) (seen_at z page)) same in
    subst (λ (z : World). Links z seat rec page (world_with w w.heads (set w.links rec c.top-word.result) (set w.books seat c.link.new.self)) (Done c.top-word.result)) c.self.view_is
    (inl (d, lost, may.1, (λ j. world_with w w.heads (set w.links rec (word j)) (set w.books seat (new j))), ap (λ z. Done z) word))
