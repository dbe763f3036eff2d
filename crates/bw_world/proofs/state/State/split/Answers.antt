use Rattle.std.proofs.Common.{rules, arith, sym, ap, subst, inl, ◌∙◌, ◌≡◌, ◌<◌, [], ◌∷◌, ◌++◌, length, get_or, set}
use Rattle.std.proofs.lemmas.List.{get_or_append_left, set-append_left, length_push}
use Rattle.bw_core.specs.declared.BookView.{BookView}
use Rattle.bw_core.specs.declared.Played.TheVariants.{Done}
use Rattle.bw_core.specs.World.{World}
use Rattle.bw_core.specs.Events.{world_with, left_book, right_book}
use Rattle.bw_world.specs.Inside.{view_of}
use Rattle.bw_core.specs.Transitions.{IsWorld, MaySplit, Splits}
use Rattle.bw_core.proofs.Allowed.{read_seat}
use Rattle.bw_core.proofs.Lists.{inside_at}
use Rattle.bw_world.proofs.state.State.split.Goals as goal

pub index-requires : goal.index-requires
index-requires c = let i = c.self.inside in let w : World = view_of i in let k : IsWorld w = subst IsWorld (sym c.self.view_is) c.requires in let may = subst (λ (z : World). (b : BookView) × MaySplit z c.args.seat b) (sym c.self.view_is) (c.may_split.ensures.0 c.if-not-may_split.false) in let inside : c.args.seat < length i.books.items = inside_at i.books.items c.args.seat may.0 may.1.0.0 in let ok = i.books.ok in omega arith

pub index_mut-requires : goal.index_mut-requires
index_mut-requires c = let i = c.self.inside in let w : World = view_of i in let k : IsWorld w = subst IsWorld (sym c.self.view_is) c.requires in let may = subst (λ (z : World). (b : BookView) × MaySplit z c.args.seat b) (sym c.self.view_is) (c.may_split.ensures.0 c.if-not-may_split.false) in let inside : c.args.seat < length i.books.items = inside_at i.books.items c.args.seat may.0 may.1.0.0 in let pushed : c.push.new.self.items ≡ i.books.items ++ c.in_ok-half.half ∷ [] = search rules in
    let ok = c.push.new.self.ok in let n = ap length pushed in let m = length_push i.books.items c.in_ok-half.half in omega arith

pub returns-clause-ok : goal.returns-clause-ok
returns-clause-ok c = let i = c.self.inside in let w : World = view_of i in let k : IsWorld w = subst IsWorld (sym c.self.view_is) c.requires in let may = subst (λ (z : World). (b : BookView) × MaySplit z c.args.seat b) (sym c.self.view_is) (c.may_split.ensures.0 c.if-not-may_split.false) in let inside : c.args.seat < length i.books.items = inside_at i.books.items c.args.seat may.0 may.1.0.0 in let seat = c.args.seat in let d : BookView = may.0 in let ok = i.books.ok in
    let pushed : c.push.new.self.items ≡ i.books.items ++ c.in_ok-half.half ∷ [] = search rules in
    let read : c.index.result.now ≡ d = read_seat w seat d c.index.result.now may.1.0 c.index.ensures in
    let half : c.in_ok-half.half ≡ right_book d = c.in_ok-half.ensures ∙ ap right_book read in
    let still : c.index_mut.result.now ≡ get_or i.books.items seat c.index_mut.result.now = c.index_mut.ensures.value ∙ (ap (λ z. get_or z seat c.index_mut.result.now) pushed ∙ get_or_append_left i.books.items (c.in_ok-half.half ∷ []) c.index_mut.result.now seat inside) in
    let same : c.index_mut.result.now ≡ d = read_seat w seat d c.index_mut.result.now may.1.0 still in
    let narrowed : c.narrow.new.self ≡ left_book d = c.narrow.ensures ∙ ap left_book same in
    let books : set c.push.new.self.items seat c.narrow.new.self ≡ set w.books seat (left_book d) ++ right_book d ∷ []
    = ap (λ z. set z seat c.narrow.new.self) pushed ∙ (set-append_left i.books.items (c.in_ok-half.half ∷ []) seat c.narrow.new.self inside ∙ (λ j. set w.books seat (narrowed j) ++ half j ∷ [])) in
    let number : c.len-new.result ≡ length w.books = omega arith in
    subst (λ (z : World). Splits z seat (world_with w w.heads w.links (set c.push.new.self.items seat c.narrow.new.self)) (Done c.len-new.result)) c.self.view_is
    (inl (d, may.1, ap (world_with w w.heads w.links) books, ap (λ z. Done z) number))
