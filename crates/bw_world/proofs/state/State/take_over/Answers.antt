use Rattle.std.proofs.Common.{arith, sym, ap, subst, refl, inl, ◌∙◌, ◌≡◌, ◌<◌, length, get_or, set}
use Rattle.bw_core.specs.declared.BookView.{BookView}
use Rattle.bw_core.specs.declared.Played.TheVariants.{Done}
use Rattle.bw_core.specs.World.{World}
use Rattle.bw_core.specs.Events.{world_with, book_after_swap}
use Rattle.bw_world.specs.Inside.{view_of}
use Rattle.bw_core.specs.Transitions.{IsWorld, MayReplace, Replaces}
use Rattle.bw_core.proofs.Allowed.{read_seat, seat_pages, page_heads}
use Rattle.bw_core.proofs.Lists.{inside_at}
use Rattle.bw_world.proofs.state.State.take_over.Goals as goal

pub index_mut-requires : goal.index_mut-requires
index_mut-requires c = let i = c.self.inside in let w : World = view_of i in let k : IsWorld w = subst IsWorld (sym c.self.view_is) c.requires.world in let may = subst (λ (z : World). (b : BookView) × MayReplace z c.args.seat c.args.page b c.args.spare) (sym c.self.view_is) c.requires.may in let ok = i.books.ok in let h = inside_at i.books.items c.args.seat may.0 may.1.0.0 in omega arith

pub replace-requires : goal.replace-requires
replace-requires c = let i = c.self.inside in let w : World = view_of i in let k : IsWorld w = subst IsWorld (sym c.self.view_is) c.requires.world in let may = subst (λ (z : World). (b : BookView) × MayReplace z c.args.seat c.args.page b c.args.spare) (sym c.self.view_is) c.requires.may in let same : c.index_mut.result.now ≡ may.0 = read_seat w c.args.seat may.0 c.index_mut.result.now may.1.0 c.index_mut.ensures.value in subst (λ (z : BookView). c.args.page < length z.ends) (sym same) (seat_pages w k c.args.seat may.0 c.args.page may.1.0 may.1.2).1

pub index_mut-requires-2 : goal.index_mut-requires-2
index_mut-requires-2 c = let i = c.self.inside in let w : World = view_of i in let k : IsWorld w = subst IsWorld (sym c.self.view_is) c.requires.world in let may = subst (λ (z : World). (b : BookView) × MayReplace z c.args.seat c.args.page b c.args.spare) (sym c.self.view_is) c.requires.may in let ok = i.heads.ok in let h = page_heads w k c.args.page may.1.2 in omega arith

pub returns-clause-ok : goal.returns-clause-ok
returns-clause-ok c = let i = c.self.inside in let w : World = view_of i in let k : IsWorld w = subst IsWorld (sym c.self.view_is) c.requires.world in let may = subst (λ (z : World). (b : BookView) × MayReplace z c.args.seat c.args.page b c.args.spare) (sym c.self.view_is) c.requires.may in let same : c.index_mut.result.now ≡ may.0 = read_seat w c.args.seat may.0 c.index_mut.result.now may.1.0 c.index_mut.ensures.value in
    let seat = c.args.seat in let page = c.args.page in let spare = c.args.spare in let d : BookView = may.0 in
    let hit = subst (λ (z : World). get_or z.heads page 0 ≡ get_or z.first page 0) (sym c.self.view_is) c.requires.hit in
    let new : c.replace.new.self ≡ book_after_swap d page spare = c.in_ok-replace.ensures.ok ∙ ap (λ (z : BookView). book_after_swap z page spare) same in
    subst (λ (z : World). Replaces z seat page (world_with w (set w.heads page spare) w.links (set w.books seat c.replace.new.self)) (Done spare)) c.self.view_is
    (inl (d, spare, may.1, inl (hit, ap (λ (z : BookView). world_with w (set w.heads page spare) w.links (set w.books seat z)) new, refl)))
