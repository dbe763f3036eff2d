use Rattle.std.proofs.Common.{arith, sym, ap, subst, refl, inl, inr, ◌∙◌, ◌≡◌, ◌⊎◌, ◌<◌, ◌≤◌}
use native.Mathlib.Decide.{dec_lt}
use Rattle.bw_core.specs.declared.BookView.{BookView}
use Rattle.bw_core.specs.declared.Played.TheVariants.{Done}
use Rattle.bw_core.specs.World.{World}
use Rattle.bw_core.specs.Events.{book_after_claim, book_without_pieces}
use Rattle.bw_world.specs.Inside.{view_of}
use Rattle.bw_core.specs.Transitions.{IsWorld, MayClaim, Claims, world_after_claim}
use Rattle.bw_core.proofs.Allowed.{read_seat}
use Rattle.bw_core.proofs.Lists.{inside_at}
use Rattle.bw_world.proofs.state.State.claim.Goals as goal

pub index_mut-requires : goal.index_mut-requires
index_mut-requires c = let i = c.self.inside in let w : World = view_of i in let k : IsWorld w = subst IsWorld (sym c.self.view_is) c.requires in let may = subst (λ (z : World). (b : BookView) × MayClaim z c.args.seat b) (sym c.self.view_is) (c.may_claim.ensures.0 c.if-not-may_claim.false) in let ok = i.books.ok in let h = inside_at i.books.items c.args.seat may.0 may.1.0.0 in omega arith

pub returns-clause-ok : goal.returns-clause-ok
returns-clause-ok c = let i = c.self.inside in let w : World = view_of i in let k : IsWorld w = subst IsWorld (sym c.self.view_is) c.requires in let may = subst (λ (z : World). (b : BookView) × MayClaim z c.args.seat b) (sym c.self.view_is) (c.may_claim.ensures.0 c.if-not-may_claim.false) in let seat = c.args.seat in let d : BookView = may.0 in
    let same : c.index_mut.result.now ≡ d = read_seat w seat d c.index_mut.result.now may.1.0 c.index_mut.ensures.value in let new : BookView = c.claim.new.self in
    let either : ((w.next < w.records) × (world_after_claim w seat new ≡ world_after_claim w seat (book_after_claim w.piece w.records w.next d))) ⊎ ((w.records ≤ w.next) × (world_after_claim w seat new ≡ world_after_claim w seat (book_without_pieces d))) = elim (dec_lt w.next w.records) [
      | yes h ↦ inl (h, ap (world_after_claim w seat) (c.in_ok-claim.ensures.piece h ∙ ap (book_after_claim w.piece w.records w.next) same))
      | no n ↦ (let h : w.records ≤ w.next = omega arith in inr (h, ap (world_after_claim w seat) (c.in_ok-claim.ensures.told h ∙ ap book_without_pieces same)))
    ] in
    subst (λ (z : World). Claims z seat (world_after_claim w seat new) (Done w.next)) c.self.view_is (inl (d, may.1, either, refl))
