use Rattle.std.proofs.Common.{arith, sym, ap, subst, refl, inl, ◌≡◌, ℕ, get_or}
use Rattle.std.proofs.lemmas.List.{get_or_read}
use Rattle.bw_core.specs.declared.BookView.{BookView}
use Rattle.bw_core.specs.declared.Played.TheVariants.{Done}
use Rattle.bw_core.specs.World.{World}
use Rattle.bw_world.specs.Inside.{view_of}
use Rattle.bw_core.specs.Transitions.{IsWorld, MayFollow, Follows}
use Rattle.bw_core.proofs.Allowed.{seen_link}
use Rattle.bw_world.proofs.state.State.follow.Goals as goal

pub index-requires : goal.index-requires
index-requires c = let i = c.self.inside in let ok = i.links.ok in let w : World = view_of i in let k : IsWorld w = subst IsWorld (sym c.self.view_is) c.requires in
    let may = subst (λ (z : World). (b : BookView) × (page : ℕ) × MayFollow z c.args.seat c.args.rec b page) (sym c.self.view_is) (c.may_follow.ensures.0 c.if-not-may_follow.false) in
    let l = seen_link w k c.args.seat c.args.rec may.0 may.1 may.2 in omega arith

pub returns : goal.returns
returns c = let i = c.self.inside in let w : World = view_of i in let k : IsWorld w = subst IsWorld (sym c.self.view_is) c.requires in
    let may = subst (λ (z : World). (b : BookView) × (page : ℕ) × MayFollow z c.args.seat c.args.rec b page) (sym c.self.view_is) (c.may_follow.ensures.0 c.if-not-may_follow.false) in
    let word : c.index.result.now ≡ get_or i.links.items c.args.rec 0 = get_or_read i.links.items c.args.rec _ (seen_link w k c.args.seat c.args.rec may.0 may.1 may.2) c.index.ensures 0 in
    subst (λ (z : World). Follows z c.args.seat c.args.rec z (Done c.index.result.now)) c.self.view_is (inl (may.0, may.1, may.2, refl, ap (λ z. Done z) word))
