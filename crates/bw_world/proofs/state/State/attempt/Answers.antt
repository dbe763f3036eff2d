use Rattle.std.proofs.Common.{arith, sym, subst, ◌∙◌, ◌≡◌, ◌≢◌, get_or}
use Rattle.std.proofs.lemmas.List.{get_or_read}
use Rattle.bw_core.specs.declared.BookView.{BookView}
use Rattle.bw_core.specs.World.{World}
use Rattle.bw_world.specs.Inside.{view_of}
use Rattle.bw_core.specs.Transitions.{IsWorld, MayTry}
use Rattle.bw_core.proofs.Allowed.{own_link, page_heads, tried}
use Rattle.bw_world.proofs.state.State.attempt.Goals as goal

pub index-requires : goal.index-requires
index-requires c = let i = c.self.inside in let w : World = view_of i in let k : IsWorld w = subst IsWorld (sym c.self.view_is) c.requires in let may = subst (λ (z : World). (b : BookView) × MayTry z c.args.seat c.args.rec c.args.page b c.in-Some.lost) (sym c.self.view_is) c.in-Some.ensures in let u = tried w k c.args.seat c.args.rec c.args.page may.0 c.in-Some.lost may.1 in let ok = i.heads.ok in let h = page_heads w k c.args.page u.on_page in omega arith

pub index-requires-2 : goal.index-requires-2
index-requires-2 c = let i = c.self.inside in let w : World = view_of i in let k : IsWorld w = subst IsWorld (sym c.self.view_is) c.requires in let may = subst (λ (z : World). (b : BookView) × MayTry z c.args.seat c.args.rec c.args.page b c.in-Some.lost) (sym c.self.view_is) c.in-Some.ensures in let u = tried w k c.args.seat c.args.rec c.args.page may.0 c.in-Some.lost may.1 in let ok = i.links.ok in let l = (own_link w k c.args.seat c.args.rec may.0 may.1.0 u.own).0 in omega arith

pub win-requires-clause-hit : goal.win-requires-clause-hit
win-requires-clause-hit c = let i = c.self.inside in let w : World = view_of i in let k : IsWorld w = subst IsWorld (sym c.self.view_is) c.requires in let may = subst (λ (z : World). (b : BookView) × MayTry z c.args.seat c.args.rec c.args.page b c.in-Some.lost) (sym c.self.view_is) c.in-Some.ensures in let u = tried w k c.args.seat c.args.rec c.args.page may.0 c.in-Some.lost may.1 in let h = page_heads w k c.args.page u.on_page in let l = (own_link w k c.args.seat c.args.rec may.0 may.1.0 u.own).0 in
    let head : c.index.result.now ≡ get_or i.heads.items c.args.page 0 = get_or_read i.heads.items c.args.page _ h c.index.ensures 0 in let link : c.index-2.result.now ≡ get_or i.links.items c.args.rec 0 = get_or_read i.links.items c.args.rec _ l c.index-2.ensures 0 in
    subst (λ (z : World). get_or z.heads c.args.page 0 ≡ get_or z.links c.args.rec 0) c.self.view_is (sym head ∙ (c.if-index.true ∙ link))

pub lose-requires-clause-miss : goal.lose-requires-clause-miss
lose-requires-clause-miss c = let i = c.self.inside in let w : World = view_of i in let k : IsWorld w = subst IsWorld (sym c.self.view_is) c.requires in let may = subst (λ (z : World). (b : BookView) × MayTry z c.args.seat c.args.rec c.args.page b c.in-Some.lost) (sym c.self.view_is) c.in-Some.ensures in let u = tried w k c.args.seat c.args.rec c.args.page may.0 c.in-Some.lost may.1 in let h = page_heads w k c.args.page u.on_page in let l = (own_link w k c.args.seat c.args.rec may.0 may.1.0 u.own).0 in
    let head : c.index.result.now ≡ get_or i.heads.items c.args.page 0 = get_or_read i.heads.items c.args.page _ h c.index.ensures 0 in let link : c.index-2.result.now ≡ get_or i.links.items c.args.rec 0 = get_or_read i.links.items c.args.rec _ l c.index-2.ensures 0 in
    subst (λ (z : World). get_or z.heads c.args.page 0 ≢ get_or z.links c.args.rec 0) c.self.view_is (λ e. c.if-index.false (head ∙ (e ∙ sym link)))
