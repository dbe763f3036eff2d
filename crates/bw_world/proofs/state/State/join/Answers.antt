use Rattle.std.proofs.Common.{arith, sym, ap, subst, refl, inl, ◌∙◌, ◌≡◌, ◌<◌, ◌+◌, ◌^◌, length, set}
use Rattle.bw_core.specs.declared.BookView.{BookView}
use Rattle.bw_core.specs.declared.Played.TheVariants.{Done}
use Rattle.bw_core.specs.World.{World}
use Rattle.bw_core.specs.Events.{world_with, book_after_join}
use Rattle.bw_world.specs.Inside.{view_of}
use Rattle.bw_core.specs.Transitions.{IsWorld, MayJoin, Joins}
use Rattle.bw_core.proofs.Allowed.{read_seat, two_widths}
use Rattle.bw_core.proofs.Lists.{inside_at}
use Rattle.bw_world.proofs.state.State.join.Goals as goal

pub index-requires : goal.index-requires
index-requires c = let i = c.self.inside in let w : World = view_of i in let k : IsWorld w = subst IsWorld (sym c.self.view_is) c.requires in let may = subst (λ (z : World). (b : BookView) × (d : BookView) × MayJoin z c.args.into c.args.other b d) (sym c.self.view_is) (c.may_join.ensures.0 c.if-not-may_join.false) in let b : BookView = may.0 in let d : BookView = may.1 in let ok = i.books.ok in let h = inside_at i.books.items c.args.into b may.2.0.0 in omega arith

pub index-requires-2 : goal.index-requires-2
index-requires-2 c = let i = c.self.inside in let w : World = view_of i in let k : IsWorld w = subst IsWorld (sym c.self.view_is) c.requires in let may = subst (λ (z : World). (b : BookView) × (d : BookView) × MayJoin z c.args.into c.args.other b d) (sym c.self.view_is) (c.may_join.ensures.0 c.if-not-may_join.false) in let b : BookView = may.0 in let d : BookView = may.1 in let ok = i.books.ok in let h = inside_at i.books.items c.args.other d may.2.1.0 in omega arith

pub joined-requires-clause-seen : goal.joined-requires-clause-seen
joined-requires-clause-seen c = let i = c.self.inside in let w : World = view_of i in let k : IsWorld w = subst IsWorld (sym c.self.view_is) c.requires in let may = subst (λ (z : World). (b : BookView) × (d : BookView) × MayJoin z c.args.into c.args.other b d) (sym c.self.view_is) (c.may_join.ensures.0 c.if-not-may_join.false) in let b : BookView = may.0 in let d : BookView = may.1 in let one : c.index.result.now ≡ b = read_seat w c.args.into b c.index.result.now may.2.0 c.index.ensures in let two : c.index-2.result.now ≡ d = read_seat w c.args.other d c.index-2.result.now may.2.1 c.index-2.ensures in
    let e = (k.lawful.each c.args.into b may.2.0.0).seen_each_page may.2.0.1 in let f = (k.lawful.each c.args.other d may.2.1.0).seen_each_page may.2.1.1 in let first = sym (ap length c.as_slice.ensures.value) in
    (ap (λ (z : BookView). length z.seen) one ∙ (e ∙ first), ap (λ (z : BookView). length z.seen) two ∙ (f ∙ first))

pub joined-requires-clause-ends : goal.joined-requires-clause-ends
joined-requires-clause-ends c = let i = c.self.inside in let w : World = view_of i in let k : IsWorld w = subst IsWorld (sym c.self.view_is) c.requires in let may = subst (λ (z : World). (b : BookView) × (d : BookView) × MayJoin z c.args.into c.args.other b d) (sym c.self.view_is) (c.may_join.ensures.0 c.if-not-may_join.false) in let b : BookView = may.0 in let d : BookView = may.1 in let one : c.index.result.now ≡ b = read_seat w c.args.into b c.index.result.now may.2.0 c.index.ensures in let two : c.index-2.result.now ≡ d = read_seat w c.args.other d c.index-2.result.now may.2.1 c.index-2.ensures in
    let e = (k.lawful.each c.args.into b may.2.0.0).end_each_page may.2.0.1 in let f = (k.lawful.each c.args.other d may.2.1.0).end_each_page may.2.1.1 in let first = sym (ap length c.as_slice.ensures.value) in
    (ap (λ (z : BookView). length z.ends) one ∙ (e ∙ first), ap (λ (z : BookView). length z.ends) two ∙ (f ∙ first))

pub joined-requires-clause-width : goal.joined-requires-clause-width
joined-requires-clause-width c = let i = c.self.inside in let w : World = view_of i in let k : IsWorld w = subst IsWorld (sym c.self.view_is) c.requires in let may = subst (λ (z : World). (b : BookView) × (d : BookView) × MayJoin z c.args.into c.args.other b d) (sym c.self.view_is) (c.may_join.ensures.0 c.if-not-may_join.false) in let b : BookView = may.0 in let d : BookView = may.1 in let one : c.index.result.now ≡ b = read_seat w c.args.into b c.index.result.now may.2.0 c.index.ensures in let two : c.index-2.result.now ≡ d = read_seat w c.args.other d c.index-2.result.now may.2.1 c.index-2.ensures in subst (λ (z : BookView × BookView). z.0.width + z.1.width < 2 ^ 64) (λ j. (sym one j, sym two j)) (two_widths w k c.args.into c.args.other b d may.2)

pub index_mut-requires : goal.index_mut-requires
index_mut-requires c = let i = c.self.inside in let w : World = view_of i in let k : IsWorld w = subst IsWorld (sym c.self.view_is) c.requires in let may = subst (λ (z : World). (b : BookView) × (d : BookView) × MayJoin z c.args.into c.args.other b d) (sym c.self.view_is) (c.may_join.ensures.0 c.if-not-may_join.false) in let b : BookView = may.0 in let d : BookView = may.1 in let ok = i.books.ok in let h = inside_at i.books.items c.args.into b may.2.0.0 in omega arith

pub index_mut-requires-2 : goal.index_mut-requires-2
index_mut-requires-2 c = let i = c.self.inside in let w : World = view_of i in let k : IsWorld w = subst IsWorld (sym c.self.view_is) c.requires in let may = subst (λ (z : World). (b : BookView) × (d : BookView) × MayJoin z c.args.into c.args.other b d) (sym c.self.view_is) (c.may_join.ensures.0 c.if-not-may_join.false) in let b : BookView = may.0 in let d : BookView = may.1 in let ok = i.books.ok in let h = inside_at i.books.items c.args.other d may.2.1.0 in omega arith

pub returns-clause-ok : goal.returns-clause-ok
returns-clause-ok c = let i = c.self.inside in let w : World = view_of i in let k : IsWorld w = subst IsWorld (sym c.self.view_is) c.requires in let may = subst (λ (z : World). (b : BookView) × (d : BookView) × MayJoin z c.args.into c.args.other b d) (sym c.self.view_is) (c.may_join.ensures.0 c.if-not-may_join.false) in let b : BookView = may.0 in let d : BookView = may.1 in let one : c.index.result.now ≡ b = read_seat w c.args.into b c.index.result.now may.2.0 c.index.ensures in let two : c.index-2.result.now ≡ d = read_seat w c.args.other d c.index-2.result.now may.2.1 c.index-2.ensures in let into = c.args.into in let other = c.args.other in
    let both : c.in_ok-joined.joined ≡ book_after_join w.first b d = c.in_ok-joined.ensures ∙ (λ j. book_after_join (c.as_slice.ensures.value j) (one j) (two j)) in
    subst (λ (z : World). Joins z into other (world_with w w.heads w.links (set (set w.books into c.in_ok-joined.joined) other c.spent.result)) (Done other)) c.self.view_is
    (inl (b, d, may.2, (λ j. world_with w w.heads w.links (set (set w.books into (both j)) other (c.spent.ensures j))), refl))
