use Rattle.std.proofs.Common.{arith, sym, ap, subst, ◌∙◌, ◌≡◌, true, false}
use mathlib.Core.Option.{some, some-injective}
use lib.ListN.{get_elem?}
use Rattle.bw_core.specs.declared.BookView.{BookView}
use Rattle.bw_core.specs.World.{World}
use Rattle.bw_core.specs.Transitions.{IsSeat}
use Rattle.bw_core.proofs.Lists.{at_index, inside_at}
use Rattle.bw_world.proofs.state.State.book.Goals as goal
use Rattle.bw_world.proofs.state.State.book.Goals.{else-at-len-via-then-at-len+else-live, else-at-len-via-else-at-len}

pub returns-then-live : goal.returns-then-live
returns-then-live c = let i = c.self.inside in let ok = i.books.ok in let b : BookView = c.index-then-live.result.now in
    let at : get_elem? i.books.items c.args.seat ≡ some b = at_index i.books.items c.args.seat b (omega arith) c.index-then-live.ensures in
    let at' : get_elem? i.books.items c.args.seat ≡ some c.index.result.now = at_index i.books.items c.args.seat c.index.result.now (omega arith) c.index.ensures in
    let same : b ≡ c.index.result.now = some-injective _ _ (sym at ∙ at') in
    subst (λ (z : World). IsSeat z c.args.seat b) c.self.view_is (at, ap (λ (z : BookView). z.live) same ∙ (sym c.live.ensures ∙ c.if-live.true))

pub returns-else-at-len : goal.returns-else-at-len
returns-else-at-len c = let i = c.self.inside in let ok = i.books.ok in λ b may. let at : get_elem? i.books.items c.args.seat ≡ some b = subst (λ (z : World). get_elem? z.books c.args.seat ≡ some b) (sym c.self.view_is) may.0 in
    let n = inside_at i.books.items c.args.seat b at in elim c.else-at-len.branch [
      | else-at-len-via-then-at-len+else-live w ↦ (let at' : get_elem? i.books.items c.args.seat ≡ some w.index.result.now = at_index i.books.items c.args.seat w.index.result.now (omega arith) w.index.ensures in
          let e : b ≡ w.index.result.now = some-injective _ _ (sym at ∙ at') in let f : true ≡ false = sym may.1 ∙ (ap (λ (z : BookView). z.live) e ∙ (sym w.live.ensures ∙ w.if-live.false)) in absurd (cc))
      | else-at-len-via-else-at-len w ↦ absurd (omega arith)
    ]
