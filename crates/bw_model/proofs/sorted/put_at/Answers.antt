use Rattle.std.proofs.Common.{sym, ap, ◌∙◌, arith}
use Rattle.bw_model.specs.Sorted.{place_of}
use Rattle.bw_model.proofs.SortedPairs.{put_found_at, put_absent_at}
use Rattle.bw_model.proofs.sorted.put_at.Goals as goal
use Rattle.bw_model.proofs.sorted.put_at.Goals.{else-at-len-via-then-at-len+else-eq, else-at-len-via-else-at-len}

pub returns-then-eq-clause-ok : goal.returns-then-eq-clause-ok
returns-then-eq-clause-ok c =
    put_found_at c.args.key c.args.value c.args.pairs.now.items c.place-at.result c.index.result.now c.index_mut-pair.result.now
    (c.place-at.ensures.value ∙ ap (place_of c.args.key) c.deref.ensures.value)
    (omega (arith, c.if-at-len.true, c.len.ensures)) c.index.ensures c.index_mut-pair.ensures.value (sym c.eq.ensures ∙ c.if-eq.true)

pub returns-in_ok-insert-clause-ok : goal.returns-in_ok-insert-clause-ok
returns-in_ok-insert-clause-ok c =
    c.in_ok-insert.ensures.items ∙ put_absent_at c.args.key c.args.value c.args.pairs.now.items c.place-at.result
    (c.place-at.ensures.value ∙ ap (place_of c.args.key) c.deref.ensures.value)
    (λ lt. elim c.else-at-len.branch [
      | else-at-len-via-then-at-len+else-eq w ↦ (w.index.result.now, w.index.ensures, sym w.eq.ensures ∙ w.if-eq.false)
      | else-at-len-via-else-at-len w ↦ absurd (omega (arith, lt, w.if-at-len.false, c.len.ensures))
    ])
