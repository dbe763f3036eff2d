use Rattle.std.proofs.Common.{◌+◌, ◌∙◌, ◌<◌, [], ap, arith, false, get_or, true}
use Rattle.bw_page.proofs.Search.{read_at, reads_key}
use Rattle.bw_level.proofs.CountLemmas.{length_absent, length_found}
use Rattle.bw_level.proofs.page_counts.count_with.Goals as goal
use Rattle.bw_level.proofs.page_counts.count_with.Goals.{else-place-len-via-then-place-len+else-eq, else-place-len-via-else-place-len}

pub returns-then-eq : goal.returns-then-eq
returns-then-eq c = λ child.
    let all = c.args.children.now in
    let at = c.place-place.result in
    let x = get_or all at ([], 0) in
    let there : at < _ = omega (arith, c.if-place-len.true, c.len.ensures.value) in
    c.len-then-eq.ensures.value
    ∙ length_found c.args.sep.now child all at x c.place-place.ensures.value there (read_at all at ([], 0) there)
    (reads_key c.args.sep.now x _ _ _ true (c.separator.ensures ([], 0)) c.bytes.ensures.value c.eq.ensures c.if-eq.true)

pub returns : goal.returns
returns c = λ child.
    let all = c.args.children.now in
    let at = c.place-place.result in
    ap (λ n. n + 1) c.len-2.ensures.value
    ∙ length_absent c.args.sep.now child all at c.place-place.ensures.value c.place-place.ensures.bound
    (λ lt. elim c.else-place-len.branch [
      | else-place-len-via-then-place-len+else-eq w ↦
          let x = get_or all at ([], 0) in
          (x, read_at all at ([], 0) lt, reads_key c.args.sep.now x _ _ _ false (w.separator.ensures ([], 0)) w.bytes.ensures.value w.eq.ensures w.if-eq.false)
      | else-place-len-via-else-place-len w ↦ absurd (omega (arith, lt, c.len.ensures.value, w.if-place-len.false))
    ])
