use Rattle.std.proofs.Common.{◌<◌, [], arith, false, get_or, true}
use Rattle.bw_page.proofs.Entries.{put_between_from, put_over_from}
use Rattle.bw_page.proofs.Search.{read_at, reads_key}
use Rattle.bw_page.proofs.children.Children.behind.Goals as goal
use Rattle.bw_page.proofs.children.Children.behind.Goals.{else-at-len-via-then-at-len+else-eq, else-at-len-via-else-at-len}

pub returns-then-eq-clause-put : goal.returns-then-eq-clause-put
returns-then-eq-clause-put c start from at child =
    let all = c.args.self.now in
    let x = get_or all c.args.at ([], 0) in
    let there : c.args.at < _ = omega (arith, c.if-at-len.true, c.len.ensures.value) in
    put_over_from c.args.key.now child all start c.args.at x from at there (read_at all c.args.at ([], 0) there)
    (reads_key c.args.key.now x _ _ _ true (c.separator.ensures ([], 0)) c.bytes.ensures.value c.eq.ensures c.if-eq.true)

pub returns-else-at-len-clause-put : goal.returns-else-at-len-clause-put
returns-else-at-len-clause-put c start from at child =
    let all = c.args.self.now in
    put_between_from c.args.key.now child all start c.args.at from at
    (λ lt. elim c.else-at-len.branch [
      | else-at-len-via-then-at-len+else-eq w ↦
          let x = get_or all c.args.at ([], 0) in
          (x, read_at all c.args.at ([], 0) lt, reads_key c.args.key.now x _ _ _ false (w.separator.ensures ([], 0)) w.bytes.ensures.value w.eq.ensures w.if-eq.false)
      | else-at-len-via-else-at-len w ↦ absurd (omega (arith, lt, c.len.ensures.value, w.if-at-len.false))
    ])
