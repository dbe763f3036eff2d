use Rattle.std.proofs.Common.{◌∙◌, ◌<◌, [], ap, arith, false, get_or, sym, true}
use Rattle.std.specs.List.{remove}
use Rattle.bw_page.proofs.Removals.{without_missing, without_there}
use Rattle.bw_page.proofs.Search.{read_at, reads_key}
use Rattle.bw_page.proofs.children.Children.remove.Goals as goal
use Rattle.bw_page.proofs.children.Children.remove.Goals.{else-at-len-via-then-at-len+else-eq, else-at-len-via-else-at-len}

pub returns-then-eq : goal.returns-then-eq
returns-then-eq c =
    let all = c.args.self.now in
    let at = c.place-at.result in
    let x = get_or all at ([], 0) in
    let there : at < _ = omega (arith, c.if-at-len.true, c.len.ensures.value) in
    c.remove.ensures ∙ ap (λ l. remove l at) c.self.view_is
    ∙ sym (without_there c.args.sep.now all at x c.requires c.place-at.ensures.value there (read_at all at ([], 0) there)
    (reads_key c.args.sep.now x _ _ _ true (c.separator.ensures ([], 0)) c.bytes.ensures.value c.eq.ensures c.if-eq.true))

pub returns-else-at-len : goal.returns-else-at-len
returns-else-at-len c =
    let all = c.args.self.now in
    let at = c.place-at.result in
    sym (without_missing c.args.sep.now all at c.requires c.place-at.ensures.value
    (λ lt. elim c.else-at-len.branch [
      | else-at-len-via-then-at-len+else-eq w ↦
          let x = get_or all at ([], 0) in
          (x, read_at all at ([], 0) lt, reads_key c.args.sep.now x _ _ _ false (w.separator.ensures ([], 0)) w.bytes.ensures.value w.eq.ensures w.if-eq.false)
      | else-at-len-via-else-at-len w ↦ absurd (omega (arith, lt, c.len.ensures.value, w.if-at-len.false))
    ]))
