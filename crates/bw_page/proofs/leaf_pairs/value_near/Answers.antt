use Rattle.std.proofs.Common.{◌∙◌, ◌<◌, [], List, Some, T, arith, ap, false, get_or, subst, sym, true}
use Rattle.std.specs.FinMap.{find, is_sorted}
use Rattle.bw_key.specs.Order.{KeyBytes, key_cmp}
use Rattle.bw_model.specs.Sorted.{place_of}
use Rattle.bw_model.specs.Values.{Pair, ValueBytes}
use Rattle.bw_page.proofs.Search.{find_missing_at, find_there_at, read_at, reads_key}
use Rattle.bw_page.proofs.leaf_pairs.value_near.Goals as goal
use Rattle.bw_page.proofs.leaf_pairs.value_near.Goals.{else-at-len-via-then-at-len+else-eq, else-at-len-via-else-at-len}

pub returns-then-eq-clause-value : goal.returns-then-eq-clause-value
returns-then-eq-clause-value c =
    let all = c.all-all.result in
    let at = c.place_near-at.result in
    let there : at < _ = omega (arith, c.if-at-len.true, c.len.ensures) in
    ap (λ (value : ValueBytes). Some value) (c.value_at.ensures ([], []))
    ∙ find_there_at c.args.key.now all at (get_or all at ([], [])) ([], []) (c.place_near-at.ensures.value ∙ ap (λ (k : KeyBytes). place_of k all) c.bytes-key.ensures.value) there (read_at all at ([], []) there)
    (reads_key {X = ValueBytes} c.args.key.now (get_or all at ([], [])) _ _ _ true (c.key_at.ensures ([], [])) c.bytes-key.ensures.value c.eq.ensures c.if-eq.true)
    ∙ ap (λ (l : List Pair). find key_cmp c.args.key.now l) c.all-all.ensures

pub returns-else-at-len-clause-value : goal.returns-else-at-len-clause-value
returns-else-at-len-clause-value c =
    let all = c.all-all.result in
    let at = c.place_near-at.result in
    find_missing_at c.args.key.now all at (c.place_near-at.ensures.value ∙ ap (λ (k : KeyBytes). place_of k all) c.bytes-key.ensures.value) (subst (λ (l : List Pair). T (is_sorted key_cmp l)) (sym c.all-all.ensures) c.requires)
    (λ lt. elim c.else-at-len.branch [
      | else-at-len-via-then-at-len+else-eq w ↦
          (get_or all at ([], []), read_at all at ([], []) lt, reads_key {X = ValueBytes} c.args.key.now (get_or all at ([], [])) _ _ _ false (w.key_at.ensures ([], [])) c.bytes-key.ensures.value w.eq.ensures w.if-eq.false)
      | else-at-len-via-else-at-len w ↦ absurd (omega (arith, lt, c.len.ensures, w.if-at-len.false))
    ])
    ∙ ap (λ (l : List Pair). find key_cmp c.args.key.now l) c.all-all.ensures
