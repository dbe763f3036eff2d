use Rattle.std.proofs.Common.{arith, ap, sym, ◌∙◌}
use Rattle.std.specs.FinMap.{len}
use Rattle.bw_batch.proofs.LenLemmas.{counting_next, len_behind_most, none_at, unwritten}
use Rattle.bw_batch.proofs.key_counts.len_after.Goals as goal

pub loop-place-preserved : goal.loop-place-preserved
loop-place-preserved c =
    let told = c.len_behind-now.ensures in
    let most = len_behind_most c.loop-place.now c.index-ops-place.result c.index-replies-place.result in
    record {
      most = omega (arith, told, most, c.loop-place.invariant.most);
      counting = λ m size same.
          counting_next c.args.ops.now c.args.replies.now c.loop-place.place c.loop-place.now c.len_behind-now.result m c.index-ops-place.result c.index-replies-place.result
          c.loop-place-test.true c.requires.alike c.index-ops-place.is c.index-replies-place.is told (c.loop-place.invariant.counting m size same);
    }

pub returns-then-writes-eq0 : goal.returns-then-writes-eq0
returns-then-writes-eq0 c = λ m size same. sym size ∙ sym (ap len (unwritten c.args.ops.now 0 m (sym c.requires.writes ∙ c.if-writes-eq0.true)))

pub len_behind-now-requires-clause-none : goal.len_behind-now-requires-clause-none
len_behind-now-requires-clause-none c = λ none.
    none_at c.args.ops.now c.loop-place.place c.index-ops-place.result c.loop-place-test.true c.index-ops-place.is (sym c.requires.deletes ∙ none)
