use Rattle.std.proofs.Common.{List, Some, sym, ap, ◌∙◌}
use Rattle.std.proofs.lemmas.List.{drop_all}
use Rattle.std.specs.FinMap.{find}
use Rattle.bw_key.specs.Order.{key_cmp}
use Rattle.bw_model.specs.Values.{Pair, ValueBytes}
use Rattle.bw_model.proofs.SortedPairs.{find_here, find_later}
use Rattle.bw_model.proofs.sorted.value_at.Goals as goal

pub returns-then-eq : goal.returns-then-eq
returns-then-eq c =
    ap (λ (value : ValueBytes). Some value) c.bytes.ensures.value
    ∙ sym (find_here c.args.key.now c.args.pairs.now c.loop-pair.pair-index c.pair-item.result c.loop-pair-test.true c.pair-item.is (sym c.eq.ensures ∙ c.if-eq.true)) ∙ c.loop-pair.invariant

pub loop-pair-preserved : goal.loop-pair-preserved
loop-pair-preserved c =
    sym (find_later c.args.key.now c.args.pairs.now c.loop-pair.pair-index c.pair-item.result c.loop-pair-test.true c.pair-item.is (sym c.eq.ensures ∙ c.if-eq.false)) ∙ c.loop-pair.invariant

-- no pair is left
pub returns : goal.returns
returns c =
    ap (λ (l : List Pair). find key_cmp c.args.key.now l) (sym (drop_all c.loop-pair.pair-index c.args.pairs.now c.loop-pair-test.false)) ∙ c.loop-pair.invariant
