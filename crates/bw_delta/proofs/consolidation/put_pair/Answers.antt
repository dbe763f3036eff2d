use Rattle.std.proofs.Common.{◌∙◌, List, Some, ap, cond, get_or}
use Rattle.std.specs.BTreeMap as tree
use Rattle.bw_key.specs.Order.{KeyBytes, key_cmp, key_eq}
use Rattle.bw_model.specs.Values.{Pair, ValueBytes}
use Rattle.bw_delta.proofs.PairMaps.{changed}
use Rattle.bw_delta.proofs.consolidation.put_pair.Goals as goal

pub returns : goal.returns
returns c d q below =
    let before = tree.get key_cmp c.args.values.now q in
    let value_is = c.in_ok-value.ensures.ok ∙ c.value_at.ensures d ∙ ap (λ (l : List Pair). (get_or l c.args.place d).1) c.pairs-pairs.ensures.value in
    c.in_ok-insert.ensures.updates.0 q
    ∙ changed q c.in_ok-key.key (Some c.in_ok-value.value) before
    ∙ ap (λ (k : KeyBytes). cond (key_eq q k) (Some c.in_ok-value.value) before) (c.in_ok-key.ensures.ok d)
    ∙ ap (λ (v : ValueBytes). cond (key_eq q (get_or c.args.leaf.now.pairs c.args.place d).0) (Some v) before) value_is
