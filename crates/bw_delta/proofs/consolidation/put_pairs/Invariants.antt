use Rattle.std.proofs.Common.{◌≡◌, ◌≤◌, T, length, take}
use Rattle.std.specs.BTreeMap as tree
use Rattle.std.specs.FinMap.{find}
use Rattle.std.specs.Option.{option_copied, option_or}
use Rattle.bw_key.specs.Order.{KeyBytes, key_cmp}
use Rattle.bw_model.specs.Contents.{is_below_end}
use Rattle.bw_delta.proofs.consolidation.put_pairs.Given as goal

abbrev pub invariant-loop-left : goal.invariant-loop-left
invariant-loop-left l = record {
  bound : l.left ≤ length l.leaf.pairs;
  put : (q : KeyBytes) → T (is_below_end (option_copied l.high) q) →
      option_or (find key_cmp q (take l.left l.leaf.pairs)) (tree.get key_cmp l.values q) ≡ option_or (find key_cmp q l.leaf.pairs) (tree.get key_cmp l.fn.values q);
}

abbrev pub decreases-loop-left : goal.decreases-loop-left
decreases-loop-left l = l.left
