use Rattle.std.proofs.Common.{◌≡◌, T}
use Rattle.std.specs.Option.{option_copied, option_or}
use Rattle.std.specs.BTreeMap as tree
use Rattle.bw_key.specs.Order.{KeyBytes, key_cmp}
use Rattle.bw_model.specs.Contents.{is_below_end}
use Rattle.bw_delta.specs.PagePairs.{parts_of, value_in_parts}
use Rattle.bw_delta.proofs.consolidation.put_parts.Given as goal

abbrev pub invariant-loop-part : goal.invariant-loop-part
invariant-loop-part l = (q : KeyBytes) → T (is_below_end (option_copied l.high) q) →
    option_or (value_in_parts (parts_of l.part-iterator.iter.rest.now) q) (tree.get key_cmp l.values q) ≡ option_or (value_in_parts (parts_of l.parts) q) (tree.get key_cmp l.fn.values q)
