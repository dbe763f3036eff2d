use Rattle.std.proofs.Common.{◌≡◌, ◌++◌, T, length, reverse, take}
use Rattle.std.specs.Iterator.Adapters.{rev_source}
use Rattle.std.specs.FinMap.{is_sorted}
use Rattle.bw_key.specs.Order.{key_cmp}
use Rattle.bw_delta.specs.Present.{changed_pairs}
use Rattle.bw_delta.proofs.range_reads.add_falling.Given as goal

abbrev pub invariant-loop-key : goal.invariant-loop-key
invariant-loop-key l = record {
  kept : take (length l.fn.read) l.read ≡ l.fn.read;
  pairs : T (is_sorted key_cmp l.rest);
  changes : T (is_sorted key_cmp (rev_source l.key-iterator));
  taken : l.read ++ take l.left (reverse (changed_pairs (rev_source l.key-iterator) l.rest)) ≡ l.fn.read ++ take l.most (reverse (changed_pairs l.fn.changes l.fn.pairs));
}
