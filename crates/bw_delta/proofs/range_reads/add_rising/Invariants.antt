use Rattle.std.proofs.Common.{◌≡◌, ◌++◌, T, length, take}
use Rattle.std.specs.FinMap.{is_sorted}
use Rattle.bw_key.specs.Order.{key_cmp}
use Rattle.bw_delta.specs.Present.{changed_pairs}
use Rattle.bw_delta.proofs.range_reads.add_rising.Given as goal

abbrev pub invariant-loop-key : goal.invariant-loop-key
invariant-loop-key l = record {
  kept : take (length l.fn.read) l.read ≡ l.fn.read;
  pairs : T (is_sorted key_cmp l.rest);
  changes : T (is_sorted key_cmp l.key-iterator);
  taken : l.read ++ take l.left (changed_pairs l.key-iterator l.rest) ≡ l.fn.read ++ take l.most (changed_pairs l.fn.changes l.fn.pairs);
}
