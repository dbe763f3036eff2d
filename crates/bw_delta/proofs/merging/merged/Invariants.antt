use Rattle.std.proofs.Common.{◌≡◌, ◌-◌, ◌++◌, drop, length}
use Rattle.bw_key.specs.Order.{KeyBytes}
use Rattle.bw_delta.specs.History.{pointed_to}
use Rattle.bw_delta.specs.Merging.{merged_value, IsMerging}
use Rattle.bw_delta.proofs.merging.merged.Given as goal

abbrev pub invariant-loop-next : goal.invariant-loop-next
invariant-loop-next l = record {
  merging : IsMerging l.merged l.rest (pointed_to (drop l.next l.writes));
  values : (q : KeyBytes) → merged_value (l.merged ++ l.rest) (pointed_to (drop l.next l.writes)) q ≡ merged_value l.fn.pairs (pointed_to l.writes) q;
}

abbrev pub decreases-loop-next : goal.decreases-loop-next
decreases-loop-next l = length l.writes - l.next
