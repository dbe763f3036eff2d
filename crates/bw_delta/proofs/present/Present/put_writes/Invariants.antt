use Rattle.std.proofs.Common.{◌≡◌, drop}
use Rattle.std.specs.FinMap.{find}
use Rattle.bw_key.specs.Order.{key_cmp}
use Rattle.bw_delta.specs.History.{pointed_to}
use Rattle.bw_delta.specs.Present.{present_pairs}
use Rattle.bw_delta.specs.Readings.{from_stamp}
use Rattle.bw_delta.specs.declared.present.Present.{Present}
use Rattle.bw_delta.proofs.Foldings.{AreFolding, Values}
use Rattle.bw_delta.proofs.present.Present.put_writes.Given as goal

abbrev pub values_in : Present → Values
values_in present q = find key_cmp q (present_pairs present)

abbrev pub invariant-loop-at : goal.invariant-loop-at
invariant-loop-at l = record {
  folding : AreFolding l.stamp (values_in l.fn.self) (pointed_to l.writes) (pointed_to (drop l.at l.writes)) (values_in l.self);
  left : from_stamp l.stamp (pointed_to (drop l.at l.writes)) ≡ from_stamp l.stamp (pointed_to l.writes);
}
