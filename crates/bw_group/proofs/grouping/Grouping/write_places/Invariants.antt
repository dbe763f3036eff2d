use Rattle.std.proofs.Common.{◌<◌, length, take}
use Rattle.std.specs.List.{AllByRecursion}
use Rattle.bw_group.proofs.WritePlaces.{AreListed}
use Rattle.bw_group.proofs.grouping.Grouping.write_places.Given as goal

abbrev pub invariant-loop-point : goal.invariant-loop-point
invariant-loop-point l = record {
  there : AllByRecursion (λ p. p < length l.self.ops) l.places.items;
  listed : AreListed l.self.ops l.places.items (take l.point-index l.points);
}
