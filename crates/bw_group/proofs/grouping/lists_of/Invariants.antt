use Rattle.std.proofs.Common.{◌≡◌, ◌≤◌, length, take}
use Rattle.std.specs.List.{AllByRecursion, list_any}
use Rattle.bw_delta.specs.Batches.{writes_of}
use Rattle.bw_group.specs.Points.{IsPointOf, entries_from, entries_of, is_delete, scans_from}
use Rattle.bw_group.proofs.grouping.lists_of.Given as goal

abbrev pub invariant-loop-place : goal.invariant-loop-place
invariant-loop-place l = record {
  entries : entries_of l.points.items ≡ entries_from 0 (take l.place l.ops);
  verbs : AllByRecursion (IsPointOf l.ops) l.points.items;
  scans : l.scans.items ≡ scans_from 0 (take l.place l.ops);
  writes : l.writes ≡ length (writes_of 0 (take l.place l.ops));
  few : l.writes ≤ l.place;
  deletes : l.deletes ≡ list_any is_delete (take l.place l.ops);
}
