use Rattle.std.proofs.Common.{◌≡◌, take}
use Rattle.std.specs.List.{AllByRecursion}
use Rattle.bw_look.specs.PageStates.{HasRules}
use Rattle.bw_tree.specs.Making.{terms_from}
use Rattle.bw_tree.proofs.making.separators.Given as goal

abbrev pub invariant-loop-place : goal.invariant-loop-place
invariant-loop-place l = record {
  items : l.children ≡ terms_from 0 (take l.place l.leaves);
  rules : AllByRecursion HasRules (take l.place l.leaves);
}
