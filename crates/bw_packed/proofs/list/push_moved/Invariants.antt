use Rattle.std.proofs.Common.{◌≡◌, ◌+◌, ◌-◌, ◌≤◌, ◌++◌, length, map, take, vec_capacity, vec_len}
use Rattle.bw_packed.specs.Lists.{moved}
use Rattle.bw_packed.proofs.list.push_moved.Given as goal

abbrev pub invariant-loop-entry : goal.invariant-loop-entry
invariant-loop-entry g l = (l.list.items ≡ l.initial.list.items ++ map (moved l.from l.to) (take l.entry-index l.run)) × (vec_len l.list + (length l.run - l.entry-index) ≤ vec_capacity l.list)
