use Rattle.std.proofs.Common.{◌≡◌, suc, ◌-◌, ◌++◌, map, take, drop}
use Rattle.bw_packed.specs.Lists.{moved}
use Rattle.bw_packed.proofs.list.remove_entry.Given as goal

abbrev pub invariant-loop-i : goal.invariant-loop-i
invariant-loop-i g l =
    let behind = drop (suc l.place) l.fn.list.items in
    l.list.items ≡ take l.place l.fn.list.items ++ (map (moved l.from l.to) (take (l.i - l.place) behind) ++ drop (l.i - l.place) behind)
