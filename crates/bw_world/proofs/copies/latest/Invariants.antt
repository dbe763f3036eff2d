use Rattle.std.proofs.Common.{◌≡◌, take}
use Rattle.bw_core.specs.Events.{latest}
use Rattle.bw_world.proofs.copies.latest.Given as goal

abbrev pub invariant-loop-page : goal.invariant-loop-page
invariant-loop-page l = l.ends.items ≡ take l.page (latest l.first l.mine l.others)
