use Rattle.std.proofs.Common.{◌≡◌, ◌++◌, map, take}
use Rattle.bw_look.specs.Shapes.{page_shape}
use Rattle.bw_look.proofs.look.Look.add_level.Given as goal

abbrev pub invariant-loop-page : goal.invariant-loop-page
invariant-loop-page l = l.shape.items ≡ l.fn.shape.items ++ map (page_shape l.self l.level) (take l.page-index l.page-items)
