use Rattle.std.proofs.Common.{◌≡◌, ◌≤◌, ◌-◌, suc, length}
use Rattle.bw_look.specs.Shapes.{levels_shape}
use Rattle.bw_look.proofs.look.Look.shape.Given as goal

abbrev pub invariant-loop-shape : goal.invariant-loop-shape
invariant-loop-shape l = record {
  top : suc l.top ≡ length l.self.levels;
  within : l.level ≤ l.top;
  so_far : l.shape.items ≡ levels_shape l.self l.level;
}

abbrev pub decreases-loop-shape : goal.decreases-loop-shape
decreases-loop-shape l = length l.self.levels - l.level
