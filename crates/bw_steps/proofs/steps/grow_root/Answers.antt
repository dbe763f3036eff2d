use Rattle.std.proofs.Common.{◌-◌, ℕ, List, [], ◌∷◌, length, sym, subst, arith}
use Rattle.std.specs.List.{Contains}
use Rattle.bw_level.specs.Levels.{BeginsWith}
use Rattle.bw_level.specs.Searches.{IsInLevels}
use Rattle.bw_steps.proofs.steps.grow_root.Goals as goal

begins_there : (ps : List ℕ) (p : ℕ) → BeginsWith ps p → Contains ps p
begins_there [] p begins = absurd begins
begins_there (x ∷ ps) p begins = (0, omega arith, begins)

pub right_of-requires : goal.right_of-requires
right_of-requires c =
    let lawful = c.know_levels.ensures.lawful in
    let levels = c.args.tree.now.levels in
    subst (IsInLevels levels) (sym c.root.ensures) (record { level = length levels - 1; within = omega (arith, lawful.some); in_level = begins_there _ _ lawful.top })
