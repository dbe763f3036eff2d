-- Where a search ends, by what a leaf's range says alone.
use Rattle.std.specs.Prelude.{Bool, not, ◌&&◌}
use Rattle.bw_level.specs.declared.target.Target.{Target}
use Rattle.bw_level.specs.Slots.{Slot, is_leaf}
use Rattle.bw_level.specs.Scans.{high_of}
use Rattle.bw_level.specs.Targets.{lies_past}

-- a leaf past whose range what is sought doesn't lie
abbrev pub ends_at : Target → Slot → Bool
ends_at target slot = is_leaf slot && not (lies_past target (high_of slot))
