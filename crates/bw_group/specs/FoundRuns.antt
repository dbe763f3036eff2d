-- Runs of points that were searched for.
use Rattle.std.specs.Prelude.{◌≡◌, ◌<◌, ◌≤◌, false, List, length}
use Rattle.std.specs.List.{AllByRecursion, Contains}
use Rattle.bw_model.specs.Contents.{is_below_end}
use Rattle.bw_tree.specs.Levels.{IsOneHome, row}
use Rattle.bw_tree.specs.Scans.{high_of}
use Rattle.bw_tree.specs.Slots.{slot_at}
use Rattle.bw_look.specs.View.{TreeView}
use Rattle.bw_group.specs.Points.{entries_in, key_at}
use Rattle.bw_group.specs.declared.found_runs.FoundRun.{FoundRun}
use Rattle.bw_group.specs.declared.found_runs.Part.{Part}
use Rattle.bw_group.specs.declared.points.Point.{Point}

-- the keys of the run are at home on its leaf, and the one behind it is above that leaf's end
pub record IsFoundRun (tree : TreeView) (points : List Point) (run : FoundRun) : Type 0 where
  pub there : run.page < length tree.heads
  pub leaf : Contains (row tree.levels 0) run.page
  pub more : run.start < run.end
  pub bound : run.end ≤ length points
  pub homes : AllByRecursion (λ e. IsOneHome tree.slots tree.levels e.0 run.page) (entries_in points run.start run.end)
  pub whole : run.end < length points → (d : Point) →
      is_below_end (high_of (slot_at tree.slots run.page)) (key_at points run.end d) ≡ false

-- so are all runs that were found in a part
abbrev pub AreFoundIn : TreeView → List Point → Part → Type 0
AreFoundIn tree points part = AllByRecursion (IsFoundRun tree points) part.runs.items
