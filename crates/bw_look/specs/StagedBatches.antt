-- A batch that is staged.
use Rattle.std.specs.Prelude.{◌≡◌, ℕ, ◌+◌, ◌^◌, ◌<◌, ◌≤◌, false, length, Some, slice_index}
use Rattle.bw_look.specs.View.{TreeView, StageView}
use Rattle.bw_look.specs.declared.staging.Staged.{Staged}

-- what a tree tells of the batch that is staged; until it is adopted each mapping word is below those of its records
pub record IsStagedAs (tree : TreeView) (batch : Staged) : Type 0 where
  pub stage : StageView
  pub is : tree.staged ≡ Some stage
  pub base : batch.base ≡ tree.next
  pub floor : batch.floor ≡ 2 ^ 32 + stage.records
  pub records : batch.records ≡ length stage.writes
  pub fits : batch.floor + batch.records ≤ 2 ^ 33
  pub low : stage.adopted ≡ false → (p : ℕ) → p < length tree.heads → slice_index tree.heads p < batch.floor
