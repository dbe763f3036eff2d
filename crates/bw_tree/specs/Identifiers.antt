-- Identifiers that a new page may take.
use Rattle.std.specs.Prelude.{◌≡◌, ℕ, ◌≤◌, length}
use Rattle.bw_level.specs.Slots.{Free, slot_at}
use Rattle.bw_look.specs.View.{TreeView}

-- an identifier that is free, among those that have a mapping word, or the one behind all others
pub record IsUnused (tree : TreeView) (p : ℕ) : Type 0 where
  pub free : slot_at tree.slots p ≡ Free
  pub place : p ≤ length tree.heads
