use Rattle.std.proofs.Common.{subst}
use Rattle.std.specs.Prelude.{◌≡◌, ℕ, ◌<◌, ◌^◌, [], length, slice_index}
use Rattle.bw_level.specs.Reading.{writes_over}
use Rattle.bw_level.specs.Searches.{AllStand, IsInLevels}
use Rattle.bw_level.specs.Slots.{slot_at}
use Rattle.bw_look.specs.Trees.{ArePlaced}
use Rattle.bw_look.specs.View.{TreeView}
use Rattle.bw_tree.proofs.tree.Tree.know_records.Goals as goal

pub returns-clause-stand : goal.returns-clause-stand
returns-clause-stand c = subst (λ (v : TreeView). AllStand v.slots v.levels) c.look.ensures c.know_records.ensures.stand

pub returns-clause-there : goal.returns-clause-there
returns-clause-there c = subst (λ (v : TreeView). (p : ℕ) → IsInLevels v.levels p → p < length v.heads) c.look.ensures c.know_records.ensures.there

pub returns-clause-placed : goal.returns-clause-placed
returns-clause-placed c = subst (λ (v : TreeView). ArePlaced v.heads v.levels) c.look.ensures c.know_records.ensures.placed

pub returns-clause-bare : goal.returns-clause-bare
returns-clause-bare c = subst (λ (v : TreeView). (p : ℕ) → slice_index v.heads p < 2 ^ 32 → writes_over (slot_at v.slots p) ≡ []) c.look.ensures c.know_records.ensures.bare
