-- Side links name pages of levels alone.
use Rattle.std.proofs.Common.{◌≡◌, ℕ, [], Option, Some, None, refl, sym, ap, ◌∙◌}
use Rattle.bw_level.specs.Freeing.{IsUnreached}
use Rattle.bw_level.specs.Levels.{AreLevels, row}
use Rattle.bw_level.specs.Searches.{AllStand, IsInLevels}
use Rattle.bw_level.specs.Slots.{Slot, Free, Gone, Live, side_of, side_of_slot, slot_at}
use Rattle.bw_level.proofs.RowLemmas.{in_row}
use Rattle.bw_look.specs.View.{TreeView}
use Rattle.bw_look.proofs.NeighbourLemmas.{beside}
use Rattle.bw_steps.specs.Releasing.{HasNoSideLink}

no_side : {q : ℕ} → ◌≡◌ {A = Option ℕ} None (Some q) → ⊥
no_side e = cc

module _ (tree : TreeView) (root : ℕ) (lawful : AreLevels tree.slots root tree.levels) (stand : AllStand tree.slots tree.levels) where
  -- a page with a side link stands on a level, and the page that it names is the next one there
  side_stands : (q p : ℕ) → side_of tree.slots q ≡ Some p → IsInLevels tree.levels p
  side_stands q p linked = by (slot_at tree.slots q) refl
    where
      next : IsInLevels tree.levels q → IsInLevels tree.levels p
      next on =
          let ps = row tree.levels on.level in
          let at = in_row tree.slots on.level [] ps on.in_level.0 q (lawful.rows on.level on.within) on.in_level.1 on.in_level.2 in
          record { level = on.level; within = on.within; in_level = (beside tree.slots on.level q p ps on.in_level.0 at linked).in_row }

      by : (slot : Slot) → slot_at tree.slots q ≡ slot → IsInLevels tree.levels p
      by Free is = absurd (no_side (sym (ap side_of_slot is) ∙ linked))
      by (Gone removed) is = absurd (no_side (sym (ap side_of_slot is) ∙ linked))
      by (Live state) is = next (stand q state is)

  pub no_side_link : (p : ℕ) → IsUnreached tree.slots tree.levels p → HasNoSideLink tree p
  no_side_link p unreached q linked = unreached.stands (side_stands q p linked)
