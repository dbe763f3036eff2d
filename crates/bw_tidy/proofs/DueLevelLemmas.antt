-- Which pages are leaves.
use Rattle.std.proofs.Common.{◌≡◌, ℕ, ◌≤◌, Bool, true, false, not, length, Option, Some, None, is_some, IfSome, refl, sym, ◌∙◌}
use Rattle.bw_model.specs.Values.{ValueBytes}
use Rattle.bw_page.specs.Leaves.{LeafView}
use Rattle.bw_level.specs.Levels.{AreLevels}
use Rattle.bw_level.proofs.AboveLemmas.{own_level}
use Rattle.bw_look.specs.Routing.{IsInLevel}
use Rattle.bw_look.specs.View.{TreeView}
use Rattle.bw_shape.specs.Limits.{LimitsView}
use Rattle.bw_tidy.specs.Findings.{FitsAt, IsLeafAt}

module _ (tree : TreeView) (lawful : AreLevels tree.slots tree.root tree.levels) (p level : ℕ) (on : IsInLevel tree p level) where
  -- a page that stands among the leaves is a leaf
  pub leaf_lowest : IsInLevel tree p 0 → level ≡ 0
  leaf_lowest leaf = sym (own_level tree.slots tree.root tree.levels lawful p level on.0 on.1) ∙ own_level tree.slots tree.root tree.levels lawful p 0 leaf.0 leaf.1

different : true ≡ false → ⊥
different e = cc

pub not_back : (b : Bool) → not b ≡ false → b ≡ true
not_back true e = refl
not_back false e = sym e

-- a leaf that was consolidated and has no more pairs than it may have
pub found_fits : (tree : TreeView) (limits : LimitsView) (p : ℕ) (o : Option (LeafView ValueBytes)) → is_some o ≡ true → IfSome o (λ leaf. length leaf.pairs ≤ limits.page_max) → FitsAt tree limits p o
found_fits tree limits p None some few = absurd (different (sym some))
found_fits tree limits p (Some leaf) some few = few

pub found_leaf : (tree : TreeView) → AreLevels tree.slots tree.root tree.levels → (stamp p : ℕ) (o : Option (LeafView ValueBytes)) → is_some o ≡ true → IsLeafAt tree stamp p o → IsInLevel tree p 0
found_leaf tree lawful stamp p None some at = absurd (different (sym some))
found_leaf tree lawful stamp p (Some leaf) some at = (lawful.some, at.0)
