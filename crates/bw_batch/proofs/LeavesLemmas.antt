-- The leaves among the pages of a tree.
use Rattle.std.proofs.Common.{◌≡◌, ℕ, zero, suc, Bool, true, false, cond, List, [], ◌∷◌, ◌++◌, length, map, Option, Some, None, refl, sym, ap, ◌∙◌, arith}
use Rattle.std.specs.Prelude.{nat_eq}
use Rattle.std.proofs.Math.Dec.{eqb-suc-zero}
use Rattle.std.proofs.lemmas.List.{append-nil}
use Rattle.bw_level.specs.Levels.{row}
use Rattle.bw_level.specs.Slots.{slot_at}
use Rattle.bw_look.specs.Shapes.{level_shape, levels_shape, page_shape, shape_of}
use Rattle.bw_tree.specs.Stages.{IsStagedFor, accepted_tree}
use Rattle.bw_look.specs.View.{StageView, TreeView}
use Rattle.bw_look.specs.declared.look.shape.PageShape.{PageShape}
use Rattle.bw_model.specs.declared.operations.Op.{Op}
use Rattle.bw_shape.specs.LeafRanges.{LeafRange, leaf_range, leaf_ranges}
use Rattle.bw_shape.proofs.KeptLeaves.{same_leaves, same_row}
use Rattle.bw_batch.specs.IndexLeaves.{leaves_of, range_of}
use Rattle.bw_batch.proofs.KeptHomes.{IsAsWide}

both : (xs ys : List PageShape) → leaves_of (xs ++ ys) ≡ leaves_of xs ++ leaves_of ys
both [] ys = refl
both (x ∷ xs) ys = by (nat_eq x.level 0) (both xs ys)
  where
    by : (b : Bool) → leaves_of (xs ++ ys) ≡ leaves_of xs ++ leaves_of ys → cond b (range_of x ∷ leaves_of (xs ++ ys)) (leaves_of (xs ++ ys)) ≡ cond b (range_of x ∷ leaves_of xs) (leaves_of xs) ++ leaves_of ys
    by true rest = ap (λ (l : List LeafRange). range_of x ∷ l) rest
    by false rest = rest

module _ (tree : TreeView) where
  of_level : (ps : List ℕ) → leaves_of (map (page_shape tree 0) ps) ≡ map (leaf_range tree.slots) ps
  of_level [] = refl
  of_level (p ∷ ps) = ap (λ (l : List LeafRange). leaf_range tree.slots p ∷ l) (of_level ps)

  none_above : (level : ℕ) (ps : List ℕ) → leaves_of (map (page_shape tree (suc level)) ps) ≡ []
  none_above level [] = refl
  none_above level (p ∷ ps) =
      let rest = leaves_of (map (page_shape tree (suc level)) ps) in
      ap (λ b. cond b (range_of (page_shape tree (suc level) p) ∷ rest) rest) (eqb-suc-zero level) ∙ none_above level ps

  of_levels : (n : ℕ) → leaves_of (levels_shape tree (suc n)) ≡ leaf_ranges tree
  of_levels zero = of_level (row tree.levels 0)
  of_levels (suc n) =
      both (levels_shape tree (suc n)) (level_shape tree (suc n))
      ∙ ap (λ (l : List LeafRange). leaves_of (levels_shape tree (suc n)) ++ l) (none_above n (row tree.levels (suc n)))
      ∙ append-nil (leaves_of (levels_shape tree (suc n)))
      ∙ of_levels n

  no_row : (levels : List (List ℕ)) → 0 ≡ length levels → row levels 0 ≡ []
  no_row [] none = refl
  no_row (ps ∷ levels) none = absurd (omega (arith, none))

  pub listed : leaves_of (shape_of tree) ≡ leaf_ranges tree
  listed = by (length tree.levels) refl
    where
      by : (n : ℕ) → n ≡ length tree.levels → leaves_of (levels_shape tree n) ≡ leaf_ranges tree
      by zero none = sym (ap (map (leaf_range tree.slots)) (no_row tree.levels none))
      by (suc n) some = of_levels n

-- trees with the same leaves
pub same_listed : (old new : TreeView) → leaf_ranges new ≡ leaf_ranges old → leaves_of (shape_of new) ≡ leaves_of (shape_of old)
same_listed old new same = listed new ∙ same ∙ sym (listed old)

-- pages that are as wide as before
pub wide_leaves : (old new : TreeView) → new.levels ≡ old.levels → ((p : ℕ) → IsAsWide (slot_at old.slots p) (slot_at new.slots p)) → leaf_ranges new ≡ leaf_ranges old
wide_leaves old new levels wide = same_leaves old new (same_row old new levels) (λ p has. record { low = (wide p).low; high = (wide p).high })

-- to stage a batch and to accept it moves no page
pub batch_leaves : (before tree now after : TreeView) (ops : List Op) → IsStagedFor before tree ops → after ≡ accepted_tree now now.staged → leaf_ranges now ≡ leaf_ranges tree → leaf_ranges after ≡ leaf_ranges before
batch_leaves before tree now after ops staged accepted same = ap leaf_ranges accepted ∙ by now.staged ∙ same ∙ ap leaf_ranges staged.is
  where
    by : (o : Option StageView) → leaf_ranges (accepted_tree now o) ≡ leaf_ranges now
    by None = refl
    by (Some stage) = refl
