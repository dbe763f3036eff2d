-- What a page's mapping word tells.
use Rattle.std.proofs.Common.{◌≡◌, ℕ, zero, suc, ◌<◌, ◌≤◌, ◌^◌, Bool, true, false, List, [], ◌∷◌, length, Decides, slice_index, sym, ◌∙◌, arith}
use Rattle.bw_look.specs.PageStates.{IsPlain}
use Rattle.bw_look.specs.Routing.{IsInNoLevel}
use Rattle.bw_look.specs.Trees.{ArePlaced}
use Rattle.bw_look.specs.View.{TreeView}

-- a page that isn't a base page by itself has a record
pub has_record : (tree : TreeView) (p : ℕ) (plain : Bool) → Decides plain (IsPlain tree p) → plain ≡ false → p < length tree.heads → 2 ^ 32 ≤ slice_index tree.heads p
has_record tree p plain tells not there = omega (arith, low)
  where
    different : true ≡ false → ⊥
    different e = cc

    low : slice_index tree.heads p < 2 ^ 32 → ⊥
    low lt = different (sym (tells.1 (there, lt)) ∙ not)

-- a word that isn't there is none of a record
past : (words : List ℕ) (p : ℕ) → (p < length words → slice_index words p < 2 ^ 32) → slice_index words p < 2 ^ 32
past [] p there = omega arith
past (w ∷ words) zero there = there (omega arith)
past (w ∷ words) (suc p) there = past words p (λ lt. there (omega (arith, lt)))

-- a page of no level has no record
pub plain_off : (tree : TreeView) (p : ℕ) → ArePlaced tree.heads tree.levels → IsInNoLevel tree p → slice_index tree.heads p < 2 ^ 32
plain_off tree p placed none = past tree.heads p (λ lt. omega (arith, high lt))
  where
    high : p < length tree.heads → 2 ^ 32 ≤ slice_index tree.heads p → ⊥
    high lt is = let on = placed p lt is in none on.level (on.within, on.in_level)
