-- Trees that are made of leaves.
use Rattle.std.specs.Prelude.{◌≡◌, ℕ, zero, suc, ◌+◌, ◌-◌, Option, Some, None}
use Rattle.std.specs.Prelude.{List, [], ◌∷◌, ◌++◌, length, map, flat_map}
use Rattle.std.specs.FinMap.{from_entries}
use Rattle.bw_key.specs.Order.{KeyBytes}
use Rattle.bw_model.specs.Values.{ValueBytes}
use Rattle.bw_page.specs.Leaves.{LeafView}
use Rattle.bw_page.specs.declared.pages.Page.{Page}
use Rattle.bw_page.specs.declared.pages.Page.TheVariants.{Leaf as LeafPage}
use Rattle.bw_level.specs.Slots.{Slot, Children, Live}
use Rattle.bw_level.specs.Changes.{Bases, plain}
use Rattle.bw_chain.specs.Chains.{slots_of}
use Rattle.bw_level.specs.Levels.{row, levels_under}
use Rattle.bw_look.specs.View.{TreeView, contents_at}

-- Leaves side by side from a low key on, the first at this place: each ends where the next begins and names it, by its
-- place, as its right neighbour, and the last has no end.
abbrev pub AreAbutting : ℕ → KeyBytes → List (LeafView ValueBytes) → Type 0
AreAbutting n low [] = ⊥
AreAbutting n low (leaf ∷ []) = (leaf.low ≡ low) × (leaf.high ≡ None) × (leaf.side ≡ None)
AreAbutting n low (leaf ∷ next ∷ leaves) =
    (leaf.low ≡ low) × (leaf.high ≡ Some next.low) × (leaf.side ≡ Some (n + 1)) ×
    AreAbutting (n + 1) next.low (next ∷ leaves)

-- the pairs of leaves
abbrev pub pairs_in : List (LeafView ValueBytes) → List (KeyBytes × ValueBytes)
pairs_in = flat_map (λ leaf. leaf.pairs)

-- their low keys with their places, the first at this one
abbrev pub terms_from : ℕ → List (LeafView ValueBytes) → List (KeyBytes × ℕ)
terms_from n [] = []
terms_from n (leaf ∷ leaves) = (leaf.low, n) ∷ terms_from (n + 1) leaves

abbrev pub base_of_leaf : LeafView ValueBytes → Option Page
base_of_leaf leaf = Some (LeafPage leaf)

-- so many numbers from one on
abbrev pub count_from : ℕ → ℕ → List ℕ
count_from n zero = []
count_from n (suc k) = n ∷ count_from (n + 1) k

-- how many pages there are over leaves: one more where they need a root
abbrev pub pages_over : List (LeafView ValueBytes) → ℕ
pages_over [] = 0
pages_over (leaf ∷ []) = 1
pages_over (leaf ∷ next ∷ leaves) = length leaves + 3

abbrev pub leaf_slot : LeafView ValueBytes → Slot
leaf_slot leaf = plain (LeafPage leaf)

-- the root over leaves, where they need one
abbrev pub root_slots : List (LeafView ValueBytes) → List Slot
root_slots [] = []
root_slots (leaf ∷ []) = []
root_slots (leaf ∷ next ∷ leaves) =
    let children = terms_from 0 (leaf ∷ next ∷ leaves) in
    Live (record { low = []; high = None; side = None; body = Children 1 children }) ∷ []

-- the tree whose pages are base pages, each named by its place, without any operation yet
abbrev pub tree_over : Bases → TreeView
tree_over bases =
    let slots = slots_of (count_from 0 (length bases)) bases [] in
    let root = length bases - 1 in
    record {
      slots = slots;
      root = root;
      levels = levels_under slots root;
      heads = count_from 0 (length bases);
      records = 0;
      next = 0;
      staged = None;
    }

-- The tree over leaves, each of which is the page of its place. It has no writes, and its next stamp is 0.
pub record IsOverLeaves (tree : TreeView) (given : List (LeafView ValueBytes)) : Type 0 where
  pub slots : tree.slots ≡ map leaf_slot given ++ root_slots given
  pub contents : (as_of : ℕ) → contents_at tree as_of ≡ from_entries (pairs_in given)
  pub leaves : row tree.levels 0 ≡ count_from 0 (length given)
  pub root : tree.root + 1 ≡ pages_over given
  pub heads : tree.heads ≡ count_from 0 (pages_over given)
  pub records : tree.records ≡ 0
  pub next : tree.next ≡ 0
  pub staged : tree.staged ≡ None
