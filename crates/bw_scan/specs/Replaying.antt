-- Scans of a tree, one after another.
use Rattle.std.specs.Prelude.{◌≡◌, ℕ, ◌-◌, List, [], ◌++◌, length, reverse, take, Option, Some, MatchOption}
use Rattle.std.specs.FinMap.Entries.{where_key}
use Rattle.bw_key.specs.Order.{KeyBytes, key_cmp}
use Rattle.bw_model.specs.Contents.{Contents, first_of_range, last_of_range, pairs_of_range}
use Rattle.bw_model.specs.Values.{ValueBytes}
use Rattle.bw_scan.specs.declared.scans.Order.{Order}
use Rattle.bw_scan.specs.declared.scans.Order.TheVariants.{Rising, Falling}
use Rattle.bw_scan.specs.declared.scans.Scan.{Scan}
use Rattle.std.specs.BTreeMap as kept
use Rattle.std.specs.List.{Contains}
use Rattle.std.specs.Borrow.{Bor}
use Rattle.std.specs.Option.{option_copied}
use Rattle.std.specs.Ordering.{nat_cmp}
use Rattle.bw_scan.specs.declared.scans.ReadLeaf.{ReadLeaf}
use Rattle.bw_scan.specs.declared.scans.gaps.Gap.{Gap}
use Rattle.bw_level.specs.Before.{low_of}
use Rattle.bw_level.specs.Levels.{row}
use Rattle.bw_level.specs.Slots.{Slot, has_key, slot_at}
use Rattle.bw_level.specs.Scans.{IsLeafReplay, Reaches, high_of}
use Rattle.bw_scan.specs.Gaps.{IsGap}
use Rattle.bw_look.specs.View.{TreeView, contents_at}

-- it has a leaf's bounds and replay
pub record IsReadLeaf (slot : Slot) (leaf : ReadLeaf) : Type 0 where
  pub low : leaf.low.now ≡ low_of slot
  pub end : option_copied leaf.end ≡ high_of slot
  pub replay : IsLeafReplay slot leaf.replay

-- what contracts see of scans: the tree
pub record ScansView : Type 0 where
  pub tree : TreeView

-- a leaf of the tree, as it was read
pub record IsKept (tree : TreeView) (p : ℕ) (leaf : ReadLeaf) : Type 0 where
  pub in_level : Contains (row tree.levels 0) p
  pub read : IsReadLeaf (slot_at tree.slots p) leaf

-- what is kept for each page is so
abbrev pub AreEach : {V : Type 0} → (ℕ → V → Type 0) → kept.BTreeMap ℕ V → Type 0
AreEach {V} IsSo all = (p : ℕ) (one : V) → kept.get nat_cmp all p ≡ Some one → IsSo p one

-- each leaf is what was read of the page that it is kept for, and in each range the tree has no pair
pub record AreScans (tree : TreeView) (leaves : kept.BTreeMap ℕ ReadLeaf) (gaps : kept.BTreeMap ℕ Gap) : Type 0 where
  pub read : AreEach (IsKept tree) leaves
  pub empty : AreEach (λ p. IsGap tree) gaps

-- where a leaf ends, if it doesn't reach an end
abbrev pub EndsBefore : Slot → Option KeyBytes → Option (Bor KeyBytes) → Type 0
EndsBefore slot to end = MatchOption end (Reaches (high_of slot) to) (λ k. high_of slot ≡ Some k.now)

-- a list, in this order
abbrev pub in_order : {X : Type 0} → Order → List X → List X
in_order Rising xs = xs
in_order Falling xs = reverse xs

-- the pairs of a range as of a stamp that lie on a page
abbrev pub pairs_on : TreeView → ℕ → KeyBytes → Option KeyBytes → ℕ → List (KeyBytes × ValueBytes)
pairs_on tree stamp from to p =
    where_key key_cmp (has_key (slot_at tree.slots p)) (pairs_of_range (contents_at tree stamp) from to)

-- in the order of a scan
abbrev pub wanted_on : TreeView → Scan → KeyBytes → Option KeyBytes → ℕ → List (KeyBytes × ValueBytes)
wanted_on tree scan from to p = in_order scan.order (pairs_on tree scan.stamp from to p)

-- a list with others behind it, until there are so many in all
abbrev pub filled : {X : Type 0} → ℕ → List X → List X → List X
filled most old more = old ++ take (most - length old) more

-- no scan for so many pairs of this range finds one
abbrev pub HasNoPairs : KeyBytes → Option KeyBytes → ℕ → Type 0
HasNoPairs from to most =
    (all : Contents ValueBytes) → (first_of_range all from to most ≡ []) × (last_of_range all from to most ≡ [])
