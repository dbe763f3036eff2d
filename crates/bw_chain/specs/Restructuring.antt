-- What restructuring leaves of base pages and records: of a page that is cut in two, of one that takes the place of its chain,
-- of two that are joined, and of one that no longer names a child.
use Rattle.std.specs.Prelude.{◌≡◌, ℕ, Bool, true, false, ◌||◌, [], ◌∷◌, ◌++◌, Option, Some, None, slice_set}
use Rattle.bw_key.specs.Order.{KeyBytes}
use Rattle.bw_page.specs.declared.pages.Page.{Page}
use Rattle.bw_delta.specs.declared.deltas.Delta.{Delta}
use Rattle.bw_delta.specs.declared.deltas.Delta.TheVariants.{Put, Split, Absorb, Removed, AddChild, DropChild}
use Rattle.bw_level.specs.Changes.{plain}
use Rattle.bw_chain.specs.Chains.{ChainsView, page_at}
use Rattle.bw_level.specs.Slots.{Slot, side_of_slot}
use Rattle.bw_chain.specs.Placing.{put_at}
use Rattle.bw_chain.specs.Supports.{base_under}
use Rattle.bw_level.specs.Children.{slot_without_child}
use Rattle.bw_level.specs.Merges.{slot_joined, slot_removed}
use Rattle.bw_level.specs.Splits.{slot_left, slot_right, slot_separator}

-- A base page without a record is cut: it keeps its bounds and first entries, and the base page of its new right neighbour's
-- number has the other entries. A record over it, the last one, says where the page ends and what its neighbour is.
pub record IsCut (old new : ChainsView) (word keep to : ℕ) : Type 0 where
  pub left : Page
  pub right : Page
  pub first : plain left ≡ slot_left keep (page_at old word)
  pub others : plain right ≡ slot_right keep (page_at old word)
  pub bases : new.bases ≡ put_at (slice_set old.bases word (Some left)) to (Some right)
  pub records : new.records ≡ old.records ++ (Split (slot_separator keep (page_at old word)) to, word) ∷ []

-- whether a record is a split
abbrev pub is_split : Option (Delta × ℕ) → Bool
is_split None = false
is_split (Some (Split k to, link)) = true
is_split (Some (Put w, link)) = false
is_split (Some (Absorb base side, link)) = false
is_split (Some (Removed left, link)) = false
is_split (Some (AddChild k child, link)) = false
is_split (Some (DropChild k, link)) = false

-- whether a record tells of what the base page under it has already: an absorption, and a dropped child; a removal does, too,
-- but lies over no page
abbrev pub is_told : Option (Delta × ℕ) → Bool
is_told None = false
is_told (Some (Split k to, link)) = false
is_told (Some (Put w, link)) = false
is_told (Some (Absorb base side, link)) = true
is_told (Some (Removed left, link)) = false
is_told (Some (AddChild k child, link)) = false
is_told (Some (DropChild k, link)) = true

-- whether the base page under a record can take its place without a copy of any entry
abbrev pub is_in_base : Option (Delta × ℕ) → Bool
is_in_base r = is_told r || is_split r

-- the base page of this number, under a chain, is what the chain made of it
pub record IsRebasedAt (old new : ChainsView) (head number : ℕ) : Type 0 where
  pub page : Page
  pub same : plain page ≡ page_at old head
  pub under : number ≡ base_under old.records head
  pub bases : new.bases ≡ slice_set old.bases number (Some page)
  pub records : new.records ≡ old.records

-- the record of a page that absorbed another one, which was this base page
abbrev pub absorption : ℕ → Slot → Delta
absorption word slot = Absorb word (side_of_slot slot)

-- The base page of a first word is joined with that of a second one, without a record both, which becomes a removed page.
-- Two records tell of it: of the removal, and, over the first page, of the absorption.
pub record IsJoined (old new : ChainsView) (word right left : ℕ) : Type 0 where
  pub page : Page
  pub joined : plain page ≡ slot_joined (page_at old word) (page_at old right)
  pub removed : Page
  pub gone : plain removed ≡ slot_removed left (page_at old right)
  pub bases : new.bases ≡ slice_set (slice_set old.bases word (Some page)) right (Some removed)
  pub records : new.records ≡ old.records ++ (Removed left, right) ∷ (absorption right (page_at old right), word) ∷ []

-- The base page of a word, without a record, has lost the child. A record over it tells of that.
pub record HasLost (old new : ChainsView) (word : ℕ) (sep : KeyBytes) : Type 0 where
  pub page : Page
  pub lost : plain page ≡ slot_without_child sep (page_at old word)
  pub bases : new.bases ≡ slice_set old.bases word (Some page)
  pub records : new.records ≡ old.records ++ (DropChild sep, word) ∷ []
