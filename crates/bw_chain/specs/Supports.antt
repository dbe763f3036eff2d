-- The base page on which the present state of a page rests.
use Rattle.std.specs.Prelude.{◌≡◌, ℕ, List, length, slice_get, Some}
use Rattle.bw_model.specs.Values.{ValueBytes}
use Rattle.bw_page.specs.Leaves.{LeafView}
use Rattle.bw_page.specs.declared.pages.Page.TheVariants.{Leaf as LeafPage}
use Rattle.bw_level.specs.Changes.{Bases}
use Rattle.bw_chain.specs.Chains.{Records, link_of, slot_of_word}
use Rattle.bw_level.specs.Walk.{ended}

-- the base page to which a mapping word leads
abbrev pub base_under : Records → ℕ → ℕ
base_under records word = ended (link_of records) (length records) word

-- the base page of this number is a leaf
abbrev pub IsLeafAt : Bases → ℕ → Type 0
IsLeafAt bases n = (leaf : LeafView ValueBytes) × (slice_get bases n ≡ Some (Some (LeafPage leaf)))

-- There are as many base pages as pages, and each page's chain ends at the base page of its own number.
pub record OwnBases (heads : List ℕ) (bases : Bases) (records : Records) : Type 0 where
  pub count : length heads ≡ length bases
  pub number : (p word : ℕ) → slice_get heads p ≡ Some word → base_under records word ≡ p

-- a page is the same over other base pages, where the one on which it rests is
abbrev pub PageIsKept : Type 0
PageIsKept =
    (old new : Bases) (records : Records) (word : ℕ) →
    slice_get new (base_under records word) ≡ slice_get old (base_under records word) →
    slot_of_word new records word ≡ slot_of_word old records word
