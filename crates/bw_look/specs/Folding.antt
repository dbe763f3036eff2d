-- Leaves that are consolidated beside the posting of a batch.
use Rattle.std.specs.Prelude.{ℕ, ◌+◌, ◌/◌, ◌%◌, max, if◌then◌else◌, nat_lt, Option, Some, None, List, [], ◌∷◌, length, map, slice_set}
use Rattle.bw_page.specs.declared.pages.Page.TheVariants.{Leaf as LeafPage}
use Rattle.bw_level.specs.Changes.{Bases}
use Rattle.bw_level.specs.Reading.{writes_over}
use Rattle.bw_level.specs.Slots.{slot_at}
use Rattle.bw_look.specs.View.{TreeView}
use Rattle.bw_look.specs.declared.folded.Folded.{Folded}

-- their pages
abbrev pub pages_of : List Folded → List ℕ
pages_of = map (λ f. f.page)

-- the list with something of each leaf in the place of its page
abbrev pub put_each : {X : Type 0} → (Folded → X) → List X → List Folded → List X
put_each of xs [] = xs
put_each of xs (f ∷ folded) = put_each of (slice_set xs f.page (of f)) folded

-- base pages with the leaves in the places of those of their pages
abbrev pub put_leaves : Bases → List Folded → Bases
put_leaves = put_each (λ f. Some (LeafPage f.leaf))

-- mapping words, of which each such page has its own
abbrev pub put_own_words : List ℕ → List Folded → List ℕ
put_own_words = put_each (λ f. f.page)

-- From how many writes on a leaf may be consolidated beside the posting of a batch: half as many as its chain may have, rounded
-- up, and one at least.
abbrev pub ripe_from : ℕ → ℕ
ripe_from chain_max = max 1 (chain_max / 2 + chain_max % 2)

-- the word that may then take the place of the page's: its own number
abbrev pub spare_of : TreeView → ℕ → ℕ → Option ℕ
spare_of tree chain_max p =
    if nat_lt (length (writes_over (slot_at tree.slots p))) (ripe_from chain_max) then None else Some p
