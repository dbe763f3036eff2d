-- Index entries: an inner page names a page of the level below.
use Rattle.std.specs.Prelude.{◌≡◌, ℕ, ◌+◌, ◌<◌, ◌≤◌, ◌^◌, List, [], ◌∷◌, length, None, slice_index, slice_set}
use Rattle.std.specs.List.{AllByRecursion}
use Rattle.bw_key.specs.Order.{KeyBytes}
use Rattle.bw_level.specs.Children.{FitsChild, HasChild, state_with_child}
use Rattle.bw_level.specs.Slots.{Slot, PageState, Live, slot_at}
use Rattle.bw_look.specs.View.{TreeView, contents_at}

-- the page is a base page by itself that may name the child
pub record MayHaveChild (tree : TreeView) (parent : ℕ) (sep : KeyBytes) (child : ℕ) : Type 0 where
  pub fits : FitsChild tree.slots tree.levels parent sep child
  pub plain : slice_index tree.heads parent < 2 ^ 32

-- The page names the child as well. There is one record more, to which its mapping word leads. All other pages are as
-- before, and so are the levels and what the tree holds.
pub record IsNamed (old new : TreeView) (parent : ℕ) (sep : KeyBytes) (child : ℕ) : Type 0 where
  pub named : HasChild old.slots new.slots parent sep child
  pub levels : new.levels ≡ old.levels
  pub contents : (stamp : ℕ) → contents_at new stamp ≡ contents_at old stamp
  pub heads : new.heads ≡ slice_set old.heads parent (slice_index new.heads parent)
  pub changed : 2 ^ 32 ≤ slice_index new.heads parent
  pub root : new.root ≡ old.root
  pub records : new.records ≡ old.records + 1
  pub next : new.next ≡ old.next
  pub staged : new.staged ≡ None

-- the page with each of these children at its separator, put there one after another
abbrev pub state_with_children : List (KeyBytes × ℕ) → PageState → PageState
state_with_children [] s = s
state_with_children (e ∷ es) s = state_with_children es (state_with_child e.0 e.1 s)

-- each of these entries may be one of the page
abbrev pub MayHaveChildren : TreeView → ℕ → List (KeyBytes × ℕ) → Type 0
MayHaveChildren tree parent entries = AllByRecursion (λ e. FitsChild tree.slots tree.levels parent e.0 e.1) entries

-- The page names the children as well. All other pages are as before.
pub record HasChildren (old new : List Slot) (parent : ℕ) (entries : List (KeyBytes × ℕ)) : Type 0 where
  pub was : PageState
  pub is : slot_at old parent ≡ Live was
  pub now : slot_at new parent ≡ Live (state_with_children entries was)
  pub others : (r : ℕ) → (r ≡ parent → ⊥) → slot_at new r ≡ slot_at old r

-- The page names the children as well, and is a base page by itself. There is a record more for each of them, which no
-- chain names. All other pages are as before, and so are the levels and what the tree holds.
pub record AreNamed (old new : TreeView) (parent : ℕ) (entries : List (KeyBytes × ℕ)) : Type 0 where
  pub named : HasChildren old.slots new.slots parent entries
  pub levels : new.levels ≡ old.levels
  pub contents : (stamp : ℕ) → contents_at new stamp ≡ contents_at old stamp
  pub heads : new.heads ≡ slice_set old.heads parent (slice_index new.heads parent)
  pub plain : slice_index new.heads parent < 2 ^ 32
  pub root : new.root ≡ old.root
  pub records : new.records ≡ old.records + length entries
  pub next : new.next ≡ old.next
  pub staged : new.staged ≡ None
