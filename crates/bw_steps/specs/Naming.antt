-- Right neighbours that get their index entries at once.
use Rattle.std.specs.Prelude.{ℕ, ◌<◌, List, [], ◌∷◌, length}
use Rattle.bw_key.specs.Order.{KeyBytes}
use Rattle.bw_tree.specs.TreeChildren.{AreNamed}
use Rattle.bw_look.specs.Unnamed.{IsUnnamed}
use Rattle.bw_look.specs.View.{TreeView}

-- the page has no right neighbour that this page of the level above is to name
abbrev pub HasNoUnnamedOn : TreeView → ℕ → ℕ → Type 0
HasNoUnnamedOn tree p parent = (sep : KeyBytes) (q : ℕ) → IsUnnamed tree p parent sep q → ⊥

-- the entries are of pages to the right of p, one right of the other, that this page of the level above is to name
abbrev pub AreUnnamed : TreeView → ℕ → ℕ → List (KeyBytes × ℕ) → Type 0
AreUnnamed tree p parent [] = Unit {0}
AreUnnamed tree p parent (e ∷ es) = IsUnnamed tree p parent e.0 e.1 × AreUnnamed tree e.1 parent es

-- the page that is last among p and those of these entries
abbrev pub last_page : ℕ → List (KeyBytes × ℕ) → ℕ
last_page p [] = p
last_page p (e ∷ es) = last_page e.1 es

-- they are all of these pages
pub record AreAllUnnamed (tree : TreeView) (p parent : ℕ) (entries : List (KeyBytes × ℕ)) : Type 0 where
  pub unnamed : AreUnnamed tree p parent entries
  pub all : HasNoUnnamedOn tree (last_page p entries) parent

-- all right neighbours of p that this page of the level above was to name have their index entries there, and some do
pub record AreFinished (old new : TreeView) (p parent : ℕ) : Type 0 where
  pub entries : List (KeyBytes × ℕ)
  pub some : 0 < length entries
  pub unnamed : AreAllUnnamed old p parent entries
  pub named : AreNamed old new parent entries
