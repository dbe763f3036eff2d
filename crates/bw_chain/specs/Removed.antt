-- Base pages that say of their page that it was removed.
use Rattle.std.specs.Prelude.{◌≡◌, ℕ, List, Some, slice_get}
use Rattle.std.specs.List.{Contains}
use Rattle.bw_page.specs.declared.pages.Page.{Page}
use Rattle.bw_page.specs.declared.pages.Page.TheVariants.{Gone as GonePage}
use Rattle.bw_page.specs.declared.pages.RemovedPage.{RemovedPage}
use Rattle.bw_level.specs.Changes.{Bases}

-- the base page of this number says so
abbrev pub IsRemovedAt : Bases → ℕ → RemovedPage → Type 0
IsRemovedAt bases n removed = slice_get bases n ≡ Some (Some (GonePage removed))

-- a page by itself isn't a removed one
abbrev pub IsNotRemoved : Page → Type 0
IsNotRemoved page = (removed : RemovedPage) → page ≡ GonePage removed → ⊥

-- no base page says so
abbrev pub HasNoRemoved : Bases → Type 0
HasNoRemoved bases = (n : ℕ) (removed : RemovedPage) → IsRemovedAt bases n removed → ⊥

-- the numbers of all that do are among these
abbrev pub HasAllRemoved : Bases → List ℕ → Type 0
HasAllRemoved bases numbers = (n : ℕ) (removed : RemovedPage) → IsRemovedAt bases n removed → Contains numbers n

-- the base page of this number says that its page was removed into that left neighbour
abbrev pub IsRemovedInto : Bases → ℕ → ℕ → Type 0
IsRemovedInto bases left n = (removed : RemovedPage) × (IsRemovedAt bases n removed × (removed.left ≡ left))
