-- A page parts in two: it keeps its first entries, and a new page right of it has the others.
use Rattle.std.specs.Prelude.{◌≡◌, ℕ, ◌<◌, if◌then◌else◌, nat_eq, List, [], ◌∷◌, Option, Some, None, length, take, drop, slice_get, slice_set}
use Rattle.std.specs.Option.{option_map}
use Rattle.bw_key.specs.Order.{KeyBytes}
use Rattle.bw_page.specs.Pages.{first_key}
use Rattle.bw_level.specs.Before.{removed_at}
use Rattle.bw_level.specs.Slots.{Slot, PageState, Body, Pairs, Children, Free, Gone, Live, children_of, slot_at}
use Rattle.bw_level.specs.Levels.{row}
use Rattle.bw_level.specs.Reading.{body_writes}

-- how many entries a page has: pairs, or children
abbrev pub entry_count : Body → ℕ
entry_count (Pairs pairs writes) = length pairs
entry_count (Children level children) = length children

-- the first entries, and the others
abbrev pub first_entries : ℕ → Body → Body
first_entries keep (Pairs pairs writes) = Pairs (take keep pairs) writes
first_entries keep (Children level children) = Children level (take keep children)

abbrev pub other_entries : ℕ → Body → Body
other_entries keep (Pairs pairs writes) = Pairs (drop keep pairs) writes
other_entries keep (Children level children) = Children level (drop keep children)

-- the key at which the others begin
abbrev pub separator : ℕ → Body → KeyBytes
separator keep (Pairs pairs writes) = first_key (drop keep pairs)
separator keep (Children level children) = first_key (drop keep children)

abbrev pub left_part : ℕ → ℕ → PageState → PageState
left_part keep to s = record {
  low = s.low;
  high = Some (separator keep s.body);
  side = Some to;
  body = first_entries keep s.body;
}

abbrev pub right_part : ℕ → PageState → PageState
right_part keep s = record {
  low = separator keep s.body;
  high = s.high;
  side = s.side;
  body = other_entries keep s.body;
}

-- The page p, over which there is no write, keeps its first entries, and the page q, which was free, has the others.
-- All other pages are as before.
pub record IsParted (old new : List Slot) (p q keep : ℕ) : Type 0 where
  pub was : PageState
  pub is : slot_at old p ≡ Live was
  pub bare : body_writes was.body ≡ []
  pub free : slot_at old q ≡ Free
  pub some : 0 < keep
  pub fewer : keep < entry_count was.body
  pub left : slot_at new p ≡ Live (left_part keep q was)
  pub right : slot_at new q ≡ Live (right_part keep was)
  pub others : (r : ℕ) → (r ≡ p → ⊥) → (r ≡ q → ⊥) → slot_at new r ≡ slot_at old r

-- pages with q right behind p
abbrev pub put_behind : ℕ → ℕ → List ℕ → List ℕ
put_behind p q [] = []
put_behind p q (x ∷ xs) = let rest = put_behind p q xs in x ∷ (if nat_eq x p then q ∷ rest else rest)

-- the same of a level
abbrev pub level_parted : List (List ℕ) → ℕ → ℕ → ℕ → List (List ℕ)
level_parted levels level p q = slice_set levels level (put_behind p q (row levels level))

-- How many entries a page has; the key at which those from a place on begin; the page that has them; and the one that has
-- those before.
abbrev pub slot_entries : Slot → ℕ
slot_entries (Live s) = entry_count s.body
slot_entries (Gone l) = 0
slot_entries Free = 0

abbrev pub slot_separator : ℕ → Slot → KeyBytes
slot_separator keep (Live s) = separator keep s.body
slot_separator keep (Gone l) = []
slot_separator keep Free = []

abbrev pub slot_right : ℕ → Slot → Slot
slot_right keep (Live s) = Live (right_part keep s)
slot_right keep (Gone l) = Gone l
slot_right keep Free = Free

abbrev pub slot_left : ℕ → Slot → Slot
slot_left keep (Live s) = Live (record s { body = first_entries keep s.body })
slot_left keep (Gone l) = Gone l
slot_left keep Free = Free

-- the child of an inner page at a place among its children
abbrev pub slot_child : ℕ → Slot → Option ℕ
slot_child place (Live s) = option_map (λ e. e.1) (slice_get (children_of s.body) place)
slot_child place (Gone l) = None
slot_child place Free = None

-- the child of an inner page at this place, if it has so many, isn't a removed page
abbrev pub HasNoRemovedAt : List Slot → ℕ → ℕ → Type 0
HasNoRemovedAt slots p place =
    (c : ℕ) → slot_child place (slot_at slots p) ≡ Some c → removed_at (slot_at slots c) ≡ None
