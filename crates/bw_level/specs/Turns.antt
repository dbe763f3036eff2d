-- Where a search for a key goes on from a page.
use Rattle.std.specs.Prelude.{◌≡◌, true, false, [], Option, Some, None}
use Rattle.std.specs.Borrow.{Bor}
use Rattle.bw_key.specs.Order.{KeyBytes}
use Rattle.bw_model.specs.Contents.{is_below_end}
use Rattle.bw_page.specs.Inners.{IsUpto, IsLastUpto}
use Rattle.bw_page.specs.declared.pages.Page.{Page}
use Rattle.bw_delta.specs.declared.deltas.Delta.{Delta}
use Rattle.bw_delta.specs.declared.deltas.Delta.TheVariants.{Put, Split, Absorb, Removed, AddChild, DropChild}
use Rattle.bw_level.specs.declared.turns.Turn.{Turn}
use Rattle.bw_level.specs.declared.turns.Turn.TheVariants.{Here, Right, Down, Left}
use Rattle.bw_level.specs.Slots.{Slot, Body, Pairs, Children, Free, Gone, Live, level_of, children_of}
use Rattle.bw_level.specs.Changes.{Bases, change, plain}

-- A key past a page's range is sought at the right neighbour, one of its range at the page itself or at a child.
-- From a removed page the search goes on at the left neighbour.
abbrev pub IsTurn : Slot → KeyBytes → Turn → Type 0
IsTurn (Live s) key Here = (is_below_end s.high key ≡ true) × (level_of s.body ≡ 0)
IsTurn (Live s) key (Right q) = (is_below_end s.high key ≡ false) × (s.side ≡ Some q)
IsTurn (Live s) key (Down c) = (is_below_end s.high key ≡ true) × IsLastUpto key (children_of s.body) c
IsTurn (Live s) key (Left l) = ⊥
IsTurn (Gone l) key Here = ⊥
IsTurn (Gone l) key (Right q) = ⊥
IsTurn (Gone l) key (Down c) = ⊥
IsTurn (Gone l) key (Left m) = l.left ≡ m
IsTurn Free key turn = ⊥

-- the same for a key that isn't past the page's range
abbrev pub IsWithin : Slot → KeyBytes → Turn → Type 0
IsWithin (Live s) key Here = level_of s.body ≡ 0
IsWithin (Live s) key (Right q) = ⊥
IsWithin (Live s) key (Down c) = IsLastUpto key (children_of s.body) c
IsWithin (Live s) key (Left l) = ⊥
IsWithin (Gone l) key Here = ⊥
IsWithin (Gone l) key (Right q) = ⊥
IsWithin (Gone l) key (Down c) = ⊥
IsWithin (Gone l) key (Left m) = l.left ≡ m
IsWithin Free key turn = ⊥

-- where there is a page, its range doesn't begin above the key
abbrev pub StartsUpto : Slot → KeyBytes → Type 0
StartsUpto (Live s) key = IsUpto s.low key
StartsUpto (Gone l) key = Unit {0}
StartsUpto Free key = ⊥

-- a page without the writes over it
abbrev pub body_without_writes : Body → Body
body_without_writes (Pairs pairs writes) = Pairs pairs []
body_without_writes (Children level children) = Children level children

abbrev pub slot_without_writes : Slot → Slot
slot_without_writes (Live s) = Live (record s { body = body_without_writes s.body })
slot_without_writes (Gone l) = Gone l
slot_without_writes Free = Free

-- what a change, if there is one, makes of a page
abbrev pub over : Bases → Option (Bor Delta) → Slot → Slot
over bases None slot = slot
over bases (Some d) slot = change bases d.now slot

-- a change that may lie under the writes
abbrev pub IsOther : Delta → Type 0
IsOther (Put w) = ⊥
IsOther (Split k to) = Unit {0}
IsOther (Absorb base side) = Unit {0}
IsOther (Removed left) = ⊥
IsOther (AddChild k child) = Unit {0}
IsOther (DropChild k) = Unit {0}

abbrev pub IsNoWrite : Option (Bor Delta) → Type 0
IsNoWrite None = Unit {0}
IsNoWrite (Some d) = IsOther d.now

-- the base page that a reference points to, if one is there
abbrev pub plain_at : Option (Bor Page) → Slot
plain_at None = Free
plain_at (Some page) = plain page.now
