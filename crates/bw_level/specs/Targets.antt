-- What a search is for, and the keys that stand for it.
use Rattle.std.specs.Prelude.{◌≡◌, ℕ, Bool, true, false, not, T, List, Option, Some, None, is_some, MatchOption}
use Rattle.std.specs.List.{Contains}
use Rattle.std.specs.List.Sorted.{IsPartitionPoint}
use Rattle.std.specs.Option.{option_copied}
use Rattle.bw_key.specs.Order.{KeyBytes}
use Rattle.bw_model.specs.Contents.{is_below_end}
use Rattle.bw_page.specs.Inners.{IsLastUpto, IsUpto, is_upto}
use Rattle.bw_level.specs.declared.target.Target.{Target}
use Rattle.bw_level.specs.declared.target.Target.TheVariants.{Home, Before}
use Rattle.bw_level.specs.declared.turns.Turn.{Turn}
use Rattle.bw_level.specs.Slots.{Slot, Free, Gone, Live, slot_at, children_of}
use Rattle.bw_level.specs.Levels.{IsHome}
use Rattle.bw_level.specs.Turns.{IsTurn, IsWithin}

-- what is sought lies at this key or behind it
abbrev pub lies_from : Target → KeyBytes → Bool
lies_from (Home key) at = is_upto at key.now
lies_from (Before end) at = is_below_end (option_copied end) at

-- what is sought lies past a range that ends here
abbrev pub lies_past : Target → Option KeyBytes → Bool
lies_past target None = false
lies_past target (Some end) = lies_from target end

-- each separator is on the same side of a key as of what is sought
abbrev pub SeparatorsAgree : Target → KeyBytes → List (KeyBytes × ℕ) → Type 0
SeparatorsAgree target key children =
    (c : KeyBytes × ℕ) → Contains children c → lies_from target c.0 ≡ is_upto c.0 key

-- A key stands for what is sought, on a page: the page's end lies on the same side of both, and so does each separator.
pub record StandsFor (target : Target) (key : KeyBytes) (high : Option KeyBytes)
    (children : List (KeyBytes × ℕ)) : Type 0 where
  pub end : lies_past target high ≡ not (is_below_end high key)
  pub separators : SeparatorsAgree target key children

abbrev pub StandsOn : Target → KeyBytes → Slot → Type 0
StandsOn target key (Live s) = StandsFor target key s.high (children_of s.body)
StandsOn target key (Gone l) = Unit {0}
StandsOn target key Free = Unit {0}

-- the same, of the separators alone
abbrev pub StandsWithin : Target → KeyBytes → Slot → Type 0
StandsWithin target key (Live s) = SeparatorsAgree target key (children_of s.body)
StandsWithin target key (Gone l) = Unit {0}
StandsWithin target key Free = Unit {0}

-- the same, on each page
abbrev pub StandsOnAll : List Slot → Target → KeyBytes → Type 0
StandsOnAll slots target key = (p : ℕ) → StandsOn target key (slot_at slots p)

-- where there is a page, what is sought doesn't lie before its range
abbrev pub StartsFrom : Slot → Target → Type 0
StartsFrom (Live s) target = T (lies_from target s.low)
StartsFrom (Gone l) target = Unit {0}
StartsFrom Free target = ⊥

-- a page has a right neighbour exactly where its range has an end
abbrev pub IsLinked : Slot → Type 0
IsLinked (Live s) = is_some s.side ≡ is_some s.high
IsLinked (Gone l) = Unit {0}
IsLinked Free = Unit {0}

-- for each key that stands there for what is sought, a search goes on so from the page
abbrev pub IsTurnFor : Target → Slot → Turn → Type 0
IsTurnFor target slot turn = (key : KeyBytes) → StandsOn target key slot → IsTurn slot key turn

-- and so where what is sought isn't past the page's range
abbrev pub IsWithinFor : Target → Slot → Turn → Type 0
IsWithinFor target slot turn = (key : KeyBytes) → StandsWithin target key slot → IsWithin slot key turn

-- the right neighbour of a page, where what is sought lies past its range
abbrev pub IsPast : Target → Option KeyBytes → Option ℕ → Option ℕ → Type 0
IsPast target high side next =
    MatchOption next (lies_past target high ≡ false) (λ q. (lies_past target high ≡ true) × (side ≡ Some q))

-- the child with the last separator that isn't above a key which stands for what is sought
abbrev pub IsChildFor : Target → List (KeyBytes × ℕ) → ℕ → Type 0
IsChildFor target children child =
    (key : KeyBytes) → SeparatorsAgree target key children → IsLastUpto key children child

-- of the entries whose keys aren't above the given one, this one has the greatest
pub record IsLastEntry (key : KeyBytes) (entries : List (KeyBytes × ℕ)) (entry : KeyBytes × ℕ) : Type 0 where
  pub named : Contains entries entry
  pub not_above : IsUpto entry.0 key
  pub greatest : (e : KeyBytes × ℕ) → Contains entries e → IsUpto e.0 key → IsUpto e.0 entry.0

-- the same child, with its separator
abbrev pub IsEntryFor : Target → List (KeyBytes × ℕ) → KeyBytes × ℕ → Type 0
IsEntryFor target children entry =
    (key : KeyBytes) → SeparatorsAgree target key children → IsLastEntry key children entry

-- below this place what is sought lies at each separator or behind it, and from there on before each
abbrev pub PartsChildren : Target → List (KeyBytes × ℕ) → ℕ → Type 0
PartsChildren target children n =
    IsPartitionPoint (λ c. lies_from target c.0 ≡ true) (λ c. lies_from target c.0 ≡ false) children n

-- each key that stands for what is sought, on all pages, is at home on this one
abbrev pub AreAtHome : List Slot → List (List ℕ) → Target → ℕ → Type 0
AreAtHome slots levels target p = (key : KeyBytes) → StandsOnAll slots target key → IsHome slots levels key p
