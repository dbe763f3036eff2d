-- Inner pages as contracts see them, and the rules that each one keeps.
use Rattle.std.specs.Prelude.{ℕ, ◌≤◌, Bool, not, List, ◌++◌, Option, Some, T, take, drop, filter}
use Rattle.std.specs.List.{Contains}
use Rattle.std.specs.Ordering.{is_lt}
use Rattle.std.specs.FinMap.{put}
use Rattle.bw_key.specs.Order.{KeyBytes, key_cmp, key_eq}
use Rattle.bw_page.specs.MergedEntries.{put_all}
use Rattle.bw_page.specs.Pages.{IsPage, BeginsAt, below, first_key}

-- the level above the leaves, the bounds of a range of keys, the right neighbour, and the separators with their children
pub record InnerView : Type 0 where
  pub level : ℕ
  pub low : KeyBytes
  pub high : Option KeyBytes
  pub side : Option ℕ
  pub children : List (KeyBytes × ℕ)

-- The separators strictly rise inside the range, from its lower end on. So there is a child.
pub record IsInner (level : ℕ) (low : KeyBytes) (high : Option KeyBytes) (side : Option ℕ)
    (children : List (KeyBytes × ℕ)) : Type 0 where
  pub raised : 1 ≤ level
  pub page : IsPage low high side children
  pub begins : BeginsAt low children

-- the first key isn't above the second
abbrev pub is_upto : KeyBytes → KeyBytes → Bool
is_upto a b = not (is_lt (key_cmp b a))

abbrev pub IsUpto : KeyBytes → KeyBytes → Type 0
IsUpto a b = T (is_upto a b)

-- the entry with the greatest key that isn't above the given one has this value
pub record IsLastUpto {V : Type 0} (key : KeyBytes) (entries : List (KeyBytes × V)) (value : V) : Type 0 where
  pub separator : KeyBytes
  pub named : Contains entries (separator, value)
  pub not_above : IsUpto separator key
  pub greatest : (e : KeyBytes × V) → Contains entries e → IsUpto e.0 key → IsUpto e.0 separator

-- the children from place `keep` on, as the page that begins at the first of their separators
abbrev pub upper_inner : InnerView → ℕ → InnerView
upper_inner inner keep =
    record {
      level = inner.level;
      low = first_key (drop keep inner.children);
      high = inner.high;
      side = inner.side;
      children = drop keep inner.children;
    }

-- the page with the children before place `keep` alone
abbrev pub lower_inner : InnerView → ℕ → InnerView
lower_inner inner keep = record inner { children = take keep inner.children }

-- the page up to this key, before this right neighbour
abbrev pub narrowed_inner : InnerView → KeyBytes → ℕ → InnerView
narrowed_inner inner high side =
    record {
      level = inner.level;
      low = inner.low;
      high = Some high;
      side = Some side;
      children = below high inner.children;
    }

-- a page and its right neighbour as one
abbrev pub joined_inner : InnerView → InnerView → InnerView
joined_inner left right =
    record {
      level = left.level;
      low = left.low;
      high = right.high;
      side = right.side;
      children = left.children ++ right.children;
    }

-- the page with this child at the separator, in place of one that stands there
abbrev pub with_child : InnerView → KeyBytes → ℕ → InnerView
with_child inner sep child = record inner { children = put key_cmp sep child inner.children }

-- the page with these children put among its own
abbrev pub with_children : InnerView → List (KeyBytes × ℕ) → InnerView
with_children inner entries = record inner { children = put_all entries inner.children }

-- the page without the separator
abbrev pub without_child : InnerView → KeyBytes → InnerView
without_child inner sep = record inner { children = filter (λ c. not (key_eq sep c.0)) inner.children }
