-- Leaves side by side in which a tree has no pair.
use Rattle.std.specs.Prelude.{◌≡◌, ℕ, ◌≤◌, T, Option, None, IfSome}
use Rattle.std.specs.FinMap.{get}
use Rattle.bw_key.specs.Order.{KeyBytes}
use Rattle.bw_model.specs.Contents.{is_in_range}
use Rattle.bw_level.specs.Before.{low_of}
use Rattle.bw_level.specs.Scans.{high_of}
use Rattle.bw_level.specs.Slots.{slot_at}
use Rattle.bw_look.specs.View.{TreeView, contents_at}
use Rattle.bw_scan.specs.declared.scans.gaps.Gap.{Gap}

-- no key of a range has a value as of a stamp
abbrev pub HasNone : TreeView → ℕ → KeyBytes → Option KeyBytes → Type 0
HasNone tree stamp from to = (key : KeyBytes) → T (is_in_range from to key) → get (contents_at tree stamp) key ≡ None

-- from where the first leaf begins on and below the end of the last one, as of each of its stamps
abbrev pub IsGap : TreeView → Gap → Type 0
IsGap tree gap =
    (stamp : ℕ) → gap.since ≤ stamp → stamp ≤ gap.until →
    HasNone tree stamp (low_of (slot_at tree.slots gap.first)) (high_of (slot_at tree.slots gap.last))

-- such leaves, if there are any, and this stamp among theirs
abbrev pub IsGapAt : TreeView → ℕ → Option Gap → Type 0
IsGapAt tree stamp gap = IfSome gap (λ g. IsGap tree g × (g.since ≤ stamp) × (stamp ≤ g.until))
