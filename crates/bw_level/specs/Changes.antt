-- Base pages, and what a change makes of a page.
use Rattle.std.specs.Prelude.{ℕ, Option, Some, None, List, [], ◌∷◌}
use Rattle.std.specs.FinMap.{put}
use Rattle.bw_key.specs.Order.{KeyBytes, key_cmp}
use Rattle.bw_page.specs.Pages.{below}
use Rattle.bw_page.specs.declared.pages.Page.{Page}
use Rattle.bw_page.specs.declared.pages.Page.TheVariants.{Leaf as LeafPage, Inner as InnerPage, Gone as GonePage}
use Rattle.bw_delta.specs.Writes.{WriteView}
use Rattle.bw_delta.specs.declared.deltas.Delta.{Delta}
use Rattle.bw_delta.specs.declared.deltas.Delta.TheVariants.{Put, Split, Absorb, Removed, AddChild, DropChild}
use Rattle.bw_level.specs.Slots.{Slot, PageState, Body, Pairs, Children, Free, Gone, Live}

-- a base page by itself
abbrev pub plain : Page → Slot
plain (LeafPage l) = Live (record { low = l.low; high = l.high; side = l.side; body = Pairs l.pairs [] })
plain (InnerPage p) = Live (record { low = p.low; high = p.high; side = p.side; body = Children p.level p.children })
plain (GonePage removed) = Gone removed

-- base pages by their numbers; a number may be vacant
abbrev pub Bases : Type 0
Bases = List (Option Page)

abbrev pub based : Option (Option Page) → Slot
based None = Free
based (Some None) = Free
based (Some (Some page)) = plain page

abbrev pub body_written : WriteView → Body → Body
body_written w (Pairs pairs writes) = Pairs pairs (w ∷ writes)
body_written w (Children level children) = Children level children

abbrev pub body_below : KeyBytes → Body → Body
body_below k (Pairs pairs writes) = Pairs (below k pairs) writes
body_below k (Children level children) = Children level (below k children)

abbrev pub body_with_child : KeyBytes → ℕ → Body → Body
body_with_child k child (Pairs pairs writes) = Pairs pairs writes
body_with_child k child (Children level children) = Children level (put key_cmp k child children)

-- a page that stays, with a change
abbrev pub page_changed : (PageState → PageState) → Slot → Slot
page_changed f (Live s) = Live (f s)
page_changed f (Gone l) = Gone l
page_changed f Free = Free

-- What one delta makes of a page. An absorption, a removal and a dropped child tell of what the base page has already.
abbrev pub change : Bases → Delta → Slot → Slot
change bases (Put w) slot = page_changed (λ s. record s { body = body_written w s.body }) slot
change bases (Split k to) slot =
    page_changed (λ s. record s { high = Some k; side = Some to; body = body_below k s.body }) slot
change bases (Absorb base side) slot = slot
change bases (Removed left) slot = slot
change bases (AddChild k child) slot = page_changed (λ s. record s { body = body_with_child k child s.body }) slot
change bases (DropChild k) slot = slot
