-- The leaves among the pages of an index, in the order of keys, each with its range.
use Rattle.std.specs.Prelude.{List, [], ◌∷◌, nat_eq, if◌then◌else◌}
use Rattle.bw_look.specs.declared.look.shape.PageShape.{PageShape}
use Rattle.bw_shape.specs.LeafRanges.{LeafRange}

abbrev pub range_of : PageShape → LeafRange
range_of page = record { page = page.page; low = page.low; high = page.high }

abbrev pub leaves_of : List PageShape → List LeafRange
leaves_of [] = []
leaves_of (page ∷ pages) = if nat_eq page.level 0 then range_of page ∷ leaves_of pages else leaves_of pages
