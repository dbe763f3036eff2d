-- Where pages stand in a picture.
use Rattle.std.specs.Prelude.{ℕ, ◌+◌, ◌-◌, ◌*◌, ◌^◌, Bool, ◌&&◌, ◌==◌, min, max, if◌then◌else◌, List, [], ◌∷◌, length, drop, Option, Some}
use Rattle.bw_key.specs.Order.{KeyBytes}
use Rattle.bw_model.specs.Contents.{is_below_end}
use Rattle.bw_text.specs.Spelling.{high_text, spelled}
use Rattle.bw_look.specs.declared.look.shape.PageShape.{PageShape}
use Rattle.bw_picture.specs.declared.layout.Extent.{Extent}
use Rattle.bw_picture.specs.declared.layout.Frame.{Frame}
use Rattle.bw_picture.specs.declared.layout.Spot.{Spot}

-- what would not fit a `u64` stays at its most
abbrev pub capped : ℕ → ℕ
capped n = min n (2 ^ 64 - 1)

-- the letters of the longer one of the lines that have a key: "from c", "to e"
abbrev pub letters_of : PageShape → ℕ
letters_of page = max (length (spelled page.low) + 5) (length (high_text page.high) + 3)

-- what pages need, with one more behind them
abbrev pub extent_with : Extent → PageShape → Extent
extent_with extent page = record {
  letters = max extent.letters (letters_of page);
  top = max extent.top page.level;
  leaves = if page.level == 0 then capped (extent.leaves + 1) else extent.leaves;
}

-- with all of these behind them
abbrev pub extent_behind : Extent → List PageShape → Extent
extent_behind extent [] = extent
extent_behind extent (page ∷ pages) = extent_behind (extent_with extent page) pages

-- what no pages need
abbrev pub no_extent : Extent
no_extent = record { letters = 0; top = 0; leaves = 0 }

-- how wide pages are: room for the letters, 8 pixels for each, and for the bar
abbrev pub wide_of : Extent → ℕ
wide_of extent = capped (max (capped (extent.letters * 8)) 150 + 24)

-- what is the same for all pages, in a picture of pages that need this
abbrev pub frame_of : Extent → ℕ → Frame
frame_of extent page_max = record { wide = wide_of extent; top = extent.top; page_max = page_max }

-- where a column of pages begins
abbrev pub x_of : ℕ → ℕ → ℕ
x_of wide column = capped (capped (column * capped (wide + 24)) + 24)

-- how wide and how high a picture is
abbrev pub width_of : Extent → ℕ
width_of extent = x_of (wide_of extent) extent.leaves

abbrev pub height_of : Extent → ℕ
height_of extent = 24 + (extent.top + 1) * 160

-- where a page's rectangle begins, from above: the top level comes first
abbrev pub y_of : Frame → ℕ → ℕ
y_of frame level = 24 + (frame.top - level) * 160

-- whether a page is a leaf that begins below an end
abbrev pub is_leaf_below : Option KeyBytes → PageShape → Bool
is_leaf_below end page = page.level == 0 && is_below_end end page.low

-- how many of the first pages are such leaves
abbrev pub leaves_below : Option KeyBytes → List PageShape → ℕ
leaves_below end [] = 0
leaves_below end (page ∷ pages) = if is_leaf_below end page then leaves_below end pages + 1 else 0

-- the column of the first leaf from one on that does not begin below an end
abbrev pub column_from : List PageShape → ℕ → Option KeyBytes → ℕ
column_from pages column end = column + leaves_below end (drop column pages)

-- where a page stands: above the first leaf of its range, and no further left than the page before it in its row
abbrev pub spot_of : List PageShape → Spot → PageShape → Spot
spot_of pages before page =
    let column = if page.level == before.level then before.column else 0 in
    record { level = page.level; column = column_from pages column (Some page.low) }

abbrev pub first_spot : Spot
first_spot = record { level = 0; column = 0 }

-- how wide the leaves of a page's range are, with what is between them
abbrev pub span_of : Frame → List PageShape → Spot → PageShape → ℕ
span_of frame pages spot page =
    x_of frame.wide (column_from pages spot.column page.high) - x_of frame.wide spot.column - 24
