-- How a page is written.
use Rattle.std.specs.Prelude.{ℕ, ◌*◌, ◌/◌, ◌==◌, min, max, if◌then◌else◌, List, [], ◌∷◌, ◌++◌, codes}
use Rattle.std.specs.Fmt.{decimal}
use Rattle.bw_text.specs.Spelling.{high_text, spelled}
use Rattle.bw_look.specs.declared.look.shape.PageShape.{PageShape}

-- "leaf " or "inner page ", by a page's level
abbrev pub kind_text : ℕ → List ℕ
kind_text level = if level == 0 then codes "leaf " else codes "inner page "

-- "leaf 3"
abbrev pub name_text : PageShape → List ℕ
name_text page = kind_text page.level ++ decimal page.page

-- "from c to e"
abbrev pub range_text : PageShape → List ℕ
range_text page = codes "from " ++ spelled page.low ++ codes " to " ++ high_text page.high

-- "1 write", "2 writes"
abbrev pub count_text : ℕ → List ℕ → List ℕ → List ℕ
count_text n one many = decimal n ++ 32 ∷ (if n == 1 then one else many)

-- "2 pairs" of a leaf, "2 children" of an inner page
abbrev pub entries_text : PageShape → List ℕ
entries_text page = if page.level == 0 then count_text page.pairs (codes "pair") (codes "pairs")
    else count_text page.pairs (codes "child") (codes "children")

abbrev pub writes_text : PageShape → List ℕ
writes_text page = count_text page.writes (codes "write") (codes "writes")

-- the writes in a title, where there are some
abbrev pub title_writes_text : PageShape → List ℕ
title_writes_text page = if page.writes == 0 then [] else codes ", " ++ writes_text page

-- all that is known of a page, in words
abbrev pub title_text : PageShape → List ℕ
title_text page = codes "<title>" ++ name_text page ++ codes ", " ++ range_text page ++ codes ", " ++ entries_text page
    ++ title_writes_text page ++ codes "</title>\n"

-- the colour of what is filled, by a page's level
abbrev pub accent_text : ℕ → List ℕ
accent_text level = if level == 0 then codes "#2f6db3" else codes "#b3652f"

-- and that of the page below it
abbrev pub pale_text : ℕ → List ℕ
pale_text level = if level == 0 then codes "#eaf2fb" else codes "#fbf0e6"

-- a page's rectangle, so many pixels wide
abbrev pub box_text : ℕ → ℕ → List ℕ
box_text wide level = codes "<rect width=\"" ++ decimal wide ++ codes "\" height=\"100\" rx=\"6\" fill=\""
    ++ pale_text level ++ codes "\" stroke=\"" ++ accent_text level ++ codes "\"/>\n"

-- its name, and where its range begins and ends
abbrev pub lines_text : PageShape → List ℕ
lines_text page = codes "<text x=\"12\" y=\"22\" font-weight=\"bold\">" ++ name_text page
    ++ codes "</text>\n<text x=\"12\" y=\"40\">from " ++ spelled page.low
    ++ codes "</text>\n<text x=\"12\" y=\"56\">to " ++ high_text page.high ++ codes "</text>\n"

-- how many of the 150 pixels of a bar are filled
abbrev pub filled : ℕ → ℕ → ℕ
filled entries page_max = min (entries * 150 / max page_max 1) 150

-- how full it is, as a bar
abbrev pub bar_text : ℕ → PageShape → List ℕ
bar_text page_max page =
    codes "<rect x=\"12\" y=\"66\" width=\"150\" height=\"8\" fill=\"#d9dfe6\"/>\n"
    ++ codes "<rect x=\"12\" y=\"66\" width=\"" ++ decimal (filled page.pairs page_max)
    ++ codes "\" height=\"8\" fill=\"" ++ accent_text page.level ++ codes "\"/>\n"

-- the bar with the numbers below it
abbrev pub fill_text : ℕ → PageShape → List ℕ
fill_text page_max page = bar_text page_max page ++ codes "<text x=\"12\" y=\"90\">" ++ entries_text page
    ++ codes " of " ++ decimal page_max ++ codes "</text>\n"

-- the writes that hang on a page
abbrev pub hanging_text : PageShape → List ℕ
hanging_text page =
    codes "<path d=\"M32 100v12\" stroke=\"#c0392b\"/>\n"
    ++ codes "<rect x=\"12\" y=\"112\" width=\"150\" height=\"24\" rx=\"5\" fill=\"#fdeceb\" stroke=\"#c0392b\"/>\n"
    ++ codes "<text x=\"20\" y=\"128\">" ++ writes_text page ++ codes "</text>\n"

-- they hang on it where there are some
abbrev pub chain_text : PageShape → List ℕ
chain_text page = if page.writes == 0 then [] else hanging_text page

-- what stands in a page's group
abbrev pub body_text : ℕ → ℕ → PageShape → List ℕ
body_text wide page_max page = title_text page ++ box_text wide page.level ++ lines_text page ++ fill_text page_max page
    ++ chain_text page

-- what spans so many pixels below an inner page
abbrev pub span_text : ℕ → List ℕ
span_text span = codes "<path d=\"M87 100v20M0 128v-8h" ++ decimal span
    ++ codes "v8\" fill=\"none\" stroke=\"#b3652f\"/>\n"

-- there is nothing below a leaf
abbrev pub bracket_text : ℕ → ℕ → List ℕ
bracket_text span level = if level == 0 then [] else span_text span
