-- How a tree's pages are listed.
use Rattle.std.specs.Prelude.{ℕ, ◌==◌, if◌then◌else◌, List, ◌∷◌, ◌++◌, codes}
use Rattle.std.specs.List.{flat_map}
use Rattle.std.specs.Fmt.{decimal}
use Rattle.bw_look.specs.declared.look.shape.PageShape.{PageShape}
use Rattle.bw_text.specs.Spelling.{high_text, spelled}
use Rattle.bw_text.specs.Texts.{line}

-- `LOW HIGH`
abbrev pub range_text : PageShape → List ℕ
range_text page = spelled page.low ++ 32 ∷ high_text page.high

-- `leaf LOW HIGH PAIRS WRITES`
abbrev pub leaf_text : PageShape → List ℕ
leaf_text page = line (codes "leaf " ++ range_text page ++ 32 ∷ decimal page.pairs ++ 32 ∷ decimal page.writes)

-- `inner LEVEL LOW HIGH CHILDREN`
abbrev pub inner_text : PageShape → List ℕ
inner_text page = line (codes "inner " ++ decimal page.level ++ 32 ∷ range_text page ++ 32 ∷ decimal page.pairs)

abbrev pub page_text : PageShape → List ℕ
page_text page = if page.level == 0 then leaf_text page else inner_text page

-- a line for each page
abbrev pub shape_text : List PageShape → List ℕ
shape_text = flat_map page_text
