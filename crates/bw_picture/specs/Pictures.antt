-- How a tree is drawn.
use Rattle.std.specs.Prelude.{ℕ, List, [], ◌∷◌, ◌++◌, codes}
use Rattle.std.specs.Fmt.{decimal}
use Rattle.bw_look.specs.declared.look.shape.PageShape.{PageShape}
use Rattle.bw_picture.specs.DrawnPages.{body_text, bracket_text}
use Rattle.bw_picture.specs.Layout.{extent_behind, no_extent, frame_of, width_of, height_of, x_of, y_of, spot_of, first_spot, span_of}
use Rattle.bw_picture.specs.declared.layout.Frame.{Frame}
use Rattle.bw_picture.specs.declared.layout.Spot.{Spot}

-- the beginning of a group whose upper left corner is at a place
abbrev pub place_text : ℕ → ℕ → List ℕ
place_text x y = codes "<g transform=\"translate(" ++ decimal x ++ codes " " ++ decimal y ++ codes ")\">\n"

-- a page's group, where all of these pages are drawn
abbrev pub page_text : Frame → List PageShape → Spot → PageShape → List ℕ
page_text frame all spot page = place_text (x_of frame.wide spot.column) (y_of frame page.level)
    ++ body_text frame.wide frame.page_max page ++ bracket_text (span_of frame all spot page) page.level
    ++ codes "</g>\n"

-- the groups of pages, one for each, in their order, behind a page at a spot
abbrev pub pages_text : Frame → List PageShape → Spot → List PageShape → List ℕ
pages_text frame all before [] = []
pages_text frame all before (page ∷ pages) =
    let spot = spot_of all before page in
    page_text frame all spot page ++ pages_text frame all spot pages

-- the beginning of a picture
abbrev pub head_text : ℕ → ℕ → List ℕ
head_text width height = codes "<svg xmlns=\"http://www.w3.org/2000/svg\" width=\"" ++ decimal width
    ++ codes "\" height=\"" ++ decimal height ++ codes "\" font-family=\"monospace\" font-size=\"12\">\n"

-- its white ground
abbrev pub ground_text : List ℕ
ground_text = codes "<rect width=\"100%\" height=\"100%\" fill=\"#ffffff\"/>\n"

-- the picture of a tree with these pages
abbrev pub picture_text : ℕ → List PageShape → List ℕ
picture_text page_max pages =
    let extent = extent_behind no_extent pages in
    head_text (width_of extent) (height_of extent) ++ ground_text
    ++ pages_text (frame_of extent page_max) pages first_spot pages ++ codes "</svg>\n"
