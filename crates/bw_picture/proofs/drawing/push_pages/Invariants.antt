use Rattle.std.proofs.Common.{◌≡◌, ◌++◌, drop}
use Rattle.bw_picture.specs.Layout.{first_spot}
use Rattle.bw_picture.specs.Pictures.{pages_text}
use Rattle.bw_picture.proofs.drawing.push_pages.Given as goal

abbrev pub invariant-loop-page : goal.invariant-loop-page
invariant-loop-page l =
    l.text.items ++ pages_text l.frame l.pages l.spot (drop l.page-index l.pages)
    ≡ l.fn.text.items ++ pages_text l.frame l.pages first_spot l.pages
