use Rattle.std.proofs.Common.{◌≡◌, drop}
use Rattle.bw_picture.specs.Layout.{extent_behind, no_extent}
use Rattle.bw_picture.proofs.layout.extent_of.Given as goal

abbrev pub invariant-loop-page : goal.invariant-loop-page
invariant-loop-page l = extent_behind l.extent (drop l.page-index l.pages) ≡ extent_behind no_extent l.pages
