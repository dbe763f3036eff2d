use Rattle.std.proofs.Common.{◌≡◌, take}
use Rattle.std.specs.List.{flat_map}
use Rattle.bw_trace.specs.ShapeTexts.{page_text}
use Rattle.bw_trace.proofs.shapes.shape_text.Given as goal

abbrev pub invariant-loop-page : goal.invariant-loop-page
invariant-loop-page l = l.text.items ≡ flat_map page_text (take l.page-index l.pages)
