use Rattle.std.proofs.Common.{codes}
use Rattle.bw_picture.specs.Layout.{x_of, y_of, span_of}
use Rattle.bw_picture.specs.DrawnPages.{body_text, bracket_text}
use Rattle.bw_picture.specs.DrawnPages.{body_text, bracket_text}
use Rattle.bw_picture.specs.Pictures.{place_text}
use Rattle.bw_picture.proofs.Rows.{four_texts}
use Rattle.bw_picture.proofs.drawing.push_page.Goals as goal

pub returns : goal.returns
returns c =
    let frame = c.args.frame in
    let spot = c.args.spot in
    let page = c.args.page.now in
    rw (
      c.in_ok-extend_from_slice.ensures.items,
      c.in_ok-push_bracket.ensures,
      c.in_ok-push_body.ensures,
      c.in_ok-push_place.ensures,
      c.span_of.ensures,
      c.y_of.ensures,
      c.x_of-x.ensures,
    )
    (four_texts c.args.text.now.items (place_text (x_of frame.wide spot.column) (y_of frame page.level))
    (body_text frame.wide frame.page_max page) (bracket_text (span_of frame c.args.pages.now spot page) page.level)
    (codes "</g>\n"))
