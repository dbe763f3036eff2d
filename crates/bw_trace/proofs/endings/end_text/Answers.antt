use Rattle.std.proofs.Common.{◌∙◌, ap}
use Rattle.std.proofs.lemmas.Result.{IfOk-weaker}
use Rattle.bw_picture.specs.Pictures.{picture_text}
use Rattle.bw_trace.proofs.EndsLemmas.{shape_with}
use Rattle.bw_trace.specs.ShapeTexts.{shape_text}
use Rattle.bw_trace.proofs.endings.end_text.Goals as goal

pub returns-in_ok-pages-in-Shape : goal.returns-in_ok-pages-in-Shape
returns-in_ok-pages-in-Shape c =
    let pages = c.in_ok-pages-in-Shape.pages.items in
    let has = shape_with c.args.index.now pages c.in_ok-pages-in-Shape.ensures.whole in
    rw c.in-Shape.is
    (IfOk-weaker c.shape_text.result _ _ (λ text is. (pages, has, is ∙ ap shape_text c.deref.ensures.value)) c.shape_text.ensures)

pub returns-in_ok-pages-in-Picture : goal.returns-in_ok-pages-in-Picture
returns-in_ok-pages-in-Picture c =
    let pages = c.in_ok-pages-in-Picture.pages.items in
    let has = shape_with c.args.index.now pages c.in_ok-pages-in-Picture.ensures.whole in
    rw c.in-Picture.is
    (IfOk-weaker c.picture.result _ _ (λ text is. (pages, has, is ∙ ap (picture_text c.args.page_max) c.deref-in-Picture.ensures.value)) c.picture.ensures)
