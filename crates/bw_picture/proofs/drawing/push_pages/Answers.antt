use Rattle.std.proofs.Common.{◌∙◌}
use Rattle.bw_picture.proofs.Rows.{one_more_page}
use Rattle.bw_picture.proofs.drawing.push_pages.Goals as goal

pub loop-page-preserved : goal.loop-page-preserved
loop-page-preserved c =
    rw (c.in_ok-push_page.ensures, c.spot_of-spot.ensures)
    (one_more_page c.args.frame c.args.pages.now c.loop-page.spot c.loop-page.page-index c.page-item.result
    c.loop-page.text.items c.loop-page-test.true c.page-item.is ∙ c.loop-page.invariant)
