use Rattle.bw_batch.proofs.LeafPairsLemmas.{one_page_more}
use Rattle.bw_batch.proofs.key_counts.count_leaf_pairs.Goals as goal

pub loop-page-preserved : goal.loop-page-preserved
loop-page-preserved c =
    one_page_more c.args.pages.now c.loop-page.page-index c.loop-page.count c.in_ok-count.count c.page-item.result c.loop-page-test.true c.page-item.is c.loop-page.invariant c.in_ok-count.ensures
