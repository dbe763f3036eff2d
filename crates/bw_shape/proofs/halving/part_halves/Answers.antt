use Rattle.bw_shape.proofs.PartLemmas.{next_on, stand_on}
use Rattle.bw_shape.proofs.TidyLemmas.{holds_on}
use Rattle.bw_shape.proofs.halving.part_halves.Goals as goal

pub part_half-requires-clause-page : goal.part_half-requires-clause-page
part_half-requires-clause-page c =
    next_on c.loop-page.tree c.args.level c.args.others c.loop-page.due.pages c.in-Some.page c.loop-page.invariant.stand c.in-Some.ensures

pub loop-page-preserved : goal.loop-page-preserved
loop-page-preserved c =
    let i = c.loop-page.invariant in
    let h = c.in_ok-part_half.ensures.ok in
    record {
      holds = holds_on c.args.tree.now c.loop-page.tree c.part_half.new.tree i.holds c.in_ok-part_half.ensures.holds;
      within = c.in_ok-part_half.ensures.within;
      stand = stand_on c.loop-page.tree c.part_half.new.tree c.loop-page.due c.part_half.new.due c.in-Some.page c.args.level c.args.others h c.in-Some.ensures.1 i.stand;
    }
