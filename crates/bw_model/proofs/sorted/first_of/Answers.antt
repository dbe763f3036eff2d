use Rattle.std.proofs.Common.{sym, subst, take, drop, ◌+◌, List}
use Rattle.std.specs.Prelude.{filter}
use Rattle.std.specs.Option.{option_copied}
use Rattle.bw_model.specs.Contents.{is_pair_in_range}
use Rattle.bw_model.specs.Values.{Pair}
use Rattle.bw_model.proofs.Picks.{IsPicking, picks_at}
use Rattle.bw_model.proofs.sorted.first_of.Goals as goal

pub loop-pair-preserved : goal.loop-pair-preserved
loop-pair-preserved c =
    let test = is_pair_in_range c.args.from.now (option_copied c.args.to) in
    let pairs = c.args.pairs.now in
    let at = c.loop-pair.pair-index in
    let whole = take c.args.most (filter test pairs) in
    subst (λ (picked : List Pair). IsPicking test c.args.most picked (drop (at + 1) pairs) whole) (sym c.in_ok-pick.ensures)
    (picks_at test c.args.most c.loop-pair.list pairs at c.pair-item.result whole c.loop-pair-test.true c.pair-item.is c.loop-pair.invariant)
