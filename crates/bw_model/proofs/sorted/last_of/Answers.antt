use Rattle.std.proofs.Common.{sym, subst, take, List}
use Rattle.std.specs.Prelude.{filter, reverse}
use Rattle.std.specs.Option.{option_copied}
use Rattle.bw_model.specs.Contents.{is_pair_in_range}
use Rattle.bw_model.specs.Values.{Pair}
use Rattle.bw_model.proofs.Picks.{IsPicking, picks_back, picks_last}
use Rattle.bw_model.proofs.sorted.last_of.Goals as goal

pub loop-pair-init : goal.loop-pair-init
loop-pair-init c =
    picks_back (is_pair_in_range c.args.from.now (option_copied c.args.to)) c.args.most c.new-list.result c.args.pairs.now c.into_iter-pair-iterator.result.iter.rest.now c.new-list.ensures (cc (c.into_iter-pair-iterator.ensures.into_iter_gives, c.rev-pair-items.ensures.source, c.iter.ensures.rest))

pub loop-pair-preserved : goal.loop-pair-preserved
loop-pair-preserved c =
    let test = is_pair_in_range c.args.from.now (option_copied c.args.to) in
    let whole = take c.args.most (reverse (filter test c.args.pairs.now)) in
    subst (λ (picked : List Pair). IsPicking test c.args.most picked (reverse c.next.new.self.iter.rest.now) whole) (sym c.in_ok-pick.ensures)
    (picks_last test c.args.most c.loop-pair.list c.in-Some.pair.now c.loop-pair.pair-iterator.iter.rest.now c.next.new.self.iter.rest.now whole
    c.in-Some.ensures.steps c.loop-pair.invariant)
