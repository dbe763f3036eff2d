use Rattle.std.proofs.Common.{drop, take}
use Rattle.std.specs.Prelude.{filter}
use Rattle.std.specs.Option.{option_copied}
use Rattle.bw_model.specs.Contents.{is_pair_in_range}
use Rattle.bw_model.proofs.Picks.{IsPicking}
use Rattle.bw_model.proofs.sorted.first_of.Given as goal

abbrev pub invariant-loop-pair : goal.invariant-loop-pair
invariant-loop-pair l =
    IsPicking (is_pair_in_range l.from (option_copied l.to)) l.most l.list (drop l.pair-index l.pairs) (take l.most (filter (is_pair_in_range l.from (option_copied l.to)) l.pairs))
