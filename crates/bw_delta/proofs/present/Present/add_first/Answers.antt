use Rattle.std.proofs.Common.{◌∙◌, ◌++◌, List, T, ap, filter, subst, sym, take}
use Rattle.std.proofs.lemmas.Result.{on_ok_weaker}
use Rattle.std.specs.FinMap.{is_sorted}
use Rattle.std.specs.Option.{option_copied}
use Rattle.bw_key.specs.Order.{key_cmp}
use Rattle.bw_model.specs.Contents.{is_pair_in_range}
use Rattle.bw_model.specs.Values.{Pair}
use Rattle.bw_delta.specs.Present.{base_pairs, Change}
use Rattle.bw_delta.proofs.Changes.{read_changed, sorted_changed}
use Rattle.bw_delta.proofs.PairMaps.{sorted_in_range}
use Rattle.bw_delta.proofs.present.Present.add_first.Goals as goal

pub add_rising-requires-clause-pairs : goal.add_rising-requires-clause-pairs
add_rising-requires-clause-pairs c =
    subst (λ (l : List Pair). T (is_sorted key_cmp l)) (sym c.between-pairs.ensures.value)
    (sorted_in_range c.args.low.now (option_copied c.args.high) c.leaf.result.now.pairs c.between-pairs.ensures.rules.sorted)

pub add_rising-requires-clause-changes : goal.add_rising-requires-clause-changes
add_rising-requires-clause-changes c =
    subst (λ (l : List Change). T (is_sorted key_cmp l)) (sym c.range.ensures.between)
    (sorted_in_range c.args.low.now (option_copied c.args.high) c.args.self.now.changes.entries c.range.ensures.sorted)

pub returns-clause-sorted : goal.returns-clause-sorted
returns-clause-sorted c =
    sorted_changed c.args.self.now.changes.entries (base_pairs c.args.self.now.base)
    (subst (λ (l : List Pair). T (is_sorted key_cmp l)) c.leaf.ensures c.between-pairs.ensures.rules.sorted)

pub returns-clause-added : goal.returns-clause-added
returns-clause-added c =
    let sorted = subst (λ (l : List Pair). T (is_sorted key_cmp l)) c.leaf.ensures c.between-pairs.ensures.rules.sorted in
    let in_range = is_pair_in_range c.args.low.now (option_copied c.args.high) in
    on_ok_weaker c.add_rising.result
    (λ is.
    is
    ∙ ap (λ (l : List Pair). c.args.read.now ++ take c.args.most l)
    (read_changed c.args.low.now (option_copied c.args.high) c.args.self.now.changes.entries c.range.result (base_pairs c.args.self.now.base) c.between-pairs.result sorted
    c.range.ensures.between (c.between-pairs.ensures.value ∙ ap (filter in_range) c.leaf.ensures)))
    c.add_rising.ensures.added
