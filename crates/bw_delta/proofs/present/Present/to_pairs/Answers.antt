use Rattle.std.proofs.Common.{◌∙◌, ◌++◌, List, T, None, ap, subst, sym, take, arith}
use Rattle.std.specs.Prelude.{filter}
use Rattle.std.specs.FinMap.{is_sorted}
use Rattle.bw_key.specs.Order.{KeyBytes, key_cmp}
use Rattle.bw_model.specs.Contents.{is_pair_in_range}
use Rattle.bw_model.specs.Values.{Pair}
use Rattle.bw_delta.specs.Present.{present_pairs}
use Rattle.bw_delta.proofs.Replays.{all_found, all_in_range}
use Rattle.bw_delta.proofs.present.Present.to_pairs.Goals as goal

pub returns-clause-all : goal.returns-clause-all
returns-clause-all c =
    let there = present_pairs c.args.self.now in
    c.shrink_to_fit.ensures ∙ all_found 18446744073709551615 c.add_first.new.read there
    (c.in_ok-add_first.ensures.added
    ∙ ap (λ (l : List Pair). l ++ take 18446744073709551615 (filter (is_pair_in_range c.args.least.now None) there)) c.in_ok-pairs.ensures
    ∙ ap (λ (k : KeyBytes). take 18446744073709551615 (filter (is_pair_in_range k None) there)) c.requires
    ∙ ap (take 18446744073709551615) (all_in_range there))
    (omega (arith, c.if-len.false, c.len-3.ensures, c.len-3.type_inv))

pub returns-clause-sorted : goal.returns-clause-sorted
returns-clause-sorted c =
    subst (λ (l : List Pair). T (is_sorted key_cmp l)) (sym (returns-clause-all c)) c.in_ok-add_first.ensures.sorted
