use Rattle.std.proofs.Common.{◌≡◌, drop, filter, take, Bor, List, Option, T, sym, ap, subst, ◌∙◌}
use Rattle.std.specs.FinMap.{is_sorted}
use Rattle.std.specs.Option.{option_copied}
use Rattle.bw_key.specs.Order.{KeyBytes, key_cmp}
use Rattle.bw_model.specs.Contents.{is_pair_in_range}
use Rattle.bw_model.specs.Sorted.{place_of}
use Rattle.bw_model.specs.Values.{Pair}
use Rattle.bw_page.proofs.Entries.{sorted_drop}
use Rattle.bw_page.proofs.Ranges.{range_between, range_from}
use Rattle.bw_page.proofs.leaf_pairs.between.Goals as goal

pub place-requires-in-Some : goal.place-requires-in-Some
place-requires-in-Some c =
    subst (λ (l : List Pair). T (is_sorted key_cmp l)) (sym (c.split_at-front.ensures.back ∙ ap (drop c.place.result) c.all-all.ensures))
    (sorted_drop c.place.result c.args.pairs.now c.requires)

pub returns-in-Some : goal.returns-in-Some
returns-in-Some c =
    let low = c.args.low.now in
    let high = c.in-Some.high.now in
    let pairs = c.args.pairs.now in
    let rest : c.split_at-front.result.1 ≡ drop (place_of low pairs) pairs =
    c.split_at-front.ensures.back
    ∙ ap (λ n. drop n c.all-all.result) (c.place.ensures.value ∙ ap (λ (k : KeyBytes). place_of k c.all-all.result) c.bytes.ensures.value)
    ∙ ap (λ (l : List Pair). drop (place_of low l) l) c.all-all.ensures
    in
    c.split_at.ensures.front
    ∙ ap (λ n. take n c.split_at-front.result.1) (c.place-in-Some.ensures.value ∙ ap (λ (k : KeyBytes). place_of k c.split_at-front.result.1) c.bytes-in-Some.ensures.value)
    ∙ ap (λ (l : List Pair). take (place_of high l) l) rest
    ∙ sym (range_between low high pairs c.requires)
    ∙ ap (λ (o : Option (Bor KeyBytes)). filter (is_pair_in_range low (option_copied o)) pairs) (sym c.in-Some.is)

pub returns-in-None : goal.returns-in-None
returns-in-None c =
    let low = c.args.low.now in
    let pairs = c.args.pairs.now in
    c.split_at-front.ensures.back
    ∙ ap (λ n. drop n c.all-all.result) (c.place.ensures.value ∙ ap (λ (k : KeyBytes). place_of k c.all-all.result) c.bytes.ensures.value)
    ∙ ap (λ (l : List Pair). drop (place_of low l) l) c.all-all.ensures
    ∙ sym (range_from low pairs c.requires)
    ∙ ap (λ (o : Option (Bor KeyBytes)). filter (is_pair_in_range low (option_copied o)) pairs) (sym c.in-None.is)
