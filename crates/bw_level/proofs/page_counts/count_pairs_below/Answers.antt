use Rattle.std.proofs.Common.{◌∙◌, List, T, ap, subst, sym}
use Rattle.std.specs.FinMap.{is_sorted}
use Rattle.bw_key.specs.Order.{KeyBytes, key_cmp}
use Rattle.bw_model.specs.Sorted.{place_of}
use Rattle.bw_model.specs.Values.{Pair}
use Rattle.bw_level.proofs.CountLemmas.{count_is}
use Rattle.bw_level.proofs.page_counts.count_pairs_below.Goals as goal

pub place-requires : goal.place-requires
place-requires c = subst (λ (l : List Pair). T (is_sorted key_cmp l)) (sym (c.all.ensures ∙ c.pairs.ensures.value)) c.pairs.ensures.rules.sorted

pub returns : goal.returns
returns c =
    let key = c.args.key.now in
    c.place.ensures.value ∙ ap (λ (k : KeyBytes). place_of k c.all.result) c.bytes.ensures.value ∙ ap (λ (l : List Pair). place_of key l) (c.all.ensures ∙ c.pairs.ensures.value) ∙ count_is key c.args.leaf.now.pairs c.pairs.ensures.rules.sorted
