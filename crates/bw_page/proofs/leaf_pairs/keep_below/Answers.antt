use Rattle.std.proofs.Common.{◌∙◌, List, ap, sym, take}
use Rattle.bw_key.specs.Order.{KeyBytes}
use Rattle.bw_model.specs.Sorted.{place_of}
use Rattle.bw_model.specs.Values.{Pair}
use Rattle.bw_page.proofs.Ranges.{upto_place}
use Rattle.bw_page.proofs.leaf_pairs.keep_below.Goals as goal

pub returns : goal.returns
returns c =
    let key = c.args.key.now in
    let pairs = c.args.pairs.now in
    c.truncate.ensures
    ∙ ap (λ n. take n pairs) (c.place-end.ensures.value ∙ ap (λ (k : KeyBytes). place_of k c.all.result) c.bytes.ensures.value ∙ ap (λ (l : List Pair). place_of key l) c.all.ensures)
    ∙ sym (upto_place key pairs c.requires)
