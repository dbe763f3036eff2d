use Rattle.std.proofs.Common.{◌∙◌, ℕ, List, ap}
use Rattle.bw_key.specs.Order.{KeyBytes}
use Rattle.bw_model.specs.Sorted.{place_of}
use Rattle.bw_level.proofs.CountLemmas.{count_is}
use Rattle.bw_level.proofs.page_counts.count_children_below.Goals as goal

pub returns : goal.returns
returns c =
    let key = c.args.key.now in
    c.place.ensures.value ∙ ap (λ (l : List (KeyBytes × ℕ)). place_of key l) c.children.ensures.value ∙ count_is key c.args.inner.now.children c.children.ensures.rules.page.sorted
