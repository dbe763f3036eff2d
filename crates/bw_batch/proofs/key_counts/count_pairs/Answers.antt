use Rattle.std.proofs.Common.{◌∙◌, ap}
use Rattle.std.proofs.lemmas.Result.{IfOk-weaker}
use Rattle.bw_batch.specs.Lens.{leaf_pairs}
use Rattle.bw_batch.proofs.LeafPairsLemmas.{leaves_hold}
use Rattle.bw_batch.proofs.key_counts.count_pairs.Goals as goal

pub returns : goal.returns
returns c =
    IfOk-weaker c.count_leaf_pairs.result _ _
    (λ count is. is ∙ ap leaf_pairs (c.deref.ensures.value ∙ c.in_ok-shape.ensures) ∙ leaves_hold c.args.tree.now c.know_levels.ensures.lawful)
    c.count_leaf_pairs.ensures
