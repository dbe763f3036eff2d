use Rattle.std.proofs.Common.{◌<◌, ◌+◌, ◌∙◌, length, get_or, set, sym, subst, arith}
use Rattle.std.proofs.lemmas.List.{get_or_default}
use Rattle.bw_level.specs.Changes.{Bases}
use Rattle.bw_look.specs.declared.folded.Folded.{Folded}
use Rattle.bw_tree.proofs.FoldedLemmas.{AreLeavesSwapped, leaves_swapped_next}
use Rattle.bw_tree.proofs.leaf_swaps.swap_leaves.Goals as goal

pub loop-place-preserved : goal.loop-place-preserved
loop-place-preserved c =
    let old = c.args.chains.now.bases in
    let given = c.args.folded.now in
    let now = c.loop-place.folded in
    let place = c.loop-place.place in
    let f : Folded = get_or now place c.index-folded-place.result in
    let lt : place < length now = omega (arith, c.loop-place-test.true, c.loop-place.auto.folded) in
    let swapped : Folded = record f { leaf = c.swap_leaf.new.leaf } in
    let next = leaves_swapped_next old c.loop-place.chains.bases given now place f lt (get_or_default now place c.index-folded-place.result f lt) c.requires.once c.loop-place.invariant.0 c.swap_leaf.new.leaf c.swap_leaf.ensures.leaf in (
      subst (λ (b : Bases). AreLeavesSwapped old b given (set now place swapped) (place + 1)) (sym c.swap_leaf.ensures.bases) next,
      c.swap_leaf.ensures.records ∙ c.loop-place.invariant.1,
    )
