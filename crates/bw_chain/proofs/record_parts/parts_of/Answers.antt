use Rattle.std.proofs.Common.{◌++◌, ap, drop, flat_map, sym, ◌∙◌}
use Rattle.std.proofs.lemmas.List.{take-append-drop}
use Rattle.bw_chain.proofs.RecordParts.{parted_more}
use Rattle.bw_chain.proofs.record_parts.parts_of.Goals as goal

pub loop-rest-preserved : goal.loop-rest-preserved
loop-rest-preserved c =
    let part = c.split_at.result.0 in
    let behind = c.split_at.result.1.now in
    let rest = c.loop-rest.rest.now in
    let mid = c.min.result in
    ap (λ l. flat_map (λ part. part.now) l ++ behind) c.in_ok-push.ensures.items
    ∙ parted_more c.loop-rest.parts.items part rest behind c.args.places.now c.loop-rest.invariant
    (sym (take-append-drop mid rest) ∙ ap (λ l. l ++ drop mid rest) (sym c.split_at.ensures.front) ∙ ap (λ l. part.now ++ l) (sym c.split_at.ensures.back))
