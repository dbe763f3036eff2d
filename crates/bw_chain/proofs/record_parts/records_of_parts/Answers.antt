use Rattle.std.proofs.Common.{◌≡◌, ℕ, ◌+◌, ◌<◌, ◌≤◌, ◌^◌, IfOk, ap, length, subst, sym, ◌∙◌}
use Rattle.std.specs.List.{AllByRecursion, AllZip}
use Rattle.std.proofs.ByRecursion.{All-get_or}
use Rattle.rayon.proofs.ToStd.{slice-AllZip}
use Rattle.bw_chain.specs.PlacedWrites.{writes_at_places}
use Rattle.bw_chain.specs.Records.{unlinked}
use Rattle.bw_chain.proofs.RecordParts.{all_made, in_each_part}
use Rattle.bw_chain.proofs.record_parts.records_of_parts.Goals as goal

pub collect-requires-clause-ready : goal.collect-requires-clause-ready
collect-requires-clause-ready g c κs within =
    let there : ℕ → Type 0 = λ p. p < length c.args.ops.now in
    let over = ap (λ it. it.base.slice.now) c.map.ensures.base ∙ ap (λ it. it.slice.now) c.with_min_len.ensures.base ∙ c.par_iter.ensures in
    let all = subst (AllByRecursion (λ part. AllByRecursion there part.now)) (sym over) (in_each_part there c.args.parts.now c.requires.there) in
    λ k d lt x at.
    let part = subst (λ part. AllByRecursion there part.now) (sym at) (All-get_or (λ part. AllByRecursion there part.now) c.map.result.base.base.slice.now k d lt all) in
    (subst (λ f. AllByRecursion (λ p. p < length f.1.now) x.now.now × (f.2 + length f.1.now ≤ 2 ^ 40)) (sym c.map.ensures.f) (part, c.requires.fits), λ y made. tt)

pub returns : goal.returns
returns g c =
    let h = c.in_ok-collect.ensures in
    let chain = h.1 in
    let over = ap (λ it. it.base.slice.now) c.map.ensures.base ∙ ap (λ it. it.slice.now) c.with_min_len.ensures.base ∙ c.par_iter.ensures in
    let base = c.args.base in
    let ops = c.args.ops.now in
    let parts = c.args.parts.now in
    all_made base ops parts h.0 c.in_ok-collect.field-0
    (slice-AllZip chain.0 parts (chain.1 ∙ over) (λ part r. IfOk r (λ a. a.records ≡ unlinked (writes_at_places base ops part.now))) h.0
    (subst (λ f. AllZip (λ x r. IfOk r (λ a. a.records ≡ unlinked (writes_at_places f.2 f.1.now x.now.now))) chain.0 h.0) c.map.ensures.f chain.2)) h.2
