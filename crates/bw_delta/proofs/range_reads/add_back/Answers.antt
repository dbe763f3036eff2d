use Rattle.std.proofs.Common.{◌≡◌, ◌∙◌, ◌-◌, ◌<◌, ◌++◌, ◌∷◌, [], List, ap, append_assoc, arith, get_or, length, min, reverse, sym, take}
use Rattle.std.proofs.Math.Seq.{take-append_seam}
use Rattle.std.proofs.lemmas.List.{get_or-reverse, length-reverse, take_min, take_more}
use Rattle.bw_model.specs.Values.{Pair}
use Rattle.bw_delta.proofs.range_reads.add_back.Goals as goal

pub returns-in_err-push_at-clause-kept : goal.returns-in_err-push_at-clause-kept
returns-in_err-push_at-clause-kept c =
    let old = c.args.read.now in
    ap (take (length old)) (c.in_err-push_at.ensures.same ∙ c.loop-place.invariant) ∙ take-append_seam old (take c.loop-place.place (reverse c.args.run.now))

pub loop-place-preserved : goal.loop-place-preserved
loop-place-preserved c =
    let old = c.args.read.now in
    let run = c.args.run.now in
    let place = c.loop-place.place in
    let there : place < length run = omega (arith, c.loop-place-test.true, c.min-count.ensures, c.len-len.ensures) in
    let at : get_or (reverse run) place ([], []) ≡ get_or run (c.len-len.result - 1 - place) ([], []) =
    get_or-reverse run place ([], []) there ∙ ap (λ n. get_or run (n - 1 - place) ([], [])) (sym c.len-len.ensures)
    in
    c.in_ok-push_at.ensures.added ([], [])
    ∙ ap (λ (l : List Pair). l ++ get_or run (c.len-len.result - 1 - place) ([], []) ∷ []) c.loop-place.invariant
    ∙ append_assoc old (take place (reverse run)) _
    ∙ ap (λ (x : Pair). old ++ (take place (reverse run) ++ x ∷ [])) (sym at)
    ∙ ap (λ (l : List Pair). old ++ l) (sym (take_more (reverse run) place ([], []) (omega (arith, there, length-reverse run))))

pub returns-clause-kept : goal.returns-clause-kept
returns-clause-kept c =
    let old = c.args.read.now in
    ap (take (length old)) c.loop-place.invariant ∙ take-append_seam old (take c.loop-place.place (reverse c.args.run.now))

pub returns-clause-added : goal.returns-clause-added
returns-clause-added c =
    let old = c.args.read.now in
    let run = c.args.run.now in
    let many : c.loop-place.place ≡ min c.args.most (length (reverse run)) = omega (arith, c.loop-place-test.false, c.min-count.ensures, c.len-len.ensures, length-reverse run) in
    c.loop-place.invariant ∙ ap (λ n. old ++ take n (reverse run)) many ∙ ap (λ (l : List Pair). old ++ l) (take_min c.args.most (reverse run))
