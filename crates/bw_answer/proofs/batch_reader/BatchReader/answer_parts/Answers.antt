use Rattle.std.proofs.Common.{IfOk, ap, subst, ◌∙◌}
use Rattle.std.specs.List.{AllZip}
use Rattle.std.specs.List.Sorted.{IsPermutation}
use Rattle.rayon.proofs.ToStd.{slice-AllZip}
use Rattle.bw_answer.specs.Parts.{places_in}
use Rattle.bw_group.specs.Points.{entries_of, places_of}
use Rattle.bw_answer.specs.Replies.{GoesOnTo, answers_to}
use Rattle.bw_answer.specs.Sections.{answers_in, AreBySection}
use Rattle.bw_answer.proofs.Gathered.{all_gathered}
use Rattle.bw_answer.proofs.batch_reader.BatchReader.answer_parts.Goals as goal

pub returns : goal.returns
returns g c =
    let h = c.in_ok-collect.ensures in
    let chain = h.1 in
    let over = ap (λ it. it.base.slice.now) c.map.ensures.base ∙ ap (λ it. it.slice.now) c.with_min_len.ensures.base ∙ c.par_iter.ensures in
    let batch = c.args.self.now in
    let points = places_of (entries_of c.args.points.now) in
    let scans = c.args.scans.now in
    let parts = c.args.parts.now in
    let cut = c.args.cut in
    let first = c.args.findings.now in
    let all = all_gathered batch points scans cut first parts h.0 c.in_ok-collect.field-0
    (slice-AllZip chain.0 parts (chain.1 ∙ over) (λ part r. IfOk r (λ a. IsPermutation (answers_to batch (places_in points scans part)) (answers_in a) × AreBySection cut a.lists.items × GoesOnTo batch first a.findings)) h.0
    (subst (λ f. AllZip (λ x r. IfOk r (λ a. IsPermutation (answers_to f.0.now (places_in (places_of (entries_of f.2.now)) f.3.now x.now)) (answers_in a) × AreBySection f.4 a.lists.items × GoesOnTo f.0.now f.5.now a.findings)) chain.0 h.0) c.map.ensures.f chain.2)) h.2 in
    record { answers = all.0; lists = all.1; findings = all.2 }
