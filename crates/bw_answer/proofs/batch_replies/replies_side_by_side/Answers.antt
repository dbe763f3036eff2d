use Rattle.std.proofs.Common.{◌≡◌, ◌+◌, ◌*◌, length, take, replicate, flat_map, sym, ap, subst, ◌∙◌, arith}
use Rattle.std.proofs.lemmas.List.{length-replicate}
use Rattle.std.proofs.lemmas.List.Sorted.{IsPermutation-trans}
use Rattle.bw_model.specs.declared.operations.Reply.TheVariants.{Absent}
use Rattle.bw_answer.specs.Parts.{places_in}
use Rattle.bw_answer.specs.Replies.{answers_to, point_places}
use Rattle.bw_answer.specs.Sections.{answers_in, answers_of, with_answers_from, IsCutOf}
use Rattle.bw_answer.proofs.Replied.{grouped_points, grouped_scans, listed_replied}
use Rattle.bw_answer.proofs.batch_replies.replies_side_by_side.Goals as goal

pub answer_parts-requires-clause-points : goal.answer_parts-requires-clause-points
answer_parts-requires-clause-points g c κs within = grouped_points c.args.batch.now c.points-points.ensures.grouped _ _ c.requires.ops c.points-points.ensures.points c.points-points.ensures.verbs

pub answer_parts-requires-clause-scans : goal.answer_parts-requires-clause-scans
answer_parts-requires-clause-scans g c κs within = grouped_scans c.args.batch.now c.points-points.ensures.grouped _ _ c.requires.ops c.scans-scans.ensures

pub answer_parts-requires-clause-cut : goal.answer_parts-requires-clause-cut
answer_parts-requires-clause-cut g c κs within =
    subst (λ l. IsCutOf (length l) c.new-cut.result) (c.ops-len.ensures ∙ sym c.requires.ops) c.new-cut.ensures.cut

pub returns-in_err-sections-clause-findings : goal.returns-in_err-sections-clause-findings
returns-in_err-sections-clause-findings g c = c.gather.ensures.findings c.args.reader.now.tree (c.args.reader.now.base + length c.args.reader.now.ops) c.in_ok-answers.ensures.findings

pub returns-in_err-replies-clause-findings : goal.returns-in_err-replies-clause-findings
returns-in_err-replies-clause-findings g c = c.gather.ensures.findings c.args.reader.now.tree (c.args.reader.now.base + length c.args.reader.now.ops) c.in_ok-answers.ensures.findings

pub returns-clause-findings : goal.returns-clause-findings
returns-clause-findings g c = c.gather.ensures.findings c.args.reader.now.tree (c.args.reader.now.base + length c.args.reader.now.ops) c.in_ok-answers.ensures.findings

pub returns-clause-replies : goal.returns-clause-replies
returns-clause-replies g c =
    let batch = c.args.reader.now in
    let points = c.points-points.result.now in
    let scans = c.scans-scans.result.now in
    let size = c.new-cut.result.count * c.new-cut.result.size in
    let none = replicate size Absent in
    let answers = answers_to batch (flat_map (places_in (point_places points) scans) c.deref.result.now) in
    let gathered = flat_map answers_of c.in_ok-sections.sections.items in
    let same = IsPermutation-trans answers (flat_map answers_in c.in_ok-answers.answers.items) gathered c.in_ok-answers.ensures.answers c.in_ok-sections.ensures.same in
    let long : length none ≡ size = length-replicate size Absent in
    let enough = c.new-cut.ensures.cut.enough in
    let len = ap length c.ops-len.ensures in
    c.truncate.ensures.items
    ∙ ap (take (length c.ops-len.result.now)) c.in_ok-replies.ensures
    ∙ ap (λ n. take n (with_answers_from 0 none gathered)) len
    ∙ listed_replied c.args.batch.now c.points-points.ensures.grouped points scans c.in_ok-parts.parts.items c.deref.result.now c.points-points.ensures.points c.scans-scans.ensures c.deref.ensures.value
    batch c.requires.ops c.in_ok-parts.ensures.points c.in_ok-parts.ensures.scans none gathered (omega (arith, long, enough, len)) same
