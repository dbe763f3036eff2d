use Rattle.std.proofs.Common.{◌-◌, ◌+◌, ◌*◌, length, flat_map, subst, sym}
use Rattle.std.specs.List.{AllByRecursion}
use Rattle.std.specs.List.Sorted.{IsPermutation}
use Rattle.bw_tidy.proofs.FindingsLemmas.{begin, go_on}
use Rattle.bw_answer.specs.Parts.{places_in}
use Rattle.bw_answer.specs.Replies.{point_places}
use Rattle.bw_answer.specs.Sections.{IsAnswerFrom}
use Rattle.bw_answer.proofs.Gathered.{both_answered, part_within}
use Rattle.bw_answer.proofs.Placed.{all_within}
use Rattle.bw_answer.proofs.GroupReads.{points_part}
use Rattle.bw_answer.proofs.batch_reader.BatchReader.answer_part.Goals as goal

pub answer_points-requires : goal.answer_points-requires
answer_points-requires c =
    let start = c.args.part.points.start in
    record { points = points_part c.args.self.now.ops c.args.points.now start (c.args.part.points.end - start) c.requires.points }

pub by_section-requires-clause-there : goal.by_section-requires-clause-there
by_section-requires-clause-there c =
    let batch = c.args.self.now in
    let n = c.args.cut.count * c.args.cut.size in
    let places = places_in (point_places c.args.points.now) c.args.scans.now c.args.part in
    let answered = both_answered batch c.args.points.now c.args.scans.now c.args.part c.in_ok-answers.answers.items c.answer_points.new.answers.items c.answer_scans.new.answers.items c.in_ok-answers.ensures.items
    c.in_ok-answer_points.ensures.answers c.in_ok-answer_scans.ensures in
    subst (AllByRecursion (IsAnswerFrom 0 n)) (sym answered)
    (all_within batch n places (part_within batch.ops c.args.points.now c.args.scans.now c.args.part n c.requires.points c.requires.scans c.requires.cut.enough))

pub returns-clause-answers : goal.returns-clause-answers
returns-clause-answers c =
    let answered = both_answered c.args.self.now c.args.points.now c.args.scans.now c.args.part c.in_ok-answers.answers.items c.answer_points.new.answers.items c.answer_scans.new.answers.items c.in_ok-answers.ensures.items
    c.in_ok-answer_points.ensures.answers c.in_ok-answer_scans.ensures in
    subst (λ l. IsPermutation l (flat_map (λ list. list.items) c.in_ok-lists.lists.items)) answered c.in_ok-lists.ensures.same

pub returns-clause-findings : goal.returns-clause-findings
returns-clause-findings c =
    let batch = c.args.self.now in
    let stamp = batch.base + length batch.ops in
    go_on batch.tree stamp c.args.findings.now c.again-findings.result c.answer_points.new.findings
    (begin batch.tree stamp c.args.findings.now c.again-findings.result c.again-findings.ensures.limits (c.again-findings.ensures.found batch.tree stamp)) c.answer_points.ensures.findings
