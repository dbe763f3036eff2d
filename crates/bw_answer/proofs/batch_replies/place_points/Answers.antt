use Rattle.std.proofs.Common.{◌-◌, ◌+◌, ◌++◌, length, take, drop, sym, subst, ◌∙◌, ap, arith}
use Rattle.bw_answer.specs.Replies.{answers_to, point_places}
use Rattle.bw_answer.specs.Sections.{with_answers_from, ArePlacesFrom}
use Rattle.bw_tidy.proofs.FindingsLemmas.{go_on}
use Rattle.bw_answer.proofs.GroupReads.{points_part}
use Rattle.bw_answer.proofs.Placed.{no_points, points_placed, points_within}
use Rattle.bw_answer.proofs.batch_replies.place_points.Goals as goal

pub answer_points-requires : goal.answer_points-requires
answer_points-requires c =
    let start = c.loop-start.start in
    record { points = points_part c.args.reader.now.ops c.args.points.now start (c.turn_end-end.result - start) c.requires.points }

pub place_answers-requires : goal.place_answers-requires
place_answers-requires c =
    let points = c.args.points.now in
    let start = c.loop-start.start in
    let end = c.turn_end-end.result in
    let answered = c.in_ok-answer_points.ensures.answers ∙ ap (λ l. l ++ answers_to c.args.reader.now (point_places (take (end - start) (drop start points)))) c.in_ok-answers.ensures.items in
    subst (ArePlacesFrom 0 c.loop-start.replies) (sym answered)
    (points_within c.args.reader.now points start end (length c.loop-start.replies) (omega (arith, c.turn_end-end.ensures.more)) c.loop-start.invariant.within)

pub loop-start-preserved : goal.loop-start-preserved
loop-start-preserved c =
    let points = c.args.points.now in
    let start = c.loop-start.start in
    let end = c.turn_end-end.result in
    let answered = c.in_ok-answer_points.ensures.answers ∙ ap (λ l. l ++ answers_to c.args.reader.now (point_places (take (end - start) (drop start points)))) c.in_ok-answers.ensures.items in
    let next = points_placed c.args.reader.now points start end c.loop-start.replies c.place_answers.new.replies (omega (arith, c.turn_end-end.ensures.more))
    (c.place_answers.ensures ∙ ap (with_answers_from 0 c.loop-start.replies) answered) c.loop-start.invariant.within in
    record {
      same = next.0 ∙ c.loop-start.invariant.same;
      within = next.1;
      findings = go_on c.args.reader.now.tree (c.args.reader.now.base + length c.args.reader.now.ops) c.args.findings.now c.loop-start.findings c.answer_points.new.findings c.loop-start.invariant.findings c.answer_points.ensures.findings;
    }

pub returns-clause-replies : goal.returns-clause-replies
returns-clause-replies c = no_points c.args.reader.now c.args.points.now c.loop-start.start c.loop-start.replies c.loop-start-test.false ∙ c.loop-start.invariant.same
