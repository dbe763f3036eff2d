use Rattle.std.proofs.Common.{◌++◌, length, sym, subst, ◌∙◌, ap}
use Rattle.bw_answer.specs.Replies.{answers_to}
use Rattle.bw_answer.specs.Sections.{with_answers_from, ArePlacesFrom}
use Rattle.bw_answer.proofs.Placed.{all_within}
use Rattle.bw_answer.proofs.batch_replies.place_scans.Goals as goal

pub place_answers-requires : goal.place_answers-requires
place_answers-requires c =
    let answered = c.in_ok-answer_scans.ensures ∙ ap (λ l. l ++ answers_to c.args.reader.now c.args.scans.now) c.in_ok-answers.ensures.items in
    subst (ArePlacesFrom 0 c.args.replies.now) (sym answered) (all_within c.args.reader.now (length c.args.replies.now) c.args.scans.now c.requires.there)

pub returns : goal.returns
returns c =
    c.place_answers.ensures ∙ ap (with_answers_from 0 c.args.replies.now) (c.in_ok-answer_scans.ensures ∙ ap (λ l. l ++ answers_to c.args.reader.now c.args.scans.now) c.in_ok-answers.ensures.items)
