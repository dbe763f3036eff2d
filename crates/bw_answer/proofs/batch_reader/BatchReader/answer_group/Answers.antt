use Rattle.std.proofs.Common.{◌≡◌, ◌+◌, ◌++◌, ◌∷◌, [], ℕ, length, Option, ap, subst, ◌∙◌, arith}
use Rattle.std.specs.Option.{option_copied}
use Rattle.bw_model.specs.Values.{ValueBytes}
use Rattle.bw_delta.specs.History.{pointed_to, history, action_at}
use Rattle.bw_delta.specs.Readings.{from_stamp}
use Rattle.bw_answer.specs.Replies.{ReaderView, IsReadBy, IsReadInTurn}
use Rattle.bw_model.specs.Model.{IsReplyAt}
use Rattle.bw_group.specs.Points.{Entry, entries_of, IsEntryOf, IsPointOf}
use Rattle.bw_group.proofs.PointGroups.{seen_length, entry_is, entry_holds, entry_op, place_within}
use Rattle.bw_group.proofs.ListParts.{all_at}
use Rattle.bw_answer.proofs.ReplyLemmas.{all_answering, answering_none, answer_more}
use Rattle.bw_answer.proofs.batch_reader.BatchReader.answer_group.Goals as goal

pub loop-point-init : goal.loop-point-init
loop-point-init c =
    rw c.new-reading.ensures.stamp
    (answering_none c.args.self.now (option_copied c.args.start) (pointed_to c.args.writes.now) c.requires.stamps (entries_of c.args.points.now) c.args.answers.now.items c.new-reading.result.value c.new-reading.result.rest
    c.requires.rising c.new-reading.ensures.value c.new-reading.ensures.rest)

pub overflow_add-self-inside : goal.overflow_add-self-inside
overflow_add-self-inside c =
    let batch = c.args.self.now in
    let p = c.point-item.result in
    let entry = entry_holds (IsEntryOf batch.ops) c.args.points.now c.loop-point.point-index p c.loop-point-test.true c.point-item.is c.requires.entries in
    let within = place_within batch.ops (p.key.now, p.place) entry in
    let same : length c.self.inside.ops.now ≡ length batch.ops = ap (λ (v : ReaderView). length v.ops) c.self.view_is in
    omega (arith, within, same, c.place-place.ensures, c.self.invariant.fits)

pub reply_to-requires-clause-entry : goal.reply_to-requires-clause-entry
reply_to-requires-clause-entry c = entry_holds (IsEntryOf c.args.self.now.ops) c.args.points.now c.loop-point.point-index c.point-item.result c.loop-point-test.true c.point-item.is c.requires.entries

pub reply_to-requires-clause-verb : goal.reply_to-requires-clause-verb
reply_to-requires-clause-verb c = all_at (IsPointOf c.args.self.now.ops) c.args.points.now c.loop-point.point-index c.point-item.result c.loop-point-test.true c.point-item.is c.requires.verbs

pub loop-point-preserved : goal.loop-point-preserved
loop-point-preserved c =
    let batch = c.args.self.now in
    let p = c.point-item.result in
    let at = c.loop-point.point-index in
    let points = c.args.points.now in
    let reading = c.advance.new.self in
    let old = c.loop-point.reading in
    let start = option_copied c.args.start in
    let writes = pointed_to c.args.writes.now in
    let here : Entry = (p.key.now, p.place) in
    let entry = entry_holds (IsEntryOf batch.ops) points at p c.loop-point-test.true c.point-item.is c.requires.entries in
    let own = entry_op batch.ops here entry in
    let reads = entry_holds (λ e. IsReadBy batch.tree start writes e.0) points at p c.loop-point-test.true c.point-item.is c.requires.reads in
    let base = ap (λ (v : ReaderView). v.base + c.place-place.result) c.self.view_is ∙ ap (λ (n : ℕ). batch.base + n) c.place-place.ensures in
    let stamp = c.advance.ensures.stamp ∙ base in
    let value = c.advance.ensures.value ∙ ap (λ (n : ℕ). history old.value (action_at old.rest) n) base in
    let rest = c.advance.ensures.rest ∙ ap (λ (n : ℕ). from_stamp n old.rest) base in
    let reply = subst (λ (v : Option ValueBytes). IsReplyAt own.op v c.in_ok-reply.reply) c.value.ensures (c.in_ok-reply.ensures own.op own.is) in
    let added = c.in_ok-push.ensures.items ∙ ap (λ (n : ℕ). c.loop-point.answers.items ++ record { place = n; reply = c.in_ok-reply.reply } ∷ []) c.place-place.ensures in
    rw stamp
    (answer_more batch (subst IsReadInTurn c.self.view_is c.self.invariant) start writes c.requires.stamps (entries_of points) at c.args.answers.now.items c.loop-point.answers.items c.push.new.self.items old.stamp old.value old.rest here own.op
    reading.value reading.rest c.in_ok-reply.reply (omega (arith, c.loop-point-test.true, seen_length points)) here (entry_is points at p here c.loop-point-test.true c.point-item.is)
    own.is own.key reads c.loop-point.invariant value rest reply added)

pub returns : goal.returns
returns c =
    let points = c.args.points.now in
    all_answering c.args.self.now (option_copied c.args.start) (pointed_to c.args.writes.now) (entries_of points) c.loop-point.point-index c.args.answers.now.items c.loop-point.answers.items c.loop-point.reading.stamp c.loop-point.reading.value
    c.loop-point.reading.rest (omega (arith, c.loop-point-test.false, seen_length points)) c.loop-point.invariant
