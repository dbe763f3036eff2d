use Rattle.std.proofs.Common.{◌≡◌, Some, length, slice_get, sym, ap, subst, ◌∙◌, arith}
use Rattle.std.proofs.lemmas.Result.{IfOk-weaker}
use Rattle.std.specs.Option.{option_copied}
use Rattle.std.specs.Prelude.{is_some}
use Rattle.bw_model.specs.Model.{IsReplyAt}
use Rattle.bw_model.specs.declared.operations.Op.{Op}
use Rattle.bw_answer.specs.Replies.{ReaderView}
use Rattle.bw_group.proofs.PointGroups.{entry_key, place_within, point_verb}
use Rattle.bw_answer.proofs.ReplyLemmas.{verb_replied}
use Rattle.bw_answer.proofs.batch_reader.BatchReader.reply_to.Goals as goal

pub op_at-requires : goal.op_at-requires
op_at-requires c =
    let p = c.args.point.now in
    let within = place_within c.args.self.now.ops (p.key.now, p.place) c.requires.entry in
    let same : length c.self.inside.ops.now ≡ length c.args.self.now.ops = ap (λ (v : ReaderView). length v.ops) c.self.view_is in
    omega (arith, within, same, c.place.ensures)

pub reply_at-requires-in-None : goal.reply_at-requires-in-None
reply_at-requires-in-None c =
    let p = c.args.point.now in
    let ops = c.args.self.now.ops in
    let op_is = ap (slice_get ops) (sym c.place.ensures) ∙ ap (λ (v : ReaderView). slice_get v.ops c.place.result) (sym c.self.view_is) ∙ c.op_at.ensures in
    ap is_some (entry_key ops (p.key.now, p.place) c.op_at.result.now c.requires.entry op_is)

pub returns-in-Some : goal.returns-in-Some
returns-in-Some c =
    let p = c.args.point.now in
    let verb = c.in-Some.verb in
    IfOk-weaker c.reply_at.result _ _
    (λ reply found op at. verb_replied op verb (option_copied c.args.value) reply (point_verb c.args.self.now.ops p op c.requires.verb at ∙ sym c.verb.ensures ∙ c.in-Some.is) found) c.reply_at.ensures

pub returns-in-None : goal.returns-in-None
returns-in-None c =
    let p = c.args.point.now in
    let ops = c.args.self.now.ops in
    let value = option_copied c.args.value in
    let op_is = ap (slice_get ops) (sym c.place.ensures) ∙ ap (λ (v : ReaderView). slice_get v.ops c.place.result) (sym c.self.view_is) ∙ c.op_at.ensures in
    IfOk-weaker c.reply_at-in-None.result _ _ (λ reply is op at. subst (λ (o : Op). IsReplyAt o value reply) (same_op (sym op_is ∙ at)) is) c.reply_at-in-None.ensures
  where
    same_op : {o p : Op} → Some o ≡ Some p → o ≡ p
    same_op e = cc
