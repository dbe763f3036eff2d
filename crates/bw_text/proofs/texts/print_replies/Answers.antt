use Rattle.std.proofs.Common.{◌++◌, ◌∙◌, sym}
use Rattle.std.proofs.KnownBytes.{Appends-trans}
use Rattle.bw_text.specs.Texts.{reply_text}
use Rattle.bw_text.proofs.Writing.{front_of, one_more_text}
use Rattle.bw_text.proofs.texts.print_replies.Goals as goal

pub returns-in_err-push_reply-clause-memory : goal.returns-in_err-push_reply-clause-memory
returns-in_err-push_reply-clause-memory g c = λ memory.
    let so_far = c.loop-reply.invariant.written in
    (so_far.0, front_of reply_text c.args.replies.now c.loop-reply.reply-index so_far.0 c.loop-reply.text.items so_far.2, so_far.1)

pub loop-reply-preserved : goal.loop-reply-preserved
loop-reply-preserved g c =
    let so_far = c.loop-reply.invariant.written in
    let put = c.in_ok-put_if_full.ensures.ok in
    record {
      written = (
        so_far.0 ++ put.0,
        Appends-trans (g.W.Outlet.contents c.args.out.now) (g.W.Outlet.contents c.loop-reply.out) (g.W.Outlet.contents c.put_if_full.new.out) so_far.0 put.0 so_far.1 put.1,
        one_more_text reply_text c.args.replies.now c.loop-reply.reply-index c.reply-item.result so_far.0 c.loop-reply.text.items put.0 c.put_if_full.new.text.items
            c.loop-reply-test.true c.reply-item.is so_far.2 (sym c.in_ok-push_reply.ensures ∙ put.2),
      );
      none_failed = c.in_ok-put_if_full.ensures.none_failed ∙ c.loop-reply.invariant.none_failed;
    }
