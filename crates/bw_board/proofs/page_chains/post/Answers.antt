use Rattle.std.proofs.Common.{arith, refl, sym, ap, subst, ◌∙◌, ◌≡◌, ◌<◌, length}
use Rattle.bw_core.specs.World.{owns, posts_in, spans_have}
use Rattle.bw_core.specs.Events.{book_after_loss, book_after_win}
use Rattle.bw_board.specs.declared.table.Sight.{Sight}
use Rattle.bw_board.specs.Plays.{SeesChain, with_book}
use Rattle.bw_board.proofs.Chase.{chase_starts, chase_goes, chase_wins}
use Rattle.bw_board.proofs.page_chains.post.Goals as goal

pub loop-word-init : goal.loop-word-init
loop-word-init c = let e = c.look-word.ensures in let p = c.requires.page in let n = c.requires.pages in record {
  seat = e.seat;
  chase = chase_starts c.args.place.now.me.0 c.look-word.new.place.me.0 c.args.rec c.args.page c.look-word.result (omega arith) e.seen e.sane e.head c.requires.idle;
}

pub link-requires : goal.link-requires
link-requires c = let k = c.loop-word.invariant.chase in let t = k.trying in
    let own : 0 < owns c.args.rec c.loop-word.place.me.0.book = subst (λ z. 0 < spans_have c.args.rec z) (sym t.same_owned) c.requires.own in record {
      seat = c.loop-word.invariant.seat;
      aim = (refl, refl);
      pages = c.requires.pages ∙ sym (ap length t.same_first);
      page = k.inside;
      own = own;
      unposted = subst (λ z. posts_in c.args.rec z ≡ 0) (sym t.same_posted) c.requires.unposted;
      within = k.sane.own_low c.args.rec own;
      resumes = k.resumes;
      word = k.word_is;
    }

pub returns-then-found-word-clause-posted : goal.returns-then-found-word-clause-posted
returns-then-found-word-clause-posted c = let k = c.loop-word.invariant.chase in
    let won' = c.attempt-found.ensures.won c.if-found-word.true in
    chase_wins c.args.place.now.me.0 c.loop-word.place.me.0 c.attempt-found.new.place.me.0 c.args.page c.loop-word.word c.loop-word.lost c.args.rec k
    (won' ∙ ap (λ (z : Sight). with_book z (book_after_win z.book c.args.rec c.args.page c.loop-word.lost)) c.link.ensures.linked)

pub loop-word-preserved : goal.loop-word-preserved
loop-word-preserved c = let k = c.loop-word.invariant.chase in let e = c.attempt-found.ensures in let miss = c.if-found-word.false in
    let seen = subst (λ (z : Sight). SeesChain z c.attempt-found.new.place.me.0 c.args.page (book_after_loss z.book c.args.rec c.args.page c.loop-word.lost)) c.link.ensures.linked (e.lost miss) in record {
      seat = e.seat;
      chase = chase_goes c.args.place.now.me.0 c.loop-word.place.me.0 c.attempt-found.new.place.me.0 c.args.page c.loop-word.word c.loop-word.lost c.args.rec c.attempt-found.result k seen e.sane (e.head miss);
    }

pub attempt-found-requires-clause-floor : goal.attempt-found-requires-clause-floor
attempt-found-requires-clause-floor c = let t = c.loop-word.invariant.chase.trying in
    c.requires.floor ∙ (sym t.same_floor ∙ sym (ap (λ (z : Sight). z.floor) c.link.ensures.linked))

pub attempt-found-requires-clause-word_fits : goal.attempt-found-requires-clause-word_fits
attempt-found-requires-clause-word_fits c = let k = c.loop-word.invariant.chase in let t = k.trying in
    let own : 0 < owns c.args.rec c.loop-word.place.me.0.book = subst (λ z. 0 < spans_have c.args.rec z) (sym t.same_owned) c.requires.own in
    let r = k.sane.own_low c.args.rec own in let n = t.same_records in let fit = c.requires.records_fit in omega arith
