use Rattle.std.proofs.Common.{arith, refl, ap, ◌+◌}
use Rattle.bw_board.proofs.Kept.{follows_at}
use Rattle.bw_board.proofs.Seated.{stays_seated}
use Rattle.bw_board.proofs.atomic_steps.follow.Goals as goal

pub overflow_add-pages : goal.overflow_add-pages
overflow_add-pages c = let h = c.requires.seat in let words = h.words in let fit = h.words_fit in let n = c.requires.pages in let r = c.requires.rec in omega arith

pub load-requires : goal.load-requires
load-requires c = let h = c.requires.seat in let words = h.words in let n = c.requires.pages in let r = c.requires.rec in let s = c.requires.seen in
    (h.table, omega arith, follows_at _ _ _ _ _ _ _ _ c.args.rec c.args.pages s.0 c.requires.pages (record { live = h.live; page = s.1; seen = s.2 }))

pub returns : goal.returns
returns c = let t = c.load.ensures.2 in record {
  seat = stays_seated _ _ _ _ c.requires.seat c.load.ensures.0 t.stays t.same refl refl refl;
  same = t.same;
  found = λ p front rest within is. t.found p c.args.rec front rest (ap (λ z. 1 + (z + c.args.rec)) c.requires.pages) within is;
  sane = t.stays.sane;
}
