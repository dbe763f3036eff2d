use Rattle.std.proofs.Common.{arith, refl}
use Rattle.bw_board.proofs.Kept.{looks}
use Rattle.bw_board.proofs.Seated.{stays_seated}
use Rattle.bw_board.proofs.atomic_steps.look.Goals as goal

pub overflow_add-page : goal.overflow_add-page
overflow_add-page c = let h = c.requires.seat in let words = h.words in let fit = h.words_fit in let p = c.requires.page in omega arith

pub load-requires : goal.load-requires
load-requires c = let h = c.requires.seat in let words = h.words in let p = c.requires.page in (h.table, omega arith, looks _ _ _ _ _ _ _ _ _ h.live c.requires.page)

pub returns : goal.returns
returns c = let t = c.load.ensures.2 in let k = t.seen c.args.page refl c.requires.page in record {
  seat = stays_seated _ _ _ _ c.requires.seat c.load.ensures.0 t.stays k.after refl refl refl;
  seen = k;
  head = t.head c.args.page refl c.requires.page;
  sane = t.stays.sane;
}
