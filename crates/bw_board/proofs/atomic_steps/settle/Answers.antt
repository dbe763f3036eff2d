use Rattle.std.proofs.Common.{arith, refl}
use Rattle.bw_board.proofs.Kept.{settles}
use Rattle.bw_board.proofs.Seated.{stays_seated}
use Rattle.bw_board.proofs.atomic_steps.settle.Goals as goal

pub load-requires : goal.load-requires
load-requires c = let h = c.requires.seat in let words = h.words in (h.table, omega arith, settles _ _ _ _ _ _ _ _ h.live)

pub returns : goal.returns
returns c = let t = c.load.ensures.2 in record {
  seat = stays_seated _ _ _ _ c.requires.seat c.load.ensures.0 t.stays t.same refl refl refl;
  same = t.same;
  sane = t.stays.sane;
}
