use Rattle.std.proofs.Common.{arith, refl, ap, ◌+◌}
use mathlib.Core.Logic.{dite}
use native.Mathlib.Decide.{ℕ_discrete}
use Rattle.bw_board.proofs.Kept.{tries}
use Rattle.bw_board.proofs.Seated.{stays_seated}
use Rattle.bw_board.proofs.atomic_steps.attempt.Goals as goal

pub compare_exchange-requires : goal.compare_exchange-requires
compare_exchange-requires c = let h = c.requires.seat in let words = h.words in let p = c.requires.page in (
  h.table,
  omega arith,
  tries _ _ _ _ _ _ _ _ c.args.rec c.args.page c.args.lost _ _ (record { live = h.live; armed = c.requires.under; old_is = c.requires.word; new_is = ap (λ z. z + c.args.rec) c.requires.floor }),
)

pub returns : goal.returns
returns c = let e = c.compare_exchange.ensures in let t = e.2 in
    let won = t.won c.args.rec c.args.page c.args.lost c.requires.under in let lost = t.lost c.args.rec c.args.page c.args.lost c.requires.under in record {
      seat = dite (ℕ_discrete c.compare_exchange.result c.args.word)
          (λ y. stays_seated _ _ _ _ c.requires.seat e.0 t.stays (won y) refl refl refl)
          (λ n. stays_seated _ _ _ _ c.requires.seat e.0 t.stays (lost n).after refl refl refl);
      won = won;
      lost = lost;
      head = t.head c.args.rec c.args.page c.args.lost c.requires.under;
      sane = t.stays.sane;
    }
