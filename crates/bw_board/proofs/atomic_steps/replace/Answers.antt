use Rattle.std.proofs.Common.{arith, refl}
use mathlib.Core.Logic.{dite}
use native.Mathlib.Decide.{ℕ_discrete}
use Rattle.bw_board.proofs.Kept.{replaces}
use Rattle.bw_board.proofs.Seated.{stays_seated}
use Rattle.bw_board.proofs.atomic_steps.replace.Goals as goal

pub compare_exchange-requires : goal.compare_exchange-requires
compare_exchange-requires c = let h = c.requires.seat in let words = h.words in let p = c.requires.page in (
  h.table,
  omega arith,
  replaces _ _ _ _ _ _ _ _ c.args.page _ _ (record { live = h.live; idle = c.requires.idle; page = c.requires.page; old_is = c.requires.first; new_is = c.requires.spare; untried = c.requires.untried }),
)

pub returns : goal.returns
returns c = let e = c.compare_exchange.ensures in let t = e.2 in let page = c.requires.page in
    let won = t.won c.args.page refl page in let late = t.late c.args.page refl page in record {
      seat = dite (ℕ_discrete c.compare_exchange.result c.args.first)
          (λ y. stays_seated _ _ _ _ c.requires.seat e.0 t.stays (won y) refl refl refl)
          (λ n. stays_seated _ _ _ _ c.requires.seat e.0 t.stays (late n).after refl refl refl);
      won = won;
      late = late;
      more = t.more c.args.page refl page;
      sane = t.stays.sane;
    }
