use Rattle.std.proofs.Common.{arith, refl, sym, ap, ◌∙◌}
use native.Mathlib.Decide.{dec_le}
use Rattle.bw_core.specs.Events.{book_after_claim}
use Rattle.bw_board.specs.declared.table.Sight.{Sight}
use Rattle.bw_board.specs.Plays.{with_book}
use Rattle.bw_board.proofs.Kept.{claims}
use Rattle.bw_board.proofs.Seated.{stays_seated}
use Rattle.bw_board.proofs.atomic_steps.claim.Goals as goal

pub fetch_add-requires : goal.fetch_add-requires
fetch_add-requires c = let h = c.requires.seat in let words = h.words in let e = c.requires.piece in let l = c.requires.piece_fits in (
  h.table,
  omega arith,
  claims _ _ _ _ _ _ _ _ c.args.piece (record { live = h.live; idle = c.requires.idle; untold = c.requires.untold; piece = e; records_fit = c.requires.records_fit; piece_fits = omega arith }),
)

pub returns : goal.returns
returns c = let e = c.fetch_add.ensures in let v : Sight = c.args.place.now.me.0 in let t = e.2 in let p = c.requires.piece in record {
  seat = elim (dec_le v.records c.fetch_add.result) [
    | yes d ↦ stays_seated _ _ _ _ c.requires.seat e.0 t.stays (t.told d) refl refl refl
    | no d ↦ stays_seated _ _ _ _ c.requires.seat e.0 t.stays (t.taken (omega arith)) refl refl refl
  ];
  taken = λ y. t.taken y ∙ ap (λ z. with_book v (book_after_claim z v.records c.fetch_add.result v.book)) (sym p);
  told = t.told;
  sane = t.stays.sane;
}
