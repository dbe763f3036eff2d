use Rattle.std.proofs.Common.{rules, sym, ap, subst, ◌∙◌, ◌≡◌, ◌∷◌, ◌++◌, ℕ, List, Option, replicate}
use Rattle.bw_board.proofs.Spares.{CanOpen}
use Rattle.bw_board.proofs.Ends.{starts, opening_idle}
use Rattle.bw_board.proofs.board.Board.open.Goals as goal

pub of_words-requires : goal.of_words-requires
of_words-requires c = let same : c.in_ok-from_slice.field-0.items ≡ c.args.heads.now = search rules in
    let same' : c.in_ok-from_slice-2.field-0.items ≡ c.args.spares.now = search rules in
    let words : c.as_slice.result.now ≡ 0 ∷ (c.args.heads.now ++ replicate c.args.records 0) = search rules in
    let r = c.requires in
    let can : CanOpen c.args.heads.now c.args.floor c.args.records c.args.piece c.args.spares.now
    = record { first_low = r.low; words_fit = r.fits; some_piece = r.some_piece; piece_fits = r.piece_fits; spare_low = λ p x e. (r.spare_low p x e, r.spare_new p x e) } in
    starts c.in_ok-from_slice.field-0.items c.args.floor c.args.records c.args.piece c.in_ok-from_slice-2.field-0.items
    (subst (λ (z : List ℕ × List (Option ℕ)). CanOpen z.0 c.args.floor c.args.records c.args.piece z.1) (λ j. (sym same j, sym same' j)) can)
    c.as_slice.result.now (words ∙ ap (λ z. 0 ∷ (z ++ replicate c.args.records 0)) (sym same))

pub invariant_of-seat : goal.invariant_of-seat
invariant_of-seat c = let same : c.in_ok-from_slice.field-0.items ≡ c.args.heads.now = search rules in
    let same' : c.in_ok-from_slice-2.field-0.items ≡ c.args.spares.now = search rules in
    let r = c.requires in
    let can : CanOpen c.args.heads.now c.args.floor c.args.records c.args.piece c.args.spares.now
    = record { first_low = r.low; words_fit = r.fits; some_piece = r.some_piece; piece_fits = r.piece_fits; spare_low = λ p x e. (r.spare_low p x e, r.spare_new p x e) } in
    opening_idle c.in_ok-from_slice.field-0.items c.args.floor c.args.records c.args.piece c.in_ok-from_slice-2.field-0.items
    (subst (λ (z : List ℕ × List (Option ℕ)). CanOpen z.0 c.args.floor c.args.records c.args.piece z.1) (λ j. (sym same j, sym same' j)) can)
    c.in_ok-table.place.me c.in_ok-table.ensures.4
