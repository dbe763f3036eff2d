-- What a claim leaves.
use Rattle.std.proofs.Common.{◌≡◌, ℕ, ◌+◌, ◌<◌, ◌≤◌, leb, ltb, min, ◌&&◌, true, ap, ◌∙◌, arith}
use Rattle.std.proofs.lemmas.Bool.Decides.{nat_tests}
use Rattle.bw_core.specs.World.{World, one_if, owns}
use Rattle.bw_core.proofs.Claims.{told_is_claimed, owns_alone}
use Rattle.bw_core.proofs.Without.{claim_adds}
use Rattle.atomic_table.specs.Seated.{TableId}
use Rattle.bw_board.specs.declared.table.Sight.{Sight}
use Rattle.bw_board.specs.Plays.{IsSane}
use Rattle.bw_board.specs.Rule.{world}
use Rattle.bw_board.specs.Public.{SeatView, MomentOf, AllClaimed, OwnsAlone, IsSound, seat_after_claim, seat_view}

abbrev world_at : (v : SeatView) → MomentOf v → World
world_at v m = world v.board.first v.board.floor v.board.records v.board.piece v.board.spares m.next m.heads m.links m.books

pub sound_shown : (z : TableId) (v : Sight) → IsSane v → IsSound (seat_view z v)
sound_shown z v s = record { own_once = s.own_one; lost_few = s.lost_few; lost_fewer = s.lost_fewer }

-- a seat that was told knows that all are claimed
pub all_claimed : (v : SeatView) → MomentOf v → v.book.told ≡ true → AllClaimed v
all_claimed v m told = record { moment = m; one_owner = λ r h. told_is_claimed (world_at v m) m.lawful m.number v.book m.here told r h }

in_piece : (from to r : ℕ) → from ≤ r → r < to → one_if (leb from r && ltb r to) ≡ 1
in_piece from to r a b = grind (arith, nat_tests)

-- what the seat owns of a piece after it claimed that, and before
pub owns_piece : (v w : SeatView) (from to : ℕ) → w ≡ seat_after_claim v from → to ≡ min (from + v.board.piece) v.board.records → (r : ℕ) → from ≤ r → r < to → owns r w.book ≡ owns r v.book + 1
owns_piece v w from to is to_is r a b = ap (λ (z : SeatView). owns r z.book) is ∙ (claim_adds v.board.piece v.board.records from r v.book
    ∙ ap (λ n. owns r v.book + n) (in_piece from (min (from + v.board.piece) v.board.records) r a (omega (arith, b, to_is))))

pub piece_free : (v w : SeatView) (from to : ℕ) → w ≡ seat_after_claim v from → to ≡ min (from + v.board.piece) v.board.records → IsSound w → (r : ℕ) → from ≤ r → r < to → owns r v.book ≡ 0
piece_free v w from to is to_is sound r a b = omega (arith, owns_piece v w from to is to_is r a b, sound.own_once r)

pub piece_alone : (v w : SeatView) (from to : ℕ) → w ≡ seat_after_claim v from → to ≡ min (from + v.board.piece) v.board.records → IsSound w → MomentOf w → OwnsAlone w from to
piece_alone v w from to is to_is sound m = record {
  moment = m;
  own = own;
  others = λ r i b a l other at. owns_alone (world_at w m) m.lawful m.number i r w.book b m.here at other (omega (arith, own r a l));
}
  where
    own : (r : ℕ) → from ≤ r → r < to → owns r w.book ≡ 1
    own r a b = omega (arith, owns_piece v w from to is to_is r a b, sound.own_once r)
