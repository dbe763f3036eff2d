-- What a step tells a seat, as its caller sees it.
use Rattle.std.proofs.Common.{◌≡◌, ℕ, ◌+◌, ◌-◌, ◌/◌, ◌≤◌, Bool, [], refl, sym, ap, subst, arith}
use Rattle.bw_core.specs.declared.BookView.{BookView}
use Rattle.bw_core.specs.World.{owns, seen_at, IsEnd}
use Rattle.bw_core.proofs.Without.{join_adds}
use Rattle.bw_board.specs.declared.table.Sight.{Sight}
use Rattle.bw_board.specs.Plays.{Seated, IsSane, left_of, right_of, both_of}
use Rattle.bw_board.specs.Public.{IsIdleSeat}
use Rattle.bw_board.proofs.Kept.{sane_halves}

-- the halves of an idle seat
pub halves_idle : (m l r : Seated) (width : ℕ) (told : Bool) → IsIdleSeat m width told → 2 ≤ width → l ≡ (left_of m.0, m.1) → r ≡ (right_of m.0, []) → IsIdleSeat l (width - width / 2) told × IsIdleSeat r (width / 2) told
halves_idle m l r width told i wide left right =
    let n = i.width_is in let small = i.small_width in let s = sane_halves m.0 i.sane i.live i.idle (omega arith) in
    let one : IsIdleSeat (left_of m.0, m.1) (width - width / 2) told = record {
      no_slots = i.no_slots;
      live = i.live;
      idle = i.idle;
      width_is = ap (λ z. z - z / 2) n;
      told_is = i.told_is;
      some_width = omega arith;
      small_width = omega arith;
      sane = s.0;
    } in
    let other : IsIdleSeat (right_of m.0, []) (width / 2) told = record {
      no_slots = refl;
      live = refl;
      idle = refl;
      width_is = ap (λ z. z / 2) n;
      told_is = i.told_is;
      some_width = omega arith;
      small_width = omega arith;
      sane = s.1;
    } in
    (subst (λ (z : Seated). IsIdleSeat z (width - width / 2) told) (sym left) one, subst (λ (z : Seated). IsIdleSeat z (width / 2) told) (sym right) other)

-- what a joined seat knows of the two that it was
pub join_shown : (v w z : Sight) (b d : BookView) → IsSane z → z ≡ both_of v w → v.book ≡ b → w.book ≡ d
    → ((page : ℕ) → IsEnd (seen_at b page) (seen_at z.book page)) × ((page : ℕ) → IsEnd (seen_at d page) (seen_at z.book page)) × ((r : ℕ) → owns r b + owns r d ≤ 1)
join_shown v w z b d sane is left right =
    let s : IsSane (both_of v w) = subst IsSane is sane in let both = s.joined_seen (record { left = v.book; right = w.book }) refl in (
      (λ page. subst (λ (k : BookView × Sight). IsEnd (seen_at k.0 page) (seen_at k.1.book page)) (λ j. (left j, sym is j)) (both.left page)),
      (λ page. subst (λ (k : BookView × Sight). IsEnd (seen_at k.0 page) (seen_at k.1.book page)) (λ j. (right j, sym is j)) (both.right page)),
      λ r. subst (λ (k : BookView × BookView). owns r k.0 + owns r k.1 ≤ 1) (λ j. (left j, right j)) (omega (arith, s.own_one r, (join_adds v.first v.book w.book r 0).0)),
    )
