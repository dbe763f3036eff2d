-- How many exchanges are lost.
use Rattle.std.proofs.Math.Nat.{mul-le-mul_left}
use Rattle.std.proofs.Common.{◌≡◌, ℕ, ◌+◌, ◌-◌, ◌*◌, ◌^◌, ◌<◌, ◌≤◌, List, [], ◌∷◌, ◌++◌, Option, None, ap, ◌∙◌, subst, arith}
use Rattle.std.specs.Prelude.{slice_index_or}
use Rattle.bw_core.specs.declared.Post.{Post}
use Rattle.bw_core.specs.Keeping.{pairs_of}
use Rattle.bw_core.specs.Events.{post}
use Rattle.bw_core.proofs.Lists.{total-append}
use Rattle.bw_board.specs.Plays.{lost_in}
use Rattle.bw_board.specs.Public.{BoardView, SeatView, IsSound, Posts}

-- the pairs that so many records make fit, with as many records again
pub pairs_fit : (n : ℕ) → n ≤ 2 ^ 32 → pairs_of n + n < 2 ^ 64
pairs_fit n h = let a : n * (n - 1) ≤ n * 2 ^ 32 = mul-le-mul_left n (omega arith) in let b : 2 ^ 32 * n ≤ 2 ^ 32 * 2 ^ 32 = mul-le-mul_left (2 ^ 32) h in omega (arith, a, b)

-- one more post
pub lost_more : (v w : SeatView) (r page lost : ℕ) → Posts v w r page lost → lost_in w.book.posted ≡ lost_in v.book.posted + lost
lost_more v w r page lost posted = ap (λ (z : SeatView). lost_in z.book.posted) posted.after ∙ (let a = total-append (λ (y : Post). y.lost) v.book.posted (post r page lost ∷ []) in omega (arith, a))

pub lost_both : (xs ys : List Post) → lost_in (xs ++ ys) ≡ lost_in xs + lost_in ys
lost_both xs ys = total-append (λ (y : Post). y.lost) xs ys

-- what a seat lost fits
pub lost_few : (v : SeatView) (board : BoardView) → v.board ≡ board → board.records ≤ 2 ^ 32 → IsSound v → (lost_in v.book.posted ≤ pairs_of board.records + board.records) × (lost_in v.book.posted < 2 ^ 64)
lost_few v board is few sound =
    let low : lost_in v.book.posted ≤ pairs_of board.records + board.records = subst (λ (b : BoardView). lost_in v.book.posted ≤ pairs_of b.records + b.records) is sound.lost_few in
    let small = pairs_fit board.records few in (low, omega (arith, low, small))

-- and at a board without spares it is less
pub lost_fewer : (v : SeatView) (board : BoardView) → v.board ≡ board → ((p : ℕ) → slice_index_or board.spares p None ≡ None) → IsSound v → lost_in v.book.posted ≤ pairs_of board.records
lost_fewer v board is spareless sound =
    let here : (p : ℕ) → ◌≡◌ {A = Option ℕ} (slice_index_or v.board.spares p None) None = λ p. ap (λ (b : BoardView). slice_index_or b.spares p None) is ∙ spareless p in
    subst (λ (b : BoardView). lost_in v.book.posted ≤ pairs_of b.records) is (sound.lost_fewer here)
