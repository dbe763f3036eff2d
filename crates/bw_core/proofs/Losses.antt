-- All exchanges that the posts of one book lost: no more than the records make pairs, and one more for each record where chains end in spares.
use Rattle.std.proofs.Common.{map, ◌*◌, ◌-◌, ◌≡◌, ℕ, zero, suc, ◌+◌, ◌<◌, ◌≤◌, eqb, ltb, eq-eqb, ne_eqb, Bool, true, false, cond, ◌&&◌, List, [], ◌∷◌, ◌++◌, length, length-append, get_or, sym, refl, ◌∙◌, subst, arith}
use Rattle.std.proofs.lemmas.Bool.Decides.{nat_tests}
use mathlib.Core.Logic.{dite}
use mathlib.Core.Option.{some}
use native.Mathlib.Decide.{ℕ_discrete}
use lib.ListN.{get_elem?}
use Rattle.bw_core.specs.declared.Post.{Post}
use Rattle.bw_core.specs.declared.BookView.{BookView}
use Rattle.std.specs.List.{AllByRecursion}
use Rattle.bw_core.specs.World.{World, one_if, total, times, posts_in, posts_at, beneath, late, Lawful}
use Rattle.bw_core.specs.Keeping.{pairs_of, LossesBound}
use Rattle.bw_core.proofs.Allowed.{late_small}
use Rattle.bw_core.proofs.Without.{no_spare}
use Rattle.bw_core.proofs.Events.{is_record}
use Rattle.std.proofs.Math.Nat.{mul-le-mul_right}
use Rattle.bw_core.proofs.Lists.{one_same, total-append, total-le, total_at, total_same, AllByRecursion-append, beneath_more, meets_low, few}

-- the numbers below n, added up
abbrev tri : ℕ → ℕ
tri zero = 0
tri (suc n) = n + tri n

tri_square : (n : ℕ) → 2 * tri n + n ≡ n * n
tri_square zero = omega arith
tri_square (suc n) = let h = tri_square n in grind (arith)

tri_pairs : (n : ℕ) → tri n ≡ pairs_of n
tri_pairs zero = omega arith
tri_pairs (suc n) = let h = tri_square (suc n) in let e : suc n * (suc n - 1) ≡ 2 * tri (suc n) = grind (arith) in omega arith

tri_le : (m n : ℕ) → m ≤ n → tri m ≤ tri n
tri_le m zero h = let z : m ≡ 0 = omega arith in subst (λ k. tri k ≤ 0) (sym z) (omega arith)
tri_le zero (suc n) h = omega arith
tri_le (suc m) (suc n) h = let k = tri_le m n (omega arith) in omega arith

total_plus : {X : Type 0} → (f g : X → ℕ) (xs : List X) → total (λ x. f x + g x) xs ≡ total f xs + total g xs
total_plus f g [] = omega arith
total_plus f g (x ∷ xs) = let h = total_plus f g xs in omega arith

total_below : {X : Type 0} → (f g : X → ℕ) (xs : List X) → AllByRecursion (λ x. f x ≤ g x) xs → total f xs ≤ total g xs
total_below f g [] h = omega arith
total_below f g (x ∷ xs) h = let a = h.0 in let k = total_below f g xs h.1 in omega arith

total_scaled : {X : Type 0} → (f : X → ℕ) (k : ℕ) (xs : List X) → total (λ x. f x * k) xs ≡ total f xs * k
total_scaled f k [] = omega arith
total_scaled f k (x ∷ xs) = let h = total_scaled f k xs in omega arith

-- where no record is posted twice, what stands beneath the posted ones in one chain makes at most the chain's pairs
beneath_pairs : (ps : List Post) (c : List ℕ) → ((r : ℕ) → posts_in r ps ≤ 1) → total (λ x. beneath x.rec c) ps ≤ tri (length c)
beneath_pairs ps [] once = none ps
  where
    none : (ps : List Post) → total (λ (x : Post). 0) ps ≤ 0
    none [] = omega arith
    none (p ∷ ps) = let h = none ps in omega arith
beneath_pairs ps (r ∷ c) once =
    let f : Post → ℕ = λ x. one_if (eqb x.rec r) in
    let a = total-le (λ (x : Post). beneath x.rec (r ∷ c)) (λ x. f x * length c + beneath x.rec c) ps (λ j x e. one x) in
    let b = total_plus (λ x. f x * length c) (λ x. beneath x.rec c) ps in let s = total_scaled f (length c) ps in
    let h = beneath_pairs ps c once in let k : total f ps * length c ≤ length c = small (total f ps) (length c) (once r) in omega arith
  where
    small : (m n : ℕ) → m ≤ 1 → m * n ≤ n
    small zero n h = omega arith
    small (suc zero) n h = omega arith
    small (suc (suc m)) n h = absurd (omega arith)

    one : (x : Post) → beneath x.rec (r ∷ c) ≤ one_if (eqb x.rec r) * length c + beneath x.rec c
    one x = dite (ℕ_discrete r x.rec)
        (λ e. let k = one_same x.rec r (sym e) in subst (λ b. cond b (length c) (beneath x.rec c) ≤ one_if (eqb x.rec r) * length c + beneath x.rec c) (sym (eq-eqb r x.rec e))
        (subst (λ z. length c ≤ z * length c + beneath x.rec c) (sym k) (omega arith)))
        (λ n. subst (λ b. cond b (length c) (beneath x.rec c) ≤ one_if (eqb x.rec r) * length c + beneath x.rec c) (sym (ne_eqb r x.rec n)) (omega arith))

-- the chains of the pages below n, one after another
abbrev flat : (ℕ → List ℕ) → ℕ → List ℕ
flat f zero = []
flat f (suc n) = f n ++ flat f n

beneath_front : (r : ℕ) (xs ys : List ℕ) → beneath r xs ≤ beneath r (xs ++ ys)
beneath_front r [] ys = omega arith
beneath_front r (x ∷ xs) ys = let h = beneath_front r xs ys in let n = length-append xs ys in
    elim (eqb x r) as (λ b. cond b (length xs) (beneath r xs) ≤ cond b (length (xs ++ ys)) (beneath r (xs ++ ys))) [ true ↦ omega arith | false ↦ h ]

beneath_flat : (f : ℕ → List ℕ) (n r p : ℕ) → p < n → beneath r (f p) ≤ beneath r (flat f n)
beneath_flat f zero r p h = absurd (omega arith)
beneath_flat f (suc n) r p h = dite (ℕ_discrete p n)
    (λ e. subst (λ z. beneath r (f z) ≤ beneath r (f n ++ flat f n)) (sym e) (beneath_front r (f n) (flat f n)))
    (λ ne. let a = beneath_flat f n r p (omega arith) in let b = beneath_more r (f n) (flat f n) in omega arith)

flat_each : (f : ℕ → List ℕ) (P : ℕ → Type 0) (n : ℕ) → ((p : ℕ) → p < n → AllByRecursion P (f p)) → AllByRecursion P (flat f n)
flat_each f P zero h = tt
flat_each f P (suc n) h = AllByRecursion-append P (f n) (flat f n) (h n (omega arith)) (flat_each f P n (λ p k. h p (omega arith)))

-- how often r was posted under a page below n
abbrev posts_under : ℕ → ℕ → List Post → ℕ
posts_under n r ps = total (λ x. one_if (ltb x.page n && eqb x.rec r)) ps

under_none : (r : ℕ) (bs : List BookView) → total (λ b. posts_under 0 r b.posted) bs ≡ 0
under_none r [] = refl
under_none r (b ∷ bs) = let h = under_none r bs in let k = none b.posted in omega arith
  where
    none : (ps : List Post) → posts_under 0 r ps ≡ 0
    none [] = refl
    none (x ∷ ps) = let h = none ps in let k : one_if (ltb x.page 0 && eqb x.rec r) ≡ 0 = first x.page (eqb x.rec r) in omega arith
      where
        first : (p : ℕ) (b : Bool) → one_if (ltb p 0 && b) ≡ 0
        first p b = grind (arith, nat_tests)

under_next : (n r : ℕ) (ps : List Post) → posts_under (suc n) r ps ≡ posts_at n r ps + posts_under n r ps
under_next n r ps = total_same (λ (x : Post). one_if (ltb x.page (suc n) && eqb x.rec r)) (λ x. one_if (eqb x.page n && eqb x.rec r) + one_if (ltb x.page n && eqb x.rec r)) ps
    (λ x. one x.page (eqb x.rec r)) ∙ total_plus (λ x. one_if (eqb x.page n && eqb x.rec r)) (λ x. one_if (ltb x.page n && eqb x.rec r)) ps
  where
    one : (p : ℕ) (b : Bool) → one_if (ltb p (suc n) && b) ≡ one_if (eqb p n && b) + one_if (ltb p n && b)
    one p true = grind (arith, nat_tests)
    one p false = grind (arith, nat_tests)

under_all : (n r : ℕ) (ps : List Post) → posts_under n r ps ≤ posts_in r ps
under_all n r [] = omega arith
under_all n r (x ∷ ps) = let h = under_all n r ps in let k : one_if (ltb x.page n && eqb x.rec r) ≤ one_if (eqb x.rec r) = one (ltb x.page n) (eqb x.rec r) in omega arith
  where
    one : (a b : Bool) → one_if (a && b) ≤ one_if b
    one true b = omega arith
    one false true = omega arith
    one false false = omega arith

flat_times : (w : World) (q : Lawful w) (n r : ℕ) → n ≤ length w.first → times r (flat q.fresh n) ≡ total (λ b. posts_under n r b.posted) w.books
flat_times w q zero r h = sym (under_none r w.books)
flat_times w q (suc n) r h =
    let a = total-append (λ x. one_if (eqb x r)) (q.fresh n) (flat q.fresh n) in let b = q.placed n r (omega arith) in let k = flat_times w q n r (omega arith) in
    let s = total_same (λ (b : BookView). posts_under (suc n) r b.posted) (λ b. posts_at n r b.posted + posts_under n r b.posted) w.books (λ b. under_next n r b.posted) in
    let t = total_plus (λ (b : BookView). posts_at n r b.posted) (λ b. posts_under n r b.posted) w.books in omega arith

-- posts of different records below n are at most n
posts_few : (n : ℕ) (ps : List Post) → ((r : ℕ) → posts_in r ps ≤ 1) → AllByRecursion (λ x. x.rec < n) ps → total (λ _. 1) ps ≤ n
posts_few n ps once low = let f = few n (map (λ x. x.rec) ps) (below ps low) (λ r. let t = same r ps in let o = once r in omega arith) in let l = wide ps in omega arith
  where
    below : (ps : List Post) → AllByRecursion (λ x. x.rec < n) ps → AllByRecursion (λ r. r < n) (map (λ x. x.rec) ps)
    below [] h = tt
    below (x ∷ ps) h = (h.0, below ps h.1)

    same : (r : ℕ) (ps : List Post) → times r (map (λ x. x.rec) ps) ≡ posts_in r ps
    same r [] = refl
    same r (x ∷ ps) = let h = same r ps in omega arith

    wide : (ps : List Post) → total (λ _. 1) ps ≡ length (map (λ x. x.rec) ps)
    wide [] = refl
    wide (x ∷ ps) = let h = wide ps in omega arith

-- where a chain's end adds k to each bound
losses : (w : World) (q : Lawful w) (i : ℕ) (b : BookView) (k : ℕ) → get_elem? w.books i ≡ some b → ((p : ℕ) → p < length w.first → late (get_or w.first p 0) (q.last p) ≤ k)
    → total (λ x. x.lost) b.posted ≤ pairs_of w.records + w.records * k
losses w q i b k at over = let n = length w.first in let c = flat q.fresh n in let ok = q.each i b at in
    let once : (r : ℕ) → posts_in r b.posted ≤ 1 = λ r. (let a = total_at (λ (x : BookView). posts_in r x.posted) w.books i b at in let k = q.posted_once r in omega arith) in
    let each = total_below (λ (x : Post). x.lost) (λ x. beneath x.rec c + 1 * k) b.posted (within b.posted ok.posts_page) in
    let parts = total_plus (λ (x : Post). beneath x.rec c) (λ x. 1 * k) b.posted in let scaled = total_scaled (λ (x : Post). 1) k b.posted in
    let low : AllByRecursion (λ x. x < w.records) c = flat_each q.fresh (λ x. x < w.records) n (λ p h. subst (λ k. AllByRecursion (λ r. r < k) (q.fresh p)) q.link_each_record (meets_low w.floor w.links (get_or w.heads p 0) (q.fresh p) (q.last p) (q.met p h))) in
    let single : (r : ℕ) → times r c ≤ 1 = λ r. (let a = flat_times w q n r (omega arith) in
    let k = total-le (λ (x : BookView). posts_under n r x.posted) (λ x. posts_in r x.posted) w.books (λ j x e. under_all n r x.posted) in let o = q.posted_once r in omega arith) in
    let wide = few w.records c low single in let a = beneath_pairs b.posted c once in let t = tri_le (length c) w.records wide in let e = tri_pairs w.records in
    let number : total (λ (x : Post). 1) b.posted ≤ w.records = posts_few w.records b.posted once (owned b.posted (λ x h. h)) in
    let more : total (λ (x : Post). 1) b.posted * k ≤ w.records * k = mul-le-mul_right k number in omega arith
  where
    within : (ps : List Post) → AllByRecursion (λ x. (x.page < length w.first) × (x.lost ≤ beneath x.rec (q.fresh x.page) + late (get_or w.first x.page 0) (q.last x.page))) ps → AllByRecursion (λ x. x.lost ≤ beneath x.rec (flat q.fresh (length w.first)) + 1 * k) ps
    within [] h = tt
    within (x ∷ ps) h = (let a = h.0.1 in let b = beneath_flat q.fresh (length w.first) x.rec x.page h.0.0 in let o = over x.page h.0.0 in omega arith, within ps h.1)

    owned : (ps : List Post) → ((r : ℕ) → 0 < posts_in r ps → 0 < posts_in r b.posted) → AllByRecursion (λ x. x.rec < w.records) ps
    owned [] h = tt
    owned (x ∷ ps) h = (
      is_record w q i b x.rec at (let o = (q.each i b at).posts_own x.rec in let m = h x.rec (let s = one_same x.rec x.rec refl in omega arith) in omega arith),
      owned ps (λ r k. h r (omega arith)),
    )

pub losses_bound : LossesBound
losses_bound w q i b at = (
  let all = losses w q i b 1 at (λ p h. late_small (get_or w.first p 0) (q.last p)) in omega arith,
  λ none. let all = losses w q i b 0 at (λ p h. let z = no_spare w.first w.spares p (q.last p) (none p) (q.last_is p h) in omega arith) in omega arith,
)
