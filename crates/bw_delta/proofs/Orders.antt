-- Writes in another order.
use Rattle.std.proofs.Common.{◌≡◌, ◌≢◌, ℕ, zero, suc, ◌+◌, ◌<◌, ◌≤◌, true, false, List, [], ◌∷◌, length, remove, get_or, map, drop, Option, Some, None, nat_eq, refl, sym, ap, ◌∙◌, arith, add-one, drop-cons}
use Rattle.std.proofs.lemmas.Bool.Decides.{nat_tests}
use Rattle.std.proofs.lemmas.List.{get_or-map, length-map}
use Rattle.std.proofs.lemmas.List.Sorted.{IsPermutation-cons, IsPermutation-map, IsPermutation-refl, IsPermutation-remove, IsPermutation-sym, IsPermutation-trans, Contains-permutation}
use Rattle.std.proofs.lemmas.Map.Keys.{IsDistinct-IsPermutation, IsDistinct-tail, apart_from_distinct}
use Rattle.std.specs.Borrow.{Bor}
use Rattle.std.specs.List.{Contains, IsDistinct}
use Rattle.std.specs.List.Sorted.{IsPermutation, IsNonDecreasingBy}
use Rattle.bw_model.specs.declared.operations.Action.{Action}
use Rattle.bw_delta.specs.Writes.{WriteView}
use Rattle.bw_model.specs.Values.{ValueBytes}
use Rattle.bw_delta.specs.History.{history, action_at, pointed_to, HasDistinctStamps}
use Rattle.bw_delta.specs.Rising.{HasRisingStamps}
use Rattle.bw_delta.proofs.Histories.{at_first, past_other, same_history}

flips : (x y : ℕ) → nat_eq x y ≡ nat_eq y x
flips x y = grind (arith, nat_tests)

pub not_same : (m n : ℕ) → nat_eq m n ≡ false → m ≢ n
not_same m n e same = absurd (different (sym e ∙ is_same m n same))
  where
    different : false ≡ true → ⊥
    different e = cc

    is_same : (m n : ℕ) → m ≡ n → nat_eq m n ≡ true
    is_same m n e = grind (arith, nat_tests)

-- the stamp of a later write is another
later_differs : (w : WriteView) (ws : List WriteView) (k : ℕ) (v : WriteView) → HasDistinctStamps (w ∷ ws) → k < length ws → get_or ws k v ≡ v → w.stamp ≢ v.stamp
later_differs w ws k v distinct lt is =
    let stamp = λ (x : WriteView). x.stamp in
    let at = get_or-map stamp ws k v (stamp v) lt in
    let apart = apart_from_distinct nat_eq (map stamp (w ∷ ws)) 0 (suc k) (stamp v) distinct (omega arith) (omega (arith, lt, length-map ws stamp)) in
    not_same w.stamp v.stamp (ap (nat_eq w.stamp) (sym (at ∙ ap stamp is)) ∙ apart)

pub distinct_permuted : (xs ys : List WriteView) → IsPermutation xs ys → HasDistinctStamps xs → HasDistinctStamps ys
distinct_permuted xs ys moved distinct =
    let stamp = λ (x : WriteView). x.stamp in
    IsDistinct-IsPermutation nat_eq flips (map stamp xs) (map stamp ys) (IsPermutation-map stamp xs ys moved) distinct

pub distinct_rest : (w : WriteView) (ws : List WriteView) → HasDistinctStamps (w ∷ ws) → HasDistinctStamps ws
distinct_rest w ws distinct = IsDistinct-tail nat_eq w.stamp (map (λ (x : WriteView). x.stamp) ws) distinct

-- each write is what was written with its stamp
pub at_one : (ws : List WriteView) (v : WriteView) → HasDistinctStamps ws → Contains ws v → action_at ws v.stamp ≡ Some v.action
at_one [] v distinct there = absurd (omega (arith, there.1))
at_one (w ∷ ws) v distinct (zero, lt, is) = at_first w ws v.stamp (ap (λ (x : WriteView). x.stamp) is) ∙ ap (λ (x : WriteView). Some x.action) is
at_one (w ∷ ws) v distinct (suc k, lt, is) =
    past_other w ws v.stamp (later_differs w ws k v distinct (omega (arith, lt)) is) ∙ at_one ws v (distinct_rest w ws distinct) (k, omega (arith, lt), is)

-- a write with this stamp and this action
pub record HasWrite (ws : List WriteView) (t : ℕ) (a : Action) : Type 0 where
  pub write : WriteView
  pub there : Contains ws write
  pub stamp : write.stamp ≡ t
  pub action : write.action ≡ a

pub written_by : (ws : List WriteView) (t : ℕ) (a : Action) → action_at ws t ≡ Some a → HasWrite ws t a
written_by [] t a e = absurd (nothing e)
  where
    nothing : None ≡ Some a → ⊥
    nothing e = cc
written_by (w ∷ ws) t a e = elim (nat_eq w.stamp t) as (λ b. nat_eq w.stamp t ≡ b → HasWrite (w ∷ ws) t a) [
  | true ↦ λ same.
      let is = equal w.stamp t same in
      record { write = w; there = (0, omega arith, refl); stamp = is; action = one w.action a (sym (at_first w ws t is) ∙ e) }
  | false ↦ λ other.
      let rest = written_by ws t a (sym (past_other w ws t (not_same w.stamp t other)) ∙ e) in
      record { write = rest.write; there = (suc rest.there.0, omega (arith, rest.there.1), rest.there.2); stamp = rest.stamp; action = rest.action }
] refl
  where
    equal : (m n : ℕ) → nat_eq m n ≡ true → m ≡ n
    equal m n e = grind (arith, nat_tests)

    one : (x y : Action) → Some x ≡ Some y → x ≡ y
    one x y e = cc

-- lists of the same writes have the same action at each stamp
pub alike_actions : (xs ys : List WriteView) (t : ℕ) → ((v : WriteView) → Contains xs v → Contains ys v) → ((v : WriteView) → Contains ys v → Contains xs v) →
    HasDistinctStamps xs → HasDistinctStamps ys → action_at ys t ≡ action_at xs t
alike_actions xs ys t there back distinct distinct' = elim (action_at xs t) as (λ o. action_at xs t ≡ o → action_at ys t ≡ o) [
  | Some a ↦ λ e. moves_on xs ys a there distinct' e
  | None ↦ λ e. elim (action_at ys t) as (λ o. action_at ys t ≡ o → o ≡ None) [
    | Some b ↦ λ f. sym (moves_on ys xs b back distinct f) ∙ e
    | None ↦ λ f. refl
  ] refl
] refl
  where
    moves_on : (xs ys : List WriteView) (a : Action) → ((v : WriteView) → Contains xs v → Contains ys v) → HasDistinctStamps ys → action_at xs t ≡ Some a → action_at ys t ≡ Some a
    moves_on xs ys a there distinct e =
        let by = written_by xs t a e in
        ap (action_at ys) (sym by.stamp) ∙ at_one ys by.write distinct (there by.write by.there) ∙ ap Some by.action

-- lists of the same writes differ in order alone
pub same_members : (xs ys : List WriteView) → HasDistinctStamps xs → HasDistinctStamps ys → ((v : WriteView) → Contains xs v → Contains ys v) → ((v : WriteView) → Contains ys v → Contains xs v) → IsPermutation xs ys
same_members [] [] distinct distinct' there back = IsPermutation-refl []
same_members [] (y ∷ ys) distinct distinct' there back = absurd (omega (arith, (back y (0, omega arith, refl)).1))
same_members (x ∷ xs) ys distinct distinct' there back =
    let has = there x (0, omega arith, refl) in
    let zs = remove ys has.0 in
    let moved = IsPermutation-remove ys has.0 x has.1 (sym has.2) in
    let rest_distinct = distinct_permuted ys (x ∷ zs) moved distinct' in
    IsPermutation-trans (x ∷ xs) (x ∷ zs) ys
    (IsPermutation-cons x xs zs
    (same_members xs zs (distinct_rest x xs distinct) (distinct_rest x zs rest_distinct)
    (λ v in_xs. other_in x v zs (λ e. later_differs x xs in_xs.0 v distinct in_xs.1 in_xs.2 (ap (λ (w : WriteView). w.stamp) e)) (Contains-permutation ys (x ∷ zs) v moved (there v (suc in_xs.0, omega (arith, in_xs.1), in_xs.2))))
    (λ v in_zs. other_in x v xs (λ e. later_differs x zs in_zs.0 v rest_distinct in_zs.1 in_zs.2 (ap (λ (w : WriteView). w.stamp) e)) (back v (Contains-permutation (x ∷ zs) ys v (IsPermutation-sym ys (x ∷ zs) moved) (suc in_zs.0, omega (arith, in_zs.1), in_zs.2))))))
    (IsPermutation-sym ys (x ∷ zs) moved)
  where
    other_in : (x v : WriteView) (zs : List WriteView) → (x ≡ v → ⊥) → Contains (x ∷ zs) v → Contains zs v
    other_in x v zs other (zero, lt, at) = absurd (other at)
    other_in x v zs other (suc k, lt, at) = (k, omega (arith, lt), at)

-- what was written with a stamp doesn't depend on the order
pub same_actions : (xs ys : List WriteView) (t : ℕ) → IsPermutation xs ys → HasDistinctStamps xs → action_at ys t ≡ action_at xs t
same_actions xs ys t moved distinct =
    alike_actions xs ys t (λ v. Contains-permutation xs ys v moved) (λ v. Contains-permutation ys xs v (IsPermutation-sym xs ys moved))
    distinct (distinct_permuted xs ys moved distinct)

-- and so neither does their history
pub same_reading : (xs ys : List WriteView) (start value : Option ValueBytes) (stamp : ℕ) → IsPermutation xs ys → HasDistinctStamps xs →
    value ≡ history start (action_at ys) stamp → value ≡ history start (action_at xs) stamp
same_reading xs ys start value stamp moved distinct is = is ∙ same_history start (action_at ys) (action_at xs) stamp (λ t lt. same_actions xs ys t moved distinct)

-- the stamps of writes in order strictly rise
pub rising_from : (low : ℕ) (refs : List (Bor WriteView)) → IsNonDecreasingBy (λ r. r.now.stamp) refs → HasDistinctStamps (pointed_to refs) →
    ((i : ℕ) (d : Bor WriteView) → i < length refs → low ≤ (get_or refs i d).now.stamp) → HasRisingStamps low (pointed_to refs)
rising_from low [] ordered distinct from = tt
rising_from low (r ∷ rs) ordered distinct from = (
  from 0 r (omega arith),
  rising_from (r.now.stamp + 1) rs (λ i j d le lt. ordered (suc i) (suc j) d (omega (arith, le)) (omega (arith, lt))) (distinct_rest r.now (pointed_to rs) distinct)
      (λ i d lt.
      let up = ordered 0 (suc i) d (omega arith) (omega (arith, lt)) in
      let v = get_or rs i d in
      let now = λ (x : Bor WriteView). x.now in
      let other = later_differs r.now (pointed_to rs) i v.now distinct (omega (arith, lt, length-map rs now)) (get_or-map now rs i d v.now lt) in
      grind (arith, up, other)),
)

-- one write further, by the place in the slice
pub next_write : (refs : List (Bor WriteView)) (i : ℕ) (r : Bor WriteView) → i < length refs → r ≡ get_or refs i r → pointed_to (drop i refs) ≡ r.now ∷ pointed_to (drop (i + 1) refs)
next_write refs i r lt is = rw (add-one, drop-cons refs i r, ← is) refl

-- three writes with stamps of their own
pub distinct_three : (a b c : WriteView) → a.stamp ≢ b.stamp → a.stamp ≢ c.stamp → b.stamp ≢ c.stamp → HasDistinctStamps (a ∷ b ∷ c ∷ [])
unfolding IsDistinct
distinct_three a b c ab ac bc = ((apart a.stamp b.stamp ab, (apart a.stamp c.stamp ac, tt)), ((apart b.stamp c.stamp bc, tt), (tt, tt)))
  where
    apart : (m n : ℕ) → m ≢ n → nat_eq m n ≡ false
    apart m n e = grind (arith, nat_tests)
