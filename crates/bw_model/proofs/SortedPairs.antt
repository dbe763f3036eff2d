-- Lemmas on sorted lists of pairs.
use Rattle.std.proofs.Common.{◌≡◌, ℕ, suc, ◌+◌, ◌<◌, true, false, cond, List, [], ◌∷◌, length, get_or, set, drop, Some, refl, sym, ap, ◌∙◌, arith, add-one, drop-cons, Ordering}
use Rattle.std.proofs.lemmas.List.{get_or_default}
use Rattle.std.specs.List.{insert}
use Rattle.std.specs.Ordering.{is_eq, is_lt, ordering_reverse}
use Rattle.std.specs.FinMap.Entries.{by_order}
use Rattle.std.specs.declared.cmp.Ordering.TheVariants.{Less, Equal, Greater}
use Rattle.std.specs.FinMap.{find, put}
use Rattle.bw_key.specs.Order.{KeyBytes, key_cmp, key_eq, key_ties, key_cmp_total}
use Rattle.bw_model.specs.Sorted.{place_of}

-- the two ways to compare
turned : (q k : KeyBytes) (r : Ordering) → key_cmp q k ≡ r → key_cmp k q ≡ ordering_reverse r
turned q k r e = key_cmp_total.antisymm k q ∙ ap ordering_reverse e

module _ {V : Type 0} where
  -- a look-up from place i on reads the pair there first
  pub find_at : (q : KeyBytes) (l : List (KeyBytes × V)) (i : ℕ) (x : KeyBytes × V) → i < length l → x ≡ get_or l i x →
      find key_cmp q (drop i l) ≡ cond (key_eq q x.0) (Some x.1) (find key_cmp q (drop (i + 1) l))
  find_at q l i x h is = rw (add-one, drop-cons l i x, ← is, key_ties q x.0) refl

  -- it ends at a pair with the key
  pub find_here : (q : KeyBytes) (l : List (KeyBytes × V)) (i : ℕ) (x : KeyBytes × V) → i < length l → x ≡ get_or l i x → key_eq q x.0 ≡ true →
      find key_cmp q (drop i l) ≡ Some x.1
  find_here q l i x h is same = find_at q l i x h is ∙ ap (λ b. cond b (Some x.1) (find key_cmp q (drop (i + 1) l))) same

  -- and passes one with another
  pub find_later : (q : KeyBytes) (l : List (KeyBytes × V)) (i : ℕ) (x : KeyBytes × V) → i < length l → x ≡ get_or l i x → key_eq q x.0 ≡ false →
      find key_cmp q (drop i l) ≡ find key_cmp q (drop (i + 1) l)
  find_later q l i x h is other = find_at q l i x h is ∙ ap (λ b. cond b (Some x.1) (find key_cmp q (drop (i + 1) l))) other

  -- whether a key stands at its place
  abbrev pub StandsAt : KeyBytes → List (KeyBytes × V) → KeyBytes × V → Type 0
  StandsAt q l x = (place_of q l < length l) × (x ≡ get_or l (place_of q l) x) × (key_eq x.0 q ≡ true)

  place_stops : (q : KeyBytes) (y : KeyBytes × V) (l : List (KeyBytes × V)) (r : Ordering) → key_cmp q y.0 ≡ r → is_lt (ordering_reverse r) ≡ false → place_of q (y ∷ l) ≡ 0
  place_stops q y l r e stops = ap (λ o. cond (is_lt o) (place_of q l + 1) 0) (turned q y.0 r e) ∙ ap (λ b. cond b (place_of q l + 1) 0) stops

  place_goes_on : (q : KeyBytes) (y : KeyBytes × V) (l : List (KeyBytes × V)) → key_cmp q y.0 ≡ Greater → place_of q (y ∷ l) ≡ suc (place_of q l)
  place_goes_on q y l e = ap (λ o. cond (is_lt o) (place_of q l + 1) 0) (turned q y.0 Greater e) ∙ add-one (place_of q l)

  -- a value put at a key that stands is put in its pair
  pub put_found : (q : KeyBytes) (v : V) (l : List (KeyBytes × V)) (x : KeyBytes × V) → place_of q l < length l → x ≡ get_or l (place_of q l) x → key_eq x.0 q ≡ true →
      put key_cmp q v l ≡ set l (place_of q l) (x.0, v)
  put_found q v [] x lt is same = absurd (omega (arith, lt))
  put_found q v (y ∷ l) x lt is same =
      elim (key_cmp q y.0) as (λ r. key_cmp q y.0 ≡ r → by_order r ((q, v) ∷ y ∷ l) ((y.0, v) ∷ l) (y ∷ put key_cmp q v l) ≡ set (y ∷ l) (place_of q (y ∷ l)) (x.0, v)) [
        | Less ↦ λ e.
            let first : x ≡ y = is ∙ ap (λ n. get_or (y ∷ l) n x) (place_stops q y l Less e refl) in
            let differs : is_eq (key_cmp y.0 q) ≡ true = sym (key_ties y.0 q) ∙ ap (λ (z : KeyBytes × V). key_eq z.0 q) (sym first) ∙ same in
            absurd (no_greater (sym (ap is_eq (turned q y.0 Less e)) ∙ differs))
        | Equal ↦ λ e.
            let stops = place_stops q y l Equal e refl in
            let first : x ≡ y = is ∙ ap (λ n. get_or (y ∷ l) n x) stops in
            ap (λ (z : KeyBytes × V). (z.0, v) ∷ l) (sym first) ∙ ap (λ n. set (y ∷ l) n (x.0, v)) (sym stops)
        | Greater ↦ λ e.
            let goes_on = place_goes_on q y l e in
            let lt_rest : place_of q l < length l = omega (arith, lt, goes_on) in
            ap (λ m. y ∷ m) (put_found q v l x lt_rest (is ∙ ap (λ n. get_or (y ∷ l) n x) goes_on) same) ∙ ap (λ n. set (y ∷ l) n (x.0, v)) (sym goes_on)
      ] refl
    where
      no_greater : false ≡ true → ⊥
      no_greater e = cc

  -- and at one that doesn't, as a new pair at its place
  pub put_absent : (q : KeyBytes) (v : V) (l : List (KeyBytes × V)) → (place_of q l < length l → (x : KeyBytes × V) × (x ≡ get_or l (place_of q l) x) × (key_eq x.0 q ≡ false)) →
      put key_cmp q v l ≡ insert l (place_of q l) (q, v)
  put_absent q v [] other = refl
  put_absent q v (y ∷ l) other =
      elim (key_cmp q y.0) as (λ r. key_cmp q y.0 ≡ r → by_order r ((q, v) ∷ y ∷ l) ((y.0, v) ∷ l) (y ∷ put key_cmp q v l) ≡ insert (y ∷ l) (place_of q (y ∷ l)) (q, v)) [
        | Less ↦ λ e. ap (λ n. insert (y ∷ l) n (q, v)) (sym (place_stops q y l Less e refl))
        | Equal ↦ λ e.
            let stops = place_stops q y l Equal e refl in
            let there = other (omega (arith, stops)) in
            let first : there.0 ≡ y = there.1 ∙ ap (λ n. get_or (y ∷ l) n there.0) stops in
            let ties : is_eq (key_cmp y.0 q) ≡ false = sym (key_ties y.0 q) ∙ ap (λ (z : KeyBytes × V). key_eq z.0 q) (sym first) ∙ there.2 in
            absurd (no_tie (sym (ap is_eq (turned q y.0 Equal e)) ∙ ties))
        | Greater ↦ λ e.
            let goes_on = place_goes_on q y l e in
            ap (λ m. y ∷ m) (put_absent q v l (λ lt. let there = other (omega (arith, lt, goes_on)) in (there.0, there.1 ∙ ap (λ n. get_or (y ∷ l) n there.0) goes_on, there.2)))
            ∙ ap (λ n. insert (y ∷ l) n (q, v)) (sym goes_on)
      ] refl
    where
      no_tie : true ≡ false → ⊥
      no_tie e = cc

  -- the same, with the place as the code has it
  pub put_found_at : (q : KeyBytes) (v : V) (l : List (KeyBytes × V)) (n : ℕ) (x z : KeyBytes × V) → n ≡ place_of q l → n < length l → x ≡ get_or l n x → z ≡ get_or l n z → key_eq x.0 q ≡ true →
      set l n (z.0, v) ≡ put key_cmp q v l
  put_found_at q v l n x z at lt is is_too same =
      let one : z ≡ x = is_too ∙ get_or_default l n z x lt ∙ sym is in
      ap (λ (k : KeyBytes × V). set l n (k.0, v)) one ∙ ap (λ m. set l m (x.0, v)) at
      ∙ sym (put_found q v l x (omega (arith, at, lt)) (is ∙ ap (λ m. get_or l m x) at) same)

  pub put_absent_at : (q : KeyBytes) (v : V) (l : List (KeyBytes × V)) (n : ℕ) → n ≡ place_of q l → (n < length l → (x : KeyBytes × V) × (x ≡ get_or l n x) × (key_eq x.0 q ≡ false)) →
      insert l n (q, v) ≡ put key_cmp q v l
  put_absent_at q v l n at other =
      ap (λ m. insert l m (q, v)) at
      ∙ sym (put_absent q v l (λ lt. let there = other (omega (arith, at, lt)) in (there.0, there.1 ∙ ap (λ m. get_or l m there.0) at, there.2)))
