-- A key's place in a sorted list of entries, and the look-up there.
use Rattle.std.proofs.Common.{inl, inr, ◌≡◌, ℕ, zero, suc, ◌+◌, ◌<◌, ◌≤◌, Bool, true, false, cond, not, ◌&&◌, List, [], ◌∷◌, length, get_or, slice_range, Some, None, T, refl, sym, ap, ◌∙◌, subst, arith, add-one}
use Rattle.std.proofs.lemmas.Bool.{cases_lt}
use Rattle.std.proofs.lemmas.List.{get_or_default}
use Rattle.std.specs.List.Sorted.{IsPartitionedBy, IsPartitionPoint}
use Rattle.std.specs.Ordering.{is_eq, is_lt}
use Rattle.std.specs.FinMap.{find, is_sorted}
use Rattle.std.specs.FinMap.Entries.{below_all}
use Rattle.std.specs.declared.cmp.Ordering.TheVariants.{Less, Equal, Greater}
use Rattle.bw_key.specs.Order.{KeyBytes, key_cmp, key_eq, key_ties}
use Rattle.bw_model.specs.Sorted.{place_of}
use Rattle.bw_packed.specs.Search.{EndsAt}
use Rattle.bw_page.proofs.Truths.{true_holds}
use Rattle.bw_page.proofs.KeyLemmas.{below_trans, below_self, neither_below, keys_tie, cmp_self}

pub both : (a b : Bool) → T (a && b) → (a ≡ true) × (b ≡ true)
both true true h = (refl, refl)
both true false h = absurd h
both false b h = absurd h

pub same_keys : (k q : KeyBytes) → key_eq k q ≡ true → k ≡ q
same_keys k q e = elim (key_cmp k q) as (λ r. key_cmp k q ≡ r → k ≡ q) [
  | Less ↦ λ r. absurd (different (sym (sym (key_ties k q) ∙ e) ∙ ap is_eq r))
  | Equal ↦ λ r. keys_tie k q r
  | Greater ↦ λ r. absurd (different (sym (sym (key_ties k q) ∙ e) ∙ ap is_eq r))
] refl
  where
    different : true ≡ false → ⊥
    different e = cc

-- a key is the other, is below it, or is above it
pub less_no_tie : (q k : KeyBytes) → is_lt (key_cmp q k) ≡ true → is_eq (key_cmp q k) ≡ false
less_no_tie q k h = elim (key_cmp q k) as (λ r. is_lt r ≡ true → is_eq r ≡ false) [ Less ↦ λ e. refl | Equal ↦ λ e. sym e | Greater ↦ λ e. refl ] h

pub not_tied : (q k : KeyBytes) → is_lt (key_cmp k q) ≡ true → is_eq (key_cmp q k) ≡ false
not_tied q k h = elim (key_cmp q k) as (λ r. key_cmp q k ≡ r → is_eq r ≡ false) [
  | Less ↦ λ e. refl
  | Equal ↦ λ e. absurd (different (sym h ∙ ap (λ (x : KeyBytes). is_lt (key_cmp k x)) (keys_tie q k e) ∙ below_self k))
  | Greater ↦ λ e. refl
] refl
  where
    different : true ≡ false → ⊥
    different e = cc

pub over : (q k : KeyBytes) → is_lt (key_cmp k q) ≡ false → key_eq k q ≡ false → is_lt (key_cmp q k) ≡ true
over q k b differs = elim (is_lt (key_cmp q k)) as (λ t. is_lt (key_cmp q k) ≡ t → t ≡ true) [
  | true ↦ λ e. refl
  | false ↦ λ e. absurd (different (sym differs ∙ key_ties k q ∙ ap is_eq (ap (λ (x : KeyBytes). key_cmp k x) (neither_below q k e b) ∙ cmp_self k)))
] refl
  where
    different : false ≡ true → ⊥
    different e = cc

module _ {X : Type 0} where
  -- what a test of an entry says of the entry that was read
  pub read_less : (q : KeyBytes) (x y : KeyBytes × X) (r b : Bool) → x ≡ y → r ≡ is_lt (key_cmp y.0 q) → r ≡ b → is_lt (key_cmp x.0 q) ≡ b
  read_less q x y r b is answers taken = ap (λ (z : KeyBytes × X). is_lt (key_cmp z.0 q)) is ∙ sym answers ∙ taken

  pub read_equal : (q : KeyBytes) (x y : KeyBytes × X) (r b : Bool) → x ≡ y → r ≡ key_eq y.0 q → r ≡ b → key_eq x.0 q ≡ b
  read_equal q x y r b is answers taken = ap (λ (z : KeyBytes × X). key_eq z.0 q) is ∙ sym answers ∙ taken

  -- in a list in order the first key is below each later one
  pub below_first : (k : KeyBytes) (es : List (KeyBytes × X)) (i : ℕ) (x : KeyBytes × X) → T (below_all key_cmp k es) → i < length es → x ≡ get_or es i x → is_lt (key_cmp k x.0) ≡ true
  below_first k [] i x h lt is = absurd (omega arith)
  below_first k (e ∷ es) zero x h lt is = ap (λ (y : KeyBytes × X). is_lt (key_cmp k y.0)) is ∙ (both _ _ h).0
  below_first k (e ∷ es) (suc i) x h lt is = below_first k es i x (true_holds _ (both _ _ h).1) (omega arith) is

  -- a place is past each entry with a smaller key
  pub place_past : (q : KeyBytes) (es : List (KeyBytes × X)) (i : ℕ) (x : KeyBytes × X) → T (is_sorted key_cmp es) → i < length es → x ≡ get_or es i x → is_lt (key_cmp x.0 q) ≡ true → i < place_of q es
  place_past q [] i x h lt is less = absurd (omega arith)
  place_past q (e ∷ es) zero x h lt is less =
      let here : is_lt (key_cmp e.0 q) ≡ true = ap (λ (y : KeyBytes × X). is_lt (key_cmp y.0 q)) (sym is) ∙ less in
      rw here (omega arith)
  place_past q (e ∷ es) (suc i) x h lt is less =
      let sorted = both _ _ h in
      let first : is_lt (key_cmp e.0 x.0) ≡ true = below_first e.0 es i x (true_holds _ sorted.0) (omega arith) is in
      let here : is_lt (key_cmp e.0 q) ≡ true = below_trans e.0 x.0 q first less in
      let more = place_past q es i x (true_holds _ sorted.1) (omega arith) is less in
      rw here (omega arith)

  -- and not past one whose key isn't smaller
  pub place_upto : (q : KeyBytes) (es : List (KeyBytes × X)) (i : ℕ) (x : KeyBytes × X) → i < length es → x ≡ get_or es i x → is_lt (key_cmp x.0 q) ≡ false → place_of q es ≤ i
  place_upto q [] i x lt is not = absurd (omega arith)
  place_upto q (e ∷ es) zero x lt is not =
      let here : is_lt (key_cmp e.0 q) ≡ false = ap (λ (y : KeyBytes × X). is_lt (key_cmp y.0 q)) (sym is) ∙ not in
      rw here (omega arith)
  place_upto q (e ∷ es) (suc i) x lt is not =
      let more = place_upto q es i x (omega arith) is not in
      elim (is_lt (key_cmp e.0 q)) as (λ b. cond b (place_of q es + 1) 0 ≤ suc i) [ true ↦ omega arith | false ↦ omega arith ]

  pub place_within : (q : KeyBytes) (es : List (KeyBytes × X)) → place_of q es ≤ length es
  place_within q [] = omega arith
  place_within q (e ∷ es) =
      let more = place_within q es in
      elim (is_lt (key_cmp e.0 q)) as (λ b. cond b (place_of q es + 1) 0 ≤ suc (length es)) [ true ↦ omega arith | false ↦ omega arith ]

  -- the keys strictly rise
  pub rises : (es : List (KeyBytes × X)) (i j : ℕ) (x y : KeyBytes × X) → T (is_sorted key_cmp es) → i < j → j < length es → x ≡ get_or es i x → y ≡ get_or es j y → is_lt (key_cmp x.0 y.0) ≡ true
  rises [] i j x y h lt in_list is is_too = absurd (omega arith)
  rises (e ∷ es) i zero x y h lt in_list is is_too = absurd (omega arith)
  rises (e ∷ es) zero (suc j) x y h lt in_list is is_too = ap (λ (z : KeyBytes × X). is_lt (key_cmp z.0 y.0)) is ∙ below_first e.0 es j y (true_holds _ (both _ _ h).0) (omega arith) is_too
  rises (e ∷ es) (suc i) (suc j) x y h lt in_list is is_too = rises es i j x y (true_holds _ (both _ _ h).1) (omega arith) (omega arith) is is_too

  -- each entry below a place has a smaller key
  pub place_before : (q : KeyBytes) (es : List (KeyBytes × X)) (i : ℕ) (x : KeyBytes × X) → i < place_of q es → x ≡ get_or es i x → is_lt (key_cmp x.0 q) ≡ true
  place_before q [] i x lt is = absurd (omega arith)
  place_before q (e ∷ es) i x lt is = elim (is_lt (key_cmp e.0 q)) as (λ b. is_lt (key_cmp e.0 q) ≡ b → i < cond b (place_of q es + 1) 0 → is_lt (key_cmp x.0 q) ≡ true) [
    | true ↦ λ b lt. at i (λ j lt. place_before q es j x lt) b lt is
    | false ↦ λ b lt. absurd (omega arith)
  ] refl lt
    where
      at : (i : ℕ) → ((j : ℕ) → j < place_of q es → x ≡ get_or es j x → is_lt (key_cmp x.0 q) ≡ true) → is_lt (key_cmp e.0 q) ≡ true → i < place_of q es + 1 → x ≡ get_or (e ∷ es) i x → is_lt (key_cmp x.0 q) ≡ true
      at zero more b lt is = ap (λ (y : KeyBytes × X). is_lt (key_cmp y.0 q)) is ∙ b
      at (suc j) more b lt is = more j (omega arith) is

  -- a look-up finds the entry at the place
  pub find_there : (q : KeyBytes) (es : List (KeyBytes × X)) (x : KeyBytes × X) → place_of q es < length es → x ≡ get_or es (place_of q es) x → key_eq x.0 q ≡ true → find key_cmp q es ≡ Some x.1
  find_there q [] x lt is same = absurd (omega arith)
  find_there q (e ∷ es) x lt is same = elim (is_lt (key_cmp e.0 q)) as (λ b. is_lt (key_cmp e.0 q) ≡ b → cond b (place_of q es + 1) 0 < suc (length es) → x ≡ get_or (e ∷ es) (cond b (place_of q es + 1) 0) x → find key_cmp q (e ∷ es) ≡ Some x.1) [
    | true ↦ λ b lt is.
        let passed : is_eq (key_cmp q e.0) ≡ false = apart q e.0 b in
        ap (λ t. cond t (Some e.1) (find key_cmp q es)) passed ∙ find_there q es x (omega arith) (is ∙ ap (λ n. get_or (e ∷ es) n x) (add-one (place_of q es))) same
    | false ↦ λ b lt is.
        let here : is_eq (key_cmp q e.0) ≡ true = tie q e.0 (ap (λ (y : KeyBytes × X). key_eq y.0 q) (sym is) ∙ same) in
        ap (λ t. cond t (Some e.1) (find key_cmp q es)) here ∙ ap (λ (y : KeyBytes × X). Some y.1) (sym is)
  ] refl lt is
    where
      apart : (q k : KeyBytes) → is_lt (key_cmp k q) ≡ true → is_eq (key_cmp q k) ≡ false
      apart q k b = not_tied q k b

      tie : (q k : KeyBytes) → key_eq k q ≡ true → is_eq (key_cmp q k) ≡ true
      tie q k e = ap is_eq (ap (key_cmp q) (sym (eq_is k q e)) ∙ cmp_self q) ∙ refl
        where
          eq_is : (k q : KeyBytes) → key_eq k q ≡ true → q ≡ k
          eq_is k q e = sym (same_keys k q e)

  -- and nothing where there is no such entry
  pub find_missing : (q : KeyBytes) (es : List (KeyBytes × X)) → T (is_sorted key_cmp es) → (place_of q es < length es → (x : KeyBytes × X) × (x ≡ get_or es (place_of q es) x) × (key_eq x.0 q ≡ false)) → find key_cmp q es ≡ None
  find_missing q [] h other = refl
  find_missing q (e ∷ es) h other = elim (is_lt (key_cmp e.0 q)) as (λ b. is_lt (key_cmp e.0 q) ≡ b → (cond b (place_of q es + 1) 0 < suc (length es) → (x : KeyBytes × X) × (x ≡ get_or (e ∷ es) (cond b (place_of q es + 1) 0) x) × (key_eq x.0 q ≡ false)) → find key_cmp q (e ∷ es) ≡ None) [
    | true ↦ λ b other.
        ap (λ t. cond t (Some e.1) (find key_cmp q es)) (not_tied q e.0 b)
        ∙ find_missing q es (true_holds _ (both _ _ h).1) (λ lt. let there = other (omega arith) in (there.0, there.1 ∙ ap (λ n. get_or (e ∷ es) n there.0) (add-one (place_of q es)), there.2))
    | false ↦ λ b other.
        let there = other (omega arith) in
        let differs : key_eq e.0 q ≡ false = ap (λ (y : KeyBytes × X). key_eq y.0 q) (sym there.1) ∙ there.2 in
        let above : is_lt (key_cmp q e.0) ≡ true = over q e.0 b differs in
        ap (λ t. cond t (Some e.1) (find key_cmp q es)) (less_no_tie q e.0 above) ∙ find_above q e.0 es above (true_holds _ (both _ _ h).0)
  ] refl other
    where
      find_above : (q k : KeyBytes) (es : List (KeyBytes × X)) → is_lt (key_cmp q k) ≡ true → T (below_all key_cmp k es) → find key_cmp q es ≡ None
      find_above q k [] above h = refl
      find_above q k (e ∷ es) above h =
          ap (λ t. cond t (Some e.1) (find key_cmp q es)) (less_no_tie q e.0 (below_trans q k e.0 above (both _ _ h).0)) ∙ find_above q k es above (true_holds _ (both _ _ h).1)

-- a key stands at its place
pub place_there : {X : Type 0} (q : KeyBytes) (es : List (KeyBytes × X)) (n : ℕ) (x : KeyBytes × X) → T (is_sorted key_cmp es) → n < length es → x ≡ get_or es n x → key_eq x.0 q ≡ true → n ≡ place_of q es
place_there {X} q es n x sorted lt is same =
    let tie : x.0 ≡ q = same_keys x.0 q same in
    let upto = place_upto q es n x lt is (ap (λ (k : KeyBytes). is_lt (key_cmp k q)) tie ∙ below_self q) in
    elim (cases_lt (place_of q es) n) [
      | inl less ↦
          let at = place_of q es in
          let y = get_or es at x in
          let read : y ≡ get_or es at y = get_or_default es at x y (omega (arith, less, lt)) in
          let below : is_lt (key_cmp y.0 q) ≡ true = ap (λ (k : KeyBytes). is_lt (key_cmp y.0 k)) (sym tie) ∙ rises es at n y x sorted less lt read is in
          let past = place_past q es at y sorted (omega (arith, less, lt)) read below in
          absurd (omega (arith, past))
      | inr not ↦ omega (arith, upto, not)
    ]

-- what is at place n of a list, if anything is, isn't at the key
abbrev pub Misses : {X : Type 0} → KeyBytes → List (KeyBytes × X) → ℕ → Type 0
Misses {X} q es n = n < length es → (x : KeyBytes × X) × (x ≡ get_or es n x) × (key_eq x.0 q ≡ false)

-- the same, with the place as the code has it
pub find_there_at : {X : Type 0} (q : KeyBytes) (es : List (KeyBytes × X)) (n : ℕ) (x y : KeyBytes × X) → n ≡ place_of q es → n < length es → x ≡ get_or es n x → key_eq x.0 q ≡ true → Some (get_or es n y).1 ≡ find key_cmp q es
find_there_at {X} q es n x y at lt is same = ap (λ (z : KeyBytes × X). Some z.1) (get_or_default es n y x lt ∙ sym is) ∙ sym (find_there q es x (omega arith) (is ∙ ap (λ m. get_or es m x) at) same)

pub find_missing_at : {X : Type 0} (q : KeyBytes) (es : List (KeyBytes × X)) (n : ℕ) → n ≡ place_of q es → T (is_sorted key_cmp es) → Misses q es n → None ≡ find key_cmp q es
find_missing_at {X} q es n at sorted other = sym (find_missing q es sorted (subst (Misses {X = X} q es) at other))

-- the entry that is read at a place, at any default
pub read_at : {X : Type 0} (es : List (KeyBytes × X)) (n : ℕ) (d : KeyBytes × X) → n < length es → get_or es n d ≡ get_or es n (get_or es n d)
read_at es n d lt = get_or_default es n d (get_or es n d) lt

-- a count among entries of a range, by what the entries and the key were read from
pub ends_in : {X : Type 0} (p : KeyBytes → KeyBytes × X → Bool) (es fs : List (KeyBytes × X)) (k q : KeyBytes) (i j n : ℕ) → es ≡ fs → k ≡ q →
    EndsAt (p k) (slice_range es i j) n → EndsAt (p q) (slice_range fs i j) n
ends_in p es fs k q i j n same is ends =
    subst (λ l. EndsAt (p q) (slice_range l i j) n) same (subst (λ x. EndsAt (p x) (slice_range es i j) n) is ends)

-- what a comparison of bytes says of the entry whose key they are
pub reads_key : {X : Type 0} (q : KeyBytes) (x : KeyBytes × X) (k p : KeyBytes) (r b : Bool) → k ≡ x.0 → p ≡ q → r ≡ key_eq k p → r ≡ b → key_eq x.0 q ≡ b
reads_key q x k p r b key_is is answers taken = ap (λ (y : KeyBytes). key_eq y q) (sym key_is) ∙ ap (key_eq k) (sym is) ∙ sym answers ∙ taken

-- whether an entry's key is below another
abbrev pub is_before : {X : Type 0} → KeyBytes → KeyBytes × X → Bool
is_before q e = is_lt (key_cmp e.0 q)

-- the entries below a key come first
pub parted : {X : Type 0} (q : KeyBytes) (es : List (KeyBytes × X)) → T (is_sorted key_cmp es) → IsPartitionedBy (is_before q) es
parted q es sorted i j d le lt less =
    let past = place_past q es j (get_or es j d) sorted lt (get_or_default es j d (get_or es j d) lt) less in
    place_before q es i (get_or es i d) (omega (arith, le, past)) (get_or_default es i d (get_or es i d) (omega (arith, le, lt)))

-- and the place is where they end
pub parts_at : {X : Type 0} (q : KeyBytes) (es : List (KeyBytes × X)) (n : ℕ) → T (is_sorted key_cmp es) → n ≤ length es →
    IsPartitionPoint (λ e. is_before q e ≡ true) (λ e. is_before q e ≡ false) es n → n ≡ place_of q es
parts_at q [] n sorted upto parts = omega arith
parts_at {X} q (e ∷ es) n sorted upto parts =
    let all = e ∷ es in
    let within = place_within q all in
    let read : (i : ℕ) → i < length all → get_or all i e ≡ get_or all i (get_or all i e) = λ i lt. get_or_default all i e (get_or all i e) lt in
    elim (cases_lt n (place_of q all)) [
      | inl lt ↦ absurd (different (sym (place_before q all n (get_or all n e) lt (read n (omega arith))) ∙ parts.1 n e (omega arith) (omega arith)))
      | inr ge ↦ elim (cases_lt (place_of q all) n) [
        | inl lt ↦
            let at = place_of q all in
            let past = place_past q all at (get_or all at e) sorted (omega arith) (read at (omega arith)) (parts.0 at e (omega arith) lt) in
            absurd (omega (arith, past))
        | inr le ↦ omega arith
      ]
    ]
  where
    different : true ≡ false → ⊥
    different e = cc
