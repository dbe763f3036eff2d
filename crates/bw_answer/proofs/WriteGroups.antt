-- Writes that are sorted by key, and the part of one key.
use Rattle.std.proofs.Common.{◌≡◌, ℕ, zero, suc, ◌+◌, ◌-◌, ◌<◌, ◌≤◌, Bool, true, false, cond, not, ◌&&◌, List, [], ◌∷◌, length, take, drop, map, get_or, refl, sym, ap, ◌∙◌, arith, length-drop, Ordering}
use Rattle.std.specs.Prelude.{filter}
use Rattle.std.specs.Borrow.{Bor}
use Rattle.std.specs.List.{AllWithin}
use Rattle.std.specs.Ordering.{is_lt, is_le, ordering_reverse}
use Rattle.std.specs.List.Sorted.{IsSortedBy, IsPartitionedBy, IsPartitionPoint}
use Rattle.std.specs.declared.cmp.Ordering.TheVariants.{Less, Equal, Greater}
use Rattle.std.proofs.lemmas.List.{get_or-map, length-map}
use Rattle.std.proofs.lemmas.List.Sorted.{sorted_far}
use Rattle.bw_key.specs.Order.{KeyBytes, key_cmp, key_cmp_total, key_eq}
use Rattle.bw_page.proofs.KeyLemmas.{upto_below, upto_trans}
use Rattle.bw_delta.specs.Writes.{WriteView}
use Rattle.bw_delta.specs.History.{pointed_to}
use Rattle.bw_delta.specs.Batches.{writes_to}
use Rattle.bw_answer.specs.WriteGroups.{IsFirstOf}
use Rattle.bw_group.proofs.Groups.{filter_seen, ranks, ties_are}
use Rattle.bw_group.proofs.ListParts.{in_rest, seen_rest}

module _ {X : Type 0} (p : X → Bool) where
  -- where the first pass and the others don't
  pub filter_front : (n : ℕ) (xs : List X) → ((i : ℕ) (d : X) → i < n → i < length xs → p (get_or xs i d) ≡ true) → ((i : ℕ) (d : X) → n ≤ i → i < length xs → p (get_or xs i d) ≡ false) → filter p xs ≡ take n xs
  filter_front zero [] inside after = refl
  filter_front (suc n) [] inside after = refl
  filter_front zero (x ∷ xs) inside after =
      ap (λ b. cond b (x ∷ filter p xs) (filter p xs)) (after 0 x (omega arith) (omega arith))
      ∙ filter_front zero xs (λ i d lt lt'. absurd (omega (arith, lt))) (λ i d le lt. after (suc i) d (omega arith) (omega (arith, lt)))
      ∙ none xs
    where
      none : (xs : List X) → take 0 xs ≡ []
      none xs = refl
  filter_front (suc n) (x ∷ xs) inside after =
      ap (λ b. cond b (x ∷ filter p xs) (filter p xs)) (inside 0 x (omega arith) (omega arith))
      ∙ ap (λ l. x ∷ l) (filter_front n xs (λ i d lt lt'. inside (suc i) d (omega (arith, lt)) (omega (arith, lt'))) (λ i d le lt. after (suc i) d (omega (arith, le)) (omega (arith, lt))))

  -- the first that don't pass
  pub filter_rest : (n : ℕ) (xs : List X) → ((i : ℕ) (d : X) → i < n → i < length xs → p (get_or xs i d) ≡ false) → filter p xs ≡ filter p (drop n xs)
  filter_rest zero xs before = refl
  filter_rest (suc n) [] before = refl
  filter_rest (suc n) (x ∷ xs) before =
      ap (λ b. cond b (x ∷ filter p xs) (filter p xs)) (before 0 x (omega arith) (omega arith))
      ∙ filter_rest n xs (λ i d lt lt'. before (suc i) d (omega (arith, lt)) (omega (arith, lt')))

-- the writes that references point to, sorted by key
abbrev pub IsGrouped : List (Bor WriteView) → Type 0
IsGrouped refs = IsSortedBy (λ v w. is_lt (key_cmp v.key w.key)) (pointed_to refs)

-- sorted references, looked at from a place on
pub sorted_rest : (n : ℕ) (refs : List (Bor WriteView)) → IsGrouped refs → IsGrouped (drop n refs)
sorted_rest n refs grouped k d low up =
    let now = λ (r : Bor WriteView). r.now in
    let size = length-map (drop n refs) now in
    let size' = length-drop n refs in
    let whole = length-map refs now in
    let at = λ (i : ℕ). ap (λ (l : List WriteView). get_or l i d) (seen_rest now n refs) ∙ in_rest (pointed_to refs) n i d in
    ap (λ (w : WriteView). is_lt (key_cmp w.key (get_or (pointed_to (drop n refs)) k d).key)) (at (k + 1))
    ∙ ap (λ (w : WriteView). is_lt (key_cmp (get_or (pointed_to refs) (n + (k + 1)) d).key w.key)) (at k)
    ∙ ap (λ (i : ℕ). is_lt (key_cmp (get_or (pointed_to refs) i d).key (get_or (pointed_to refs) (n + k) d).key)) (next n k)
    ∙ grouped (n + k) d (omega arith) (omega (arith, up, size, size', whole))
  where
    next : (n k : ℕ) → n + (k + 1) ≡ n + k + 1
    next n k = omega arith

-- of two sorted references the later one isn't below the earlier one
in_turn : (refs : List (Bor WriteView)) → IsGrouped refs → (i j : ℕ) (d : Bor WriteView) → i ≤ j → j < length refs → is_lt (key_cmp (get_or refs j d).now.key (get_or refs i d).now.key) ≡ false
in_turn refs grouped i j d le lt =
    let now = λ (r : Bor WriteView). r.now in
    let size = length-map refs now in
    let far = sorted_far (λ (v w : WriteView). is_lt (key_cmp v.key w.key)) (ranks (λ (w : WriteView). w.key)) (pointed_to refs) grouped i j d.now le (omega (arith, lt, size)) in
    let first = get_or-map now refs i d d.now (omega (arith, le, lt)) in
    let second = get_or-map now refs j d d.now lt in
    sym (ap (λ (w : WriteView). is_lt (key_cmp w.key (get_or (pointed_to refs) i d.now).key)) second ∙ ap (λ (w : WriteView). is_lt (key_cmp (get_or refs j d).now.key w.key)) first)
    ∙ far

pub below_parted : (key : KeyBytes) (refs : List (Bor WriteView)) → IsGrouped refs → IsPartitionedBy (λ (r : Bor WriteView). is_lt (key_cmp r.now.key key)) refs
below_parted key refs grouped i j d le lt passes = upto_below (get_or refs i d).now.key (get_or refs j d).now.key key (in_turn refs grouped i j d le lt) passes

abbrev pub is_upto : KeyBytes → Bor WriteView → Bool
is_upto key r = is_le (key_cmp r.now.key key)

upto_is : (a b : KeyBytes) → is_le (key_cmp a b) ≡ not (is_lt (key_cmp b a))
upto_is a b = by (key_cmp a b) (key_cmp b a) (key_cmp_total.antisymm b a)
  where
    by : (r s : Ordering) → s ≡ ordering_reverse r → is_le r ≡ not (is_lt s)
    by Less s e = sym (ap (λ o. not (is_lt o)) e)
    by Equal s e = sym (ap (λ o. not (is_lt o)) e)
    by Greater s e = sym (ap (λ o. not (is_lt o)) e)

pub upto_parted : (key : KeyBytes) (refs : List (Bor WriteView)) → IsGrouped refs → IsPartitionedBy (is_upto key) refs
upto_parted key refs grouped i j d le lt passes =
    let x = (get_or refs i d).now.key in
    let y = (get_or refs j d).now.key in
    upto_is x key ∙ ap not (upto_trans x y key (in_turn refs grouped i j d le lt) (opened (is_lt (key_cmp key y)) (sym (upto_is y key) ∙ passes)))
  where
    opened : (b : Bool) → not b ≡ true → b ≡ false
    opened true e = sym e
    opened false e = refl

-- the references between the places where the key begins and where it ends
pub one_group : (key : KeyBytes) (refs : List (Bor WriteView)) (n m : ℕ) → n ≤ length refs →
    IsPartitionPoint (λ (r : Bor WriteView). is_lt (key_cmp r.now.key key) ≡ true) (λ (r : Bor WriteView). is_lt (key_cmp r.now.key key) ≡ false) refs n →
    IsPartitionPoint (λ (r : Bor WriteView). is_upto key r ≡ true) (λ (r : Bor WriteView). is_upto key r ≡ false) (drop n refs) m →
    pointed_to (take m (drop n refs)) ≡ writes_to key (pointed_to refs)
one_group key refs n m le first second =
    let now = λ (r : Bor WriteView). r.now in
    let at = λ (r : Bor WriteView). key_eq key r.now.key in
    let size = length-drop n refs in
    let before = λ (i : ℕ) (d : Bor WriteView) (lt : i < n) (lt' : i < length refs). not_below key (get_or refs i d).now.key (first.0 i d (omega arith) lt) in
    let inside = λ (i : ℕ) (d : Bor WriteView) (lt : i < m) (lt' : i < length (drop n refs)).
    equal key (get_or (drop n refs) i d).now.key
    (ap (λ (r : Bor WriteView). is_lt (key_cmp r.now.key key)) (in_rest refs n i d) ∙ first.1 (n + i) d (omega arith) (omega (arith, lt', size)))
    (sym (upto_is (get_or (drop n refs) i d).now.key key) ∙ second.0 i d (omega arith) lt) in
    let after = λ (i : ℕ) (d : Bor WriteView) (ge : m ≤ i) (lt' : i < length (drop n refs)). past key (get_or (drop n refs) i d).now.key (sym (upto_is (get_or (drop n refs) i d).now.key key) ∙ second.1 i d ge lt') in
    sym (filter_seen now (λ (w : WriteView). key_eq key w.key) refs ∙ ap (map now) (filter_rest at n refs before ∙ filter_front at m (drop n refs) inside after))
  where
    different : true ≡ false → ⊥
    different e = cc

    not_below : (key k : KeyBytes) → is_lt (key_cmp k key) ≡ true → key_eq key k ≡ false
    not_below key k less = sym (ties_are key k) ∙ ap (λ b. not (is_lt (key_cmp key k)) && not b) less ∙ closed (not (is_lt (key_cmp key k)))
      where
        closed : (b : Bool) → b && false ≡ false
        closed true = refl
        closed false = refl

    equal : (key k : KeyBytes) → is_lt (key_cmp k key) ≡ false → not (is_lt (key_cmp key k)) ≡ true → key_eq key k ≡ true
    equal key k more upto = sym (ties_are key k) ∙ ap (λ b. b && not (is_lt (key_cmp k key))) upto ∙ ap not more

    past : (key k : KeyBytes) → not (is_lt (key_cmp key k)) ≡ false → key_eq key k ≡ false
    past key k upto = sym (ties_are key k) ∙ ap (λ b. b && not (is_lt (key_cmp k key))) upto

abbrev is_below_key : KeyBytes → Bor WriteView → Bool
is_below_key key r = is_lt (key_cmp r.now.key key)

no_both : {b : Bool} → b ≡ true → b ≡ false → ⊥
no_both e f = different (sym e ∙ f)
  where
    different : true ≡ false → ⊥
    different e = cc

-- the writes before a place are of lower keys where the last of them is
pub before_place : (key : KeyBytes) (refs : List (Bor WriteView)) (n : ℕ) → IsGrouped refs → n ≤ length refs → (0 < n → (d : Bor WriteView) → is_below_key key (get_or refs (n - 1) d) ≡ true) →
    AllWithin (λ r. is_below_key key r ≡ true) refs 0 n
before_place key refs n grouped le last k d from lt = below_parted key refs grouped k (n - 1) d (omega (arith, lt)) (omega (arith, lt, le)) (last (omega (arith, lt)) d)

-- the first write that isn't of a lower key
pub first_here : (key : KeyBytes) (refs : List (Bor WriteView)) (n : ℕ) → IsGrouped refs → AllWithin (λ r. is_below_key key r ≡ true) refs 0 n → (n < length refs → (d : Bor WriteView) → is_below_key key (get_or refs n d) ≡ false) →
    IsFirstOf key refs n
first_here key refs n grouped before here = (
  before,
  λ k d le lt. elim (is_below_key key (get_or refs k d)) as (λ b. is_below_key key (get_or refs k d) ≡ b → b ≡ false) [
    | true ↦ λ below. absurd (no_both (below_parted key refs grouped n k d le lt below) (here (omega (arith, le, lt)) d))
    | false ↦ λ other. refl
  ] refl,
)

-- the writes between two places, where the key's writes begin and where those of higher keys do
pub group_between : (key : KeyBytes) (refs : List (Bor WriteView)) (n m : ℕ) → IsGrouped refs → n ≤ m → m ≤ length refs → IsFirstOf key refs n → AllWithin (λ r. is_lt (key_cmp key r.now.key) ≡ false) refs n m →
    (m < length refs → (d : Bor WriteView) → is_lt (key_cmp key (get_or refs m d).now.key) ≡ true) → pointed_to (take (m - n) (drop n refs)) ≡ writes_to key (pointed_to refs)
group_between key refs n m grouped le bound first upto behind =
    let size = length-drop n refs in
    let inside = λ (i : ℕ) (d : Bor WriteView) (from : 0 ≤ i) (lt : i < m - n).
    ap (λ (r : Bor WriteView). is_upto key r) (in_rest refs n i d) ∙ upto_is (get_or refs (n + i) d).now.key key ∙ ap not (upto (n + i) d (omega arith) (omega (arith, lt))) in
    let after = λ (i : ℕ) (d : Bor WriteView) (from : m - n ≤ i) (lt : i < length (drop n refs)).
    ap (λ (r : Bor WriteView). is_upto key r) (in_rest refs n i d) ∙ past (n + i) d (omega (arith, from, le)) (omega (arith, lt, size)) in
    one_group key refs n (m - n) (omega (arith, le, bound)) first (inside, after)
  where
    past : (k : ℕ) (d : Bor WriteView) → m ≤ k → k < length refs → is_upto key (get_or refs k d) ≡ false
    past k d le lt = elim (is_upto key (get_or refs k d)) as (λ b. is_upto key (get_or refs k d) ≡ b → b ≡ false) [
      | true ↦ λ upto. absurd (no_both (upto_parted key refs grouped m k d le lt upto) (upto_is (get_or refs m d).now.key key ∙ ap not (behind (omega (arith, le, lt)) d)))
      | false ↦ λ other. refl
    ] refl
