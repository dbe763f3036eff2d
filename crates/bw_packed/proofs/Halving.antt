-- A search by halves for the end of the elements that pass a test, in a list in which these come first.
use Rattle.std.proofs.Common.{◌≡◌, ℕ, ◌+◌, ◌-◌, ◌<◌, ◌≤◌, Bool, true, false, List, length, get_or, slice_range, refl, sym, ap, ◌∙◌, arith}
use Rattle.std.specs.List.{AllWithin}
use Rattle.std.specs.List.Sorted.{IsPartitionedBy}
use Rattle.bw_packed.specs.Search.{EndsAt}
use Rattle.bw_packed.proofs.RunLemmas.{length_run, run_at}

-- Where the elements that pass come first, their end is at one of `size` elements from `base` on, or right behind these.
pub record IsWithin {X : Type 0} (p : X → Bool) (xs : List X) (base size : ℕ) : Type 0 where
  pub some : 1 ≤ size
  pub inside : base + size ≤ length xs
  pub front : IsPartitionedBy p xs → AllWithin (λ x. p x ≡ true) xs 0 base
  pub behind : IsPartitionedBy p xs → AllWithin (λ x. p x ≡ false) xs (base + size) (length xs)

-- a test's answer of the element at a place
abbrev pub Answers : {X : Type 0} → (X → Bool) → List X → ℕ → Bool → Type 0
Answers {X} p xs i r = (d : X) → r ≡ p (get_or xs i d)

module _ {X : Type 0} (p : X → Bool) where
  -- an element passes where one at or behind it does
  passes_before : (xs : List X) (i j : ℕ) (r : Bool) (d : X) → IsPartitionedBy p xs → i ≤ j → j < length xs → Answers p xs j r → r ≡ true → p (get_or xs i d) ≡ true
  passes_before xs i j r d parted le lt answers passes = parted i j d le lt (sym (answers d) ∙ passes)

  -- and doesn't where one at or before it doesn't
  fails_behind : (xs : List X) (i j : ℕ) (r : Bool) (d : X) → IsPartitionedBy p xs → i ≤ j → j < length xs → Answers p xs i r → r ≡ false → p (get_or xs j d) ≡ false
  fails_behind xs i j r d parted le lt answers fails = elim (p (get_or xs j d)) as (λ b. p (get_or xs j d) ≡ b → b ≡ false) [
    | true ↦ λ e. sym (parted i j d le lt e) ∙ sym (answers d) ∙ fails
    | false ↦ λ e. refl
  ] refl

  pub goes_on : (xs : List X) (base size half : ℕ) (r : Bool) → IsWithin p xs base size → 1 ≤ half → half + half ≤ size → Answers p xs (base + half) r → r ≡ true →
      IsWithin p xs (base + half) (size - half)
  goes_on xs base size half r within some le answers passes = record {
    some = omega arith;
    inside = omega (arith, within.inside);
    front = λ parted k d lower upper. passes_before xs k (base + half) r d parted (omega arith) (omega (arith, within.inside)) answers passes;
    behind = λ parted k d lower upper. within.behind parted k d (omega arith) upper;
  }

  pub stays : (xs : List X) (base size half : ℕ) (r : Bool) → IsWithin p xs base size → 1 ≤ half → half + half ≤ size → Answers p xs (base + half) r → r ≡ false →
      IsWithin p xs base (size - half)
  stays xs base size half r within some le answers fails = record {
    some = omega arith;
    inside = omega (arith, within.inside);
    front = within.front;
    behind = λ parted k d lower upper. fails_behind xs (base + half) k r d parted (omega arith) upper answers fails;
  }

  -- at one element that is left, the test of it decides
  ends_behind : (xs : List X) (base size : ℕ) (r : Bool) → IsWithin p xs base size → size ≤ 1 → Answers p xs base r → r ≡ true → EndsAt p xs (base + 1)
  ends_behind xs base size r within last answers passes parted = (
    (λ k d lower upper. passes_before xs k base r d parted (omega (arith, upper)) (omega (arith, within.some, within.inside)) answers passes),
    (λ k d lower upper. within.behind parted k d (omega (arith, lower, last)) upper),
  )

  ends_there : (xs : List X) (base size : ℕ) (r : Bool) → IsWithin p xs base size → Answers p xs base r → r ≡ false → EndsAt p xs base
  ends_there xs base size r within answers fails parted = (within.front parted, (λ k d lower upper. fails_behind xs base k r d parted lower upper answers fails))

  -- what is answered of an element of a list is answered of it in a run
  pub answers_in_run : (xs : List X) (i j n : ℕ) (r : Bool) → n < j - i → Answers p xs (i + n) r → Answers p (slice_range xs i j) n r
  answers_in_run xs i j n r lt answers d = answers d ∙ ap p (sym (run_at xs i j n d lt))

  -- of a run, by what is answered of the list
  last_there : (xs : List X) (i j base size : ℕ) (r : Bool) → IsWithin p (slice_range xs i j) base size → i ≤ j → j ≤ length xs → Answers p xs (i + base) r →
      Answers p (slice_range xs i j) base r
  last_there xs i j base size r within rising inside answers =
      answers_in_run xs i j base r (omega (arith, within.some, within.inside, length_run xs i j rising inside)) answers

  pub run_ends_behind : (xs : List X) (i j base size : ℕ) (r : Bool) → IsWithin p (slice_range xs i j) base size → size ≤ 1 → i ≤ j → j ≤ length xs → Answers p xs (i + base) r → r ≡ true →
      EndsAt p (slice_range xs i j) (base + 1)
  run_ends_behind xs i j base size r within last rising inside answers passes =
      ends_behind (slice_range xs i j) base size r within last (last_there xs i j base size r within rising inside answers) passes

  pub run_ends_there : (xs : List X) (i j base size : ℕ) (r : Bool) → IsWithin p (slice_range xs i j) base size → i ≤ j → j ≤ length xs → Answers p xs (i + base) r → r ≡ false →
      EndsAt p (slice_range xs i j) base
  run_ends_there xs i j base size r within rising inside answers fails =
      ends_there (slice_range xs i j) base size r within (last_there xs i j base size r within rising inside answers) fails
