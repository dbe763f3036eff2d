-- A key that stands for what is sought on all pages: the key itself, or of all ends and separators below the end the
-- greatest.
use Rattle.std.proofs.Common.{◌≡◌, ℕ, zero, suc, Bool, true, false, ◌&&◌, cond, not, T, List, [], ◌∷◌, ◌++◌, map, Option, Some, None, refl, sym, ap, ◌∙◌, subst, arith}
use Rattle.std.specs.Prelude.{flat_map}
use Rattle.std.specs.List.{Contains, AllByRecursion}
use Rattle.std.specs.Option.{option_copied}
use Rattle.std.specs.Ordering.{is_lt}
use Rattle.bw_key.specs.Order.{KeyBytes, key_cmp}
use Rattle.bw_model.specs.Contents.{is_below_end}
use Rattle.bw_page.specs.Inners.{IsUpto, is_upto}
use Rattle.bw_page.proofs.Truths.{holds, true_holds, holds_not}
use Rattle.bw_page.proofs.KeyLemmas.{below_back, below_self, upto_trans}
use Rattle.bw_level.specs.declared.target.Target.{Target}
use Rattle.bw_level.specs.declared.target.Target.TheVariants.{Home, Before}
use Rattle.bw_level.specs.Slots.{Slot, Free, Gone, Live, children_of, slot_at}
use Rattle.bw_level.specs.Targets.{StandsFor, StandsOn, StandsOnAll, lies_from}
use Rattle.bw_level.proofs.TargetLemmas.{lies_before}

not_there : (a : Bool) → a ≡ false → T (not a)
not_there a e = subst (λ b. T (not b)) (sym e) tt

different : false ≡ true → ⊥
different e = cc

-- the greatest key below the end
greatest : Option KeyBytes → List KeyBytes → KeyBytes
greatest end [] = []
greatest end (k ∷ ks) = cond (is_below_end end k && is_lt (key_cmp (greatest end ks) k)) k (greatest end ks)

-- a page's end and separators
marks : Option KeyBytes → List (KeyBytes × ℕ) → List KeyBytes
marks None cs = map (λ c. c.0) cs
marks (Some k) cs = k ∷ map (λ c. c.0) cs

marks_of : Slot → List KeyBytes
marks_of (Live s) = marks s.high (children_of s.body)
marks_of (Gone l) = []
marks_of Free = []

pub mark : List Slot → Target → KeyBytes
mark slots (Home key) = key.now
mark slots (Before end) = greatest (option_copied end) (flat_map marks_of slots)

-- below the end, a key isn't above this one
abbrev IsLast : Option KeyBytes → KeyBytes → KeyBytes → Type 0
IsLast end key k = T (is_below_end end k) → IsUpto k key

module _ (end : Option KeyBytes) where
  module _ (starts : T (is_below_end end [])) where
    greatest_below : (ks : List KeyBytes) → T (is_below_end end (greatest end ks))
    unfolding greatest
    greatest_below [] = starts
    greatest_below (k ∷ ks) = by (is_below_end end k) (is_lt (key_cmp (greatest end ks) k)) refl (greatest_below ks)
      where
        by : (a b : Bool) → is_below_end end k ≡ a → T (is_below_end end (greatest end ks)) → T (is_below_end end (cond (a && b) k (greatest end ks)))
        by true true e rest = true_holds _ e
        by true false e rest = rest
        by false b e rest = rest

  raised : (key more : KeyBytes) (ks : List KeyBytes) → is_lt (key_cmp more key) ≡ false → AllByRecursion (IsLast end key) ks → AllByRecursion (IsLast end more) ks
  raised key more [] upto all = tt
  raised key more (k ∷ ks) upto all = ((λ below. not_there _ (upto_trans k key more (holds_not _ (all.0 below)) upto)), raised key more ks upto all.1)

  greatest_last : (ks : List KeyBytes) → AllByRecursion (IsLast end (greatest end ks)) ks
  unfolding greatest
  greatest_last [] = tt
  greatest_last (k ∷ ks) = by (is_below_end end k) (is_lt (key_cmp (greatest end ks) k)) refl refl (greatest_last ks)
    where
      by : (a b : Bool) → is_below_end end k ≡ a → is_lt (key_cmp (greatest end ks) k) ≡ b → AllByRecursion (IsLast end (greatest end ks)) ks → AllByRecursion (IsLast end (cond (a && b) k (greatest end ks))) (k ∷ ks)
      by true true e above rest = ((λ below. not_there _ (below_self k)), raised (greatest end ks) k ks (below_back (greatest end ks) k above) rest)
      by true false e above rest = ((λ below. not_there _ above), rest)
      by false b e above rest = ((λ below. absurd (different (sym e ∙ holds _ below))), rest)

  module _ (key : KeyBytes) where
    last_front : (xs ys : List KeyBytes) → AllByRecursion (IsLast end key) (xs ++ ys) → AllByRecursion (IsLast end key) xs
    last_front [] ys all = tt
    last_front (x ∷ xs) ys all = (all.0, last_front xs ys all.1)

    last_back : (xs ys : List KeyBytes) → AllByRecursion (IsLast end key) (xs ++ ys) → AllByRecursion (IsLast end key) ys
    last_back [] ys all = all
    last_back (x ∷ xs) ys all = last_back xs ys all.1

    last_child : (cs : List (KeyBytes × ℕ)) (c : KeyBytes × ℕ) → Contains cs c → AllByRecursion (IsLast end key) (map (λ (c : KeyBytes × ℕ). c.0) cs) → IsLast end key c.0
    last_child [] c has all = absurd (omega (arith, has.1))
    last_child (x ∷ xs) c (zero, lt, at) all = subst (λ (y : KeyBytes × ℕ). IsLast end key y.0) at all.0
    last_child (x ∷ xs) c (suc i, lt, at) all = last_child xs c (i, omega (arith, lt), at) all.1

module _ (end : Option KeyBytes) (before : Target) (is : (k : KeyBytes) → lies_from before k ≡ is_below_end end k) (key : KeyBytes) (below : lies_from before key ≡ true) where
  -- a key that isn't below the end is above this one
  agrees : (k : KeyBytes) → IsLast end key k → lies_from before k ≡ is_upto k key
  agrees k last = by (is_below_end end k) (is_lt (key_cmp key k)) refl refl
    where
      by : (a b : Bool) → is_below_end end k ≡ a → is_lt (key_cmp key k) ≡ b → lies_from before k ≡ is_upto k key
      by true b e f = is k ∙ e ∙ sym (holds _ (last (true_holds _ e)))
      by false true e f = is k ∙ e ∙ sym (ap not f)
      by false false e f = absurd (different (sym e ∙ sym (is k) ∙ lies_before before k key below f))

  stands : (high : Option KeyBytes) (cs : List (KeyBytes × ℕ)) → AllByRecursion (IsLast end key) (marks high cs) → StandsFor before key high cs
  unfolding marks
  stands None cs all = record { end = refl; separators = λ c has. agrees c.0 (last_child end key cs c has all) }
  stands (Some h) cs all = record { end = agrees h all.0; separators = λ c has. agrees c.0 (last_child end key cs c has all.1) }

  stands_at : (slots : List Slot) (p : ℕ) → AllByRecursion (IsLast end key) (flat_map marks_of slots) → StandsOn before key (slot_at slots p)
  unfolding marks_of
  stands_at [] p all = tt
  stands_at (s ∷ slots) zero all = here s (last_front end key (marks_of s) (flat_map marks_of slots) all)
    where
      here : (s : Slot) → AllByRecursion (IsLast end key) (marks_of s) → StandsOn before key s
      here Free all = tt
      here (Gone l) all = tt
      here (Live s) all = stands s.high (children_of s.body) all
  stands_at (s ∷ slots) (suc p) all = stands_at slots p (last_back end key (marks_of s) (flat_map marks_of slots) all)

-- a key stands for itself
pub key_stands : (slots : List Slot) (target : Target) (key : KeyBytes) → ((k : KeyBytes) → lies_from target k ≡ is_upto k key) → StandsOnAll slots target key
key_stands slots target key is p = by (slot_at slots p)
  where
    ended : (high : Option KeyBytes) (cs : List (KeyBytes × ℕ)) → StandsFor target key high cs
    ended None cs = record { end = refl; separators = λ c has. is c.0 }
    ended (Some h) cs = record { end = is h; separators = λ c has. is c.0 }

    by : (s : Slot) → StandsOn target key s
    by Free = tt
    by (Gone l) = tt
    by (Live s) = ended s.high (children_of s.body)

pub mark_from : (slots : List Slot) (target : Target) → T (lies_from target []) → lies_from target (mark slots target) ≡ true
unfolding mark
mark_from slots (Home key) starts = ap not (below_self key.now)
mark_from slots (Before end) starts = holds _ (greatest_below (option_copied end) starts (flat_map marks_of slots))

pub mark_stands : (slots : List Slot) (target : Target) → T (lies_from target []) → StandsOnAll slots target (mark slots target)
unfolding mark
mark_stands slots (Home key) starts = key_stands slots (Home key) key.now (λ k. refl)
mark_stands slots (Before end) starts = λ p.
    let o = option_copied end in
    let ks = flat_map marks_of slots in
    stands_at o (Before end) (λ k. refl) (greatest o ks) (holds _ (greatest_below o starts ks)) slots p (greatest_last o ks)
