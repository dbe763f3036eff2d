-- Keys are in the order of their prefixes, and of themselves where these are alike.
use Rattle.std.proofs.Common.{◌≡◌, ℕ, zero, suc, ◌+◌, ◌*◌, ◌^◌, ◌<◌, ◌≤◌, ◌⊎◌, inl, inr, List, [], ◌∷◌, length, take, get_or, refl, sym, ap, subst, ◌∙◌, arith, Ordering}
use Rattle.std.specs.Ordering.{nat_cmp, ordering_then, MatchOrdering}
use Rattle.std.specs.Cmp.{ranks, nat_cmp_is}
use Rattle.std.proofs.lemmas.Nat.{pow-add}
use Rattle.std.proofs.Math.Pow.{pow_mono}
use Rattle.std.specs.declared.cmp.Ordering.TheVariants.{Less, Equal, Greater}
use Rattle.bw_key.specs.Order.{key_cmp}
use Rattle.bw_key.specs.Prefixes.{continued_by, key_prefix, IsBytes}

below : {x y : ℕ} → x < y → nat_cmp x y ≡ Less
below {x} {y} lt = sym (nat_cmp_is x y Less lt)

alike : (x : ℕ) → nat_cmp x x ≡ Equal
alike x = sym (nat_cmp_is x x Equal refl)

above : {x y : ℕ} → y < x → nat_cmp x y ≡ Greater
above {x} {y} lt = sym (nat_cmp_is x y Greater lt)

rest_is : (b : ℕ) (bytes : List ℕ) → IsBytes (b ∷ bytes) → IsBytes bytes
rest_is b bytes is k = is (suc k)

-- a number that is continued by nothing is the least of those that begin with it or a greater one
least : (n x y : ℕ) (cs : List ℕ) → x ≤ y → continued_by n x [] ≤ continued_by n y cs
least zero x y cs le = le
least (suc n) x y [] le = least n (x * 256) (y * 256) [] (omega arith)
least (suc n) x y (c ∷ cs) le = least n (x * 256) (y * 256 + c) cs (omega arith)

-- the lower number stays below
rises : (n x y : ℕ) (bs cs : List ℕ) → IsBytes bs → x < y → continued_by n x bs < continued_by n y cs
rises zero x y bs cs is lt = lt
rises (suc n) x y [] [] is lt = rises n (x * 256) (y * 256) [] [] is (omega arith)
rises (suc n) x y [] (c ∷ cs) is lt = rises n (x * 256) (y * 256 + c) [] cs is (omega arith)
rises (suc n) x y (b ∷ bs) [] is lt = let small : b < 256 = is 0 in rises n (x * 256 + b) (y * 256) bs [] (rest_is b bs is) (omega arith)
rises (suc n) x y (b ∷ bs) (c ∷ cs) is lt = let small : b < 256 = is 0 in rises n (x * 256 + b) (y * 256 + c) bs cs (rest_is b bs is) (omega arith)

then_less : (x y : ℕ) (r : Ordering) → MatchOrdering r (x < y) (x ≡ y) (y < x) → x ≤ y → ordering_then r Less ≡ Less
then_less x y Less h le = refl
then_less x y Equal h le = refl
then_less x y Greater h le = let lt : y < x = h in absurd (omega arith)

then_greater : (x y : ℕ) (r : Ordering) → MatchOrdering r (x < y) (x ≡ y) (y < x) → y ≤ x → ordering_then r Greater ≡ Greater
then_greater x y Less h le = let lt : x < y = h in absurd (omega arith)
then_greater x y Equal h le = refl
then_greater x y Greater h le = refl

-- keys are compared by their continuations of one number first
pub prefix_first : (n x : ℕ) (bs cs : List ℕ) → IsBytes bs → IsBytes cs → ordering_then (nat_cmp (continued_by n x bs) (continued_by n x cs)) (key_cmp bs cs) ≡ key_cmp bs cs
prefix_first zero x bs cs ib ic = ap (λ o. ordering_then o (key_cmp bs cs)) (alike x)
prefix_first (suc n) x [] [] ib ic = ap (λ o. ordering_then o Equal) (alike (continued_by n (x * 256) []))
prefix_first (suc n) x [] (c ∷ cs) ib ic = then_less _ _ _ (ranks (continued_by n (x * 256) []) (continued_by n (x * 256 + c) cs)) (least n (x * 256) (x * 256 + c) cs (omega arith))
prefix_first (suc n) x (b ∷ bs) [] ib ic = then_greater _ _ _ (ranks (continued_by n (x * 256 + b) bs) (continued_by n (x * 256) [])) (least n (x * 256) (x * 256 + b) bs (omega arith))
prefix_first (suc n) x (b ∷ bs) (c ∷ cs) ib ic = by (nat_cmp b c) refl (ranks b c) (prefix_first n (x * 256 + b) bs cs (rest_is b bs ib) (rest_is c cs ic))
  where
    by : (r : Ordering) → nat_cmp b c ≡ r → MatchOrdering r (b < c) (b ≡ c) (c < b)
        → ordering_then (nat_cmp (continued_by n (x * 256 + b) bs) (continued_by n (x * 256 + b) cs)) (key_cmp bs cs) ≡ key_cmp bs cs
        → ordering_then (nat_cmp (continued_by n (x * 256 + b) bs) (continued_by n (x * 256 + c) cs)) (ordering_then (nat_cmp b c) (key_cmp bs cs)) ≡ ordering_then (nat_cmp b c) (key_cmp bs cs)
    by Less is lt behind =
        ap (λ o. ordering_then o (ordering_then (nat_cmp b c) (key_cmp bs cs))) (below (rises n (x * 256 + b) (x * 256 + c) bs cs (rest_is b bs ib) (let l : b < c = lt in omega arith)))
        ∙ ap (λ o. ordering_then o (key_cmp bs cs)) (sym is)
    by Equal is e behind =
        ap (λ o. ordering_then (nat_cmp (continued_by n (x * 256 + b) bs) (continued_by n (x * 256 + c) cs)) (ordering_then o (key_cmp bs cs))) is
        ∙ ap (λ z. ordering_then (nat_cmp (continued_by n (x * 256 + b) bs) (continued_by n (x * 256 + z) cs)) (key_cmp bs cs)) (let same : b ≡ c = e in sym same)
        ∙ behind
        ∙ ap (λ o. ordering_then o (key_cmp bs cs)) (sym is)
    by Greater is lt behind =
        ap (λ o. ordering_then o (ordering_then (nat_cmp b c) (key_cmp bs cs))) (above (rises n (x * 256 + c) (x * 256 + b) cs bs (rest_is c cs ic) (let l : c < b = lt in omega arith)))
        ∙ ap (λ o. ordering_then o (key_cmp bs cs)) (sym is)

-- one byte more takes eight bits more
pub digits_fit : (i x b : ℕ) → x < 2 ^ (8 * i) → i < 8 → b < 256 → (x * 256 + b < 2 ^ (8 * (i + 1))) × (x * 256 + b < 2 ^ 64)
digits_fit i x b fits lt small =
    let eight : 8 * (i + 1) ≡ 8 * i + 8 = omega arith in
    let power : 2 ^ (8 * (i + 1)) ≡ 2 ^ (8 * i) * 256 = ap (λ (n : ℕ). 2 ^ n) eight ∙ pow-add 2 (8 * i) 8 in
    let most : 2 ^ (8 * (i + 1)) ≤ 2 ^ 64 = pow_mono {i = 8 * (i + 1)} {j = 64} (omega arith) in
    let below : x * 256 + b < 2 ^ (8 * i) * 256 = omega (arith, fits, small) in
    (omega (arith, power, below), omega (arith, power, below, most))

-- one byte more
pub one_more : (n x : ℕ) (bytes : List ℕ) → continued_by (suc n) x bytes ≡ continued_by n x bytes * 256 + get_or bytes n 0
one_more zero x [] = omega arith
one_more zero x (b ∷ bytes) = refl
one_more (suc n) x [] = one_more n (x * 256) []
one_more (suc n) x (b ∷ bytes) = one_more n (x * 256 + b) bytes

-- keys stand as the first of their prefixes and of themselves that differs
pub by_prefix : (bs cs : List ℕ) (r : Ordering) → IsBytes bs → IsBytes cs → nat_cmp (key_prefix bs) (key_prefix cs) ≡ r → (r ≡ Equal → ⊥) → r ≡ key_cmp bs cs
by_prefix bs cs Less ib ic is other = ap (λ o. ordering_then o (key_cmp bs cs)) (sym is) ∙ prefix_first 8 0 bs cs ib ic
by_prefix bs cs Equal ib ic is other = absurd (other refl)
by_prefix bs cs Greater ib ic is other = ap (λ o. ordering_then o (key_cmp bs cs)) (sym is) ∙ prefix_first 8 0 bs cs ib ic

-- numbers that are continued to the same one are the same
same_number : (n x y : ℕ) (bs cs : List ℕ) → IsBytes bs → IsBytes cs → continued_by n x bs ≡ continued_by n y cs → x ≡ y
same_number n x y bs cs ib ic same = by (ranks x y)
  where
    by : MatchOrdering (nat_cmp x y) (x < y) (x ≡ y) (y < x) → x ≡ y
    by h = pick (nat_cmp x y) h
      where
        pick : (r : Ordering) → MatchOrdering r (x < y) (x ≡ y) (y < x) → x ≡ y
        pick Less lt = absurd (let below : continued_by n x bs < continued_by n y cs = rises n x y bs cs ib lt in omega (arith, below, same))
        pick Equal e = e
        pick Greater lt = absurd (let below : continued_by n y cs < continued_by n x bs = rises n y x cs bs ic lt in omega (arith, below, same))

-- how lengths stand
abbrev IsByLength : List ℕ → List ℕ → Ordering → Type 0
IsByLength bs cs r = MatchOrdering r (length bs < length cs) (length bs ≡ length cs) (length cs < length bs)

longer : (b c : ℕ) (bs cs : List ℕ) (r : Ordering) → IsByLength bs cs r → IsByLength (b ∷ bs) (c ∷ cs) r
longer b c bs cs Less lt = let l : length bs < length cs = lt in omega arith
longer b c bs cs Equal e = ap suc e
longer b c bs cs Greater lt = let l : length cs < length bs = lt in omega arith

-- keys of one prefix, of which one ends within it, stand as their lengths
pub by_length : (n x : ℕ) (bs cs : List ℕ) → IsBytes bs → IsBytes cs → continued_by n x bs ≡ continued_by n x cs → (length bs ≤ n) ⊎ (length cs ≤ n) → IsByLength bs cs (key_cmp bs cs)
by_length n x [] [] ib ic same short = refl
by_length n x [] (c ∷ cs) ib ic same short = omega arith
by_length n x (b ∷ bs) [] ib ic same short = omega arith
by_length zero x (b ∷ bs) (c ∷ cs) ib ic same (inl le) = absurd (omega (arith, le))
by_length zero x (b ∷ bs) (c ∷ cs) ib ic same (inr le) = absurd (omega (arith, le))
by_length (suc n) x (b ∷ bs) (c ∷ cs) ib ic same short =
    let number = same_number n (x * 256 + b) (x * 256 + c) bs cs (rest_is b bs ib) (rest_is c cs ic) same in
    let first : b ≡ c = omega (arith, number) in
    let behind = by_length n (x * 256 + b) bs cs (rest_is b bs ib) (rest_is c cs ic) (same ∙ ap (λ (z : ℕ). continued_by n z cs) (sym number)) (shorter short) in
    subst (IsByLength (b ∷ bs) (c ∷ cs)) (sym (ap (λ (z : ℕ). ordering_then (nat_cmp b z) (key_cmp bs cs)) (sym first) ∙ ap (λ o. ordering_then o (key_cmp bs cs)) (alike b))) (longer b c bs cs (key_cmp bs cs) behind)
  where
    shorter : (length (b ∷ bs) ≤ suc n) ⊎ (length (c ∷ cs) ≤ suc n) → (length bs ≤ n) ⊎ (length cs ≤ n)
    shorter (inl le) = inl (omega (arith, le))
    shorter (inr le) = inr (omega (arith, le))

pub lengths_stand : (bs cs : List ℕ) → IsBytes bs → IsBytes cs → key_prefix bs ≡ key_prefix cs → (length bs ≤ 8) ⊎ (length cs ≤ 8) → nat_cmp (length bs) (length cs) ≡ key_cmp bs cs
lengths_stand bs cs ib ic same short = sym (nat_cmp_is (length bs) (length cs) (key_cmp bs cs) (by_length 8 0 bs cs ib ic same short))

-- a prefix is that of the first bytes
pub of_first : (n x : ℕ) (bytes : List ℕ) → continued_by n x (take n bytes) ≡ continued_by n x bytes
of_first zero x bytes = refl
of_first (suc n) x [] = refl
of_first (suc n) x (b ∷ bytes) = of_first n (x * 256 + b) bytes
