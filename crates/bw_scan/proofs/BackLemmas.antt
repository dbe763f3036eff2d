-- The pairs of a range over the leaves of a tree, back from one leaf to the one before it.
use Rattle.std.proofs.Common.{◌≡◌, ℕ, zero, suc, ◌<◌, ◌≤◌, Bool, true, false, cond, not, ◌&&◌, ◌||◌, T, List, [], ◌∷◌, ◌++◌, length, reverse, take, Option, Some, None, refl, sym, ap, ◌∙◌, subst, arith}
use Rattle.std.specs.Prelude.{filter}
use Rattle.std.specs.List.{Contains}
use Rattle.std.specs.Ordering.{is_lt}
use Rattle.std.specs.FinMap.{entries, entries_sorted}
use Rattle.std.specs.FinMap.Entries.{where_key}
use Rattle.std.proofs.lemmas.List.{reverse-append}
use Rattle.bw_key.specs.Order.{KeyBytes, key_cmp}
use Rattle.bw_model.specs.Contents.{Contents, is_below_end, is_in_range, pairs_of_range}
use Rattle.bw_model.specs.Values.{ValueBytes}
use Rattle.bw_page.proofs.Truths.{holds, true_holds, holds_not, left_of, right_of}
use Rattle.bw_page.proofs.KeyLemmas.{below_back, below_self, below_upto, upto_trans}
use Rattle.bw_delta.proofs.PairMaps.{sorted_in_range}
use Rattle.bw_level.specs.Slots.{Slot, PageState, Free, Gone, Live, slot_at, has_key}
use Rattle.bw_level.specs.Levels.{row}
use Rattle.bw_level.specs.Scans.{Reaches}
use Rattle.bw_level.specs.Before.{IsBefore, low_of}
use Rattle.bw_look.proofs.RangeLemmas.{one_then_other, all_of_those, none_of_those, first_of_front}
use Rattle.bw_level.proofs.EndLemmas.{upto_end}

different : true ≡ false → ⊥
different e = cc

-- a test after another one
pub both_tests : {V : Type 0} (p r q : KeyBytes → Bool) → ((k : KeyBytes) → q k ≡ (r k && p k)) → (es : List (KeyBytes × V)) → where_key key_cmp p (where_key key_cmp r es) ≡ where_key key_cmp q es
both_tests p r q whole [] = refl
both_tests {V} p r q whole (e ∷ es) = step (r e.0) (p e.0) refl refl (both_tests p r q whole es)
  where
    step : (a b : Bool) → r e.0 ≡ a → p e.0 ≡ b → where_key key_cmp p (where_key key_cmp r es) ≡ where_key key_cmp q es →
        where_key key_cmp p (cond (r e.0) (e ∷ where_key key_cmp r es) (where_key key_cmp r es)) ≡ cond (q e.0) (e ∷ where_key key_cmp q es) (where_key key_cmp q es)
    step true true is is' rest =
        ap (λ b. where_key key_cmp p (cond b (e ∷ where_key key_cmp r es) (where_key key_cmp r es))) is
        ∙ ap (λ b. cond b (e ∷ where_key key_cmp p (where_key key_cmp r es)) (where_key key_cmp p (where_key key_cmp r es))) is'
        ∙ ap (λ (l : List (KeyBytes × V)). e ∷ l) rest
        ∙ sym (ap (λ b. cond b (e ∷ where_key key_cmp q es) (where_key key_cmp q es)) (whole e.0 ∙ ap (λ b. b && p e.0) is ∙ is'))
    step true false is is' rest =
        ap (λ b. where_key key_cmp p (cond b (e ∷ where_key key_cmp r es) (where_key key_cmp r es))) is
        ∙ ap (λ b. cond b (e ∷ where_key key_cmp p (where_key key_cmp r es)) (where_key key_cmp p (where_key key_cmp r es))) is'
        ∙ rest
        ∙ sym (ap (λ b. cond b (e ∷ where_key key_cmp q es) (where_key key_cmp q es)) (whole e.0 ∙ ap (λ b. b && p e.0) is ∙ is'))
    step false b is is' rest =
        ap (λ b. where_key key_cmp p (cond b (e ∷ where_key key_cmp r es) (where_key key_cmp r es))) is
        ∙ rest
        ∙ sym (ap (λ b. cond b (e ∷ where_key key_cmp q es) (where_key key_cmp q es)) (whole e.0 ∙ ap (λ b. b && p e.0) is))

-- above a key that isn't below an end no key is
rises : (end : Option KeyBytes) (a b : KeyBytes) → not (is_below_end end a) ≡ true → is_lt (key_cmp a b) ≡ true → is_below_end end b ≡ false
rises None a b past above = absurd (different (sym past))
rises (Some to) a b past above = upto_trans to a b (holds_not _ (true_holds _ past)) (below_back a b above)

pub below_low : (end : Option KeyBytes) (k low : KeyBytes) → is_lt (key_cmp k low) ≡ true → T (is_below_end end low) → is_below_end end k ≡ true
below_low end k low below starts = holds _ (upto_end end k low (below_back k low below) starts)

-- what has been read of a range when a scan has come back to an end: the pairs from the end on, the greatest key first
pub record ScanningBack (all read : List (KeyBytes × ValueBytes)) (from : KeyBytes) (to end : Option KeyBytes) : Type 0 where
  pub starts : T (is_below_end end from)
  pub within : Reaches to end
  pub so_far : read ≡ reverse (where_key key_cmp (λ k. not (is_below_end end k)) all)

pub begins_back : (m : Contents ValueBytes) (from : KeyBytes) (to : Option KeyBytes) (read : List (KeyBytes × ValueBytes)) → read ≡ [] → T (is_below_end to from) → ScanningBack (pairs_of_range m from to) read from to to
begins_back m from to read none starts = record {
  starts = starts;
  within = λ key below. below;
  so_far = none ∙ ap reverse (sym (none_of_those (λ k. not (is_below_end to k)) (is_in_range from to) (λ k inside. ap not (holds _ (right_of _ _ (true_holds _ inside)))) (entries m)));
}

-- the least key is below an end that some key is below
pub least_below : (end : Option KeyBytes) (from : KeyBytes) → T (is_below_end end from) → T (is_below_end end [])
least_below end from below = upto_end end [] from (least from) below
  where
    least : (k : KeyBytes) → is_lt (key_cmp k []) ≡ false
    least [] = refl
    least (x ∷ xs) = refl

-- a key is from a low key on
abbrev from_on : KeyBytes → KeyBytes → Bool
from_on low k = not (is_lt (key_cmp k low))

-- with a leaf before the end, the pairs from the leaf's low key on have been read
pub passes_back : (slots : List Slot) (levels : List (List ℕ)) (m : Contents ValueBytes) (from : KeyBytes) (to end : Option KeyBytes) (p : ℕ) (read new : List (KeyBytes × ValueBytes)) → IsBefore slots levels end p → ScanningBack (pairs_of_range m from to) read from to end →
    new ≡ read ++ reverse (where_key key_cmp (has_key (slot_at slots p)) (pairs_of_range m from end)) → new ≡ reverse (where_key key_cmp (from_on (low_of (slot_at slots p))) (pairs_of_range m from to))
passes_back slots levels m from to end p read new before h more =
    more
    ∙ ap (λ (l : List (KeyBytes × ValueBytes)). l ++ reverse (where_key key_cmp (has_key (slot_at slots p)) (pairs_of_range m from end))) h.so_far
    ∙ ap (λ (l : List (KeyBytes × ValueBytes)). reverse (where_key key_cmp later all) ++ reverse l) (on_page ∙ sym here)
    ∙ sym (reverse-append (where_key key_cmp between all) (where_key key_cmp later all))
    ∙ ap reverse (one_then_other between later (from_on s.low)
    (λ k is. ap not (holds _ (right_of _ _ (true_holds _ is))))
    (λ a b past above. ap (λ c. from_on s.low b && c) (rises end a b past above) ∙ nothing (from_on s.low b))
    (λ k. whole k (is_lt (key_cmp k s.low)) (is_below_end end k) refl refl) all (sorted_in_range from to (entries m) (entries_sorted m)))
    ∙ ap (λ (o : Slot). reverse (where_key key_cmp (from_on (low_of o)) all)) (sym before.is)
  where
    s : PageState
    s = before.state

    all : List (KeyBytes × ValueBytes)
    all = pairs_of_range m from to

    later : KeyBytes → Bool
    later k = not (is_below_end end k)

    between : KeyBytes → Bool
    between k = from_on s.low k && is_below_end end k

    nothing : (a : Bool) → (a && false) ≡ false
    nothing true = refl
    nothing false = refl

    whole : (k : KeyBytes) (a b : Bool) → is_lt (key_cmp k s.low) ≡ a → is_below_end end k ≡ b → not (is_lt (key_cmp k s.low)) ≡ ((not (is_lt (key_cmp k s.low)) && is_below_end end k) || not (is_below_end end k))
    whole k a b e f = tests (is_lt (key_cmp k s.low)) (is_below_end end k) (λ below. below_low end k s.low below before.starts)
      where
        tests : (a b : Bool) → (a ≡ true → b ≡ true) → not a ≡ ((not a && b) || not b)
        tests true b low = sym (ap not (low refl))
        tests false true low = refl
        tests false false low = refl

    page_tests : (a e l h : Bool) → (e ≡ true → h ≡ true) → ((a && e) && not l) ≡ ((a && e) && (not l && h))
    page_tests false e l h reaches = refl
    page_tests true false l h reaches = refl
    page_tests true true true h reaches = refl
    page_tests true true false h reaches = sym (reaches refl)

    range_tests : (a e l t : Bool) → (e ≡ true → t ≡ true) → ((a && e) && not l) ≡ ((a && t) && (not l && e))
    range_tests false e l t within = refl
    range_tests true true true true within = refl
    range_tests true true false true within = refl
    range_tests true true l false within = absurd (different (sym (within refl)))
    range_tests true false true true within = refl
    range_tests true false false true within = refl
    range_tests true false l false within = refl

    on_page : where_key key_cmp (has_key (slot_at slots p)) (pairs_of_range m from end) ≡ where_key key_cmp (λ k. is_in_range from end k && from_on s.low k) (entries m)
    on_page =
        both_tests (has_key (slot_at slots p)) (is_in_range from end) (λ k. is_in_range from end k && from_on s.low k)
        (λ k. page_tests (not (is_lt (key_cmp k from))) (is_below_end end k) (is_lt (key_cmp k s.low)) (is_below_end s.high k) (λ below. holds _ (before.reaches k (true_holds _ below)))
        ∙ ap (λ (o : Slot). is_in_range from end k && has_key o k) (sym before.is)) (entries m)

    here : where_key key_cmp between all ≡ where_key key_cmp (λ k. is_in_range from end k && from_on s.low k) (entries m)
    here =
        both_tests between (is_in_range from to) (λ k. is_in_range from end k && from_on s.low k)
        (λ k. range_tests (not (is_lt (key_cmp k from))) (is_below_end end k) (is_lt (key_cmp k s.low)) (is_below_end to k) (λ below. holds _ (h.within k (true_holds _ below)))) (entries m)

-- the scan ends at a leaf that begins the range
pub ends_back : (m : Contents ValueBytes) (from low : KeyBytes) (to : Option KeyBytes) (most : ℕ) (new : List (KeyBytes × ValueBytes)) → new ≡ reverse (where_key key_cmp (from_on low) (pairs_of_range m from to)) → is_lt (key_cmp from low) ≡ false →
    take most new ≡ take most (reverse (pairs_of_range m from to))
ends_back m from low to most new passed upto =
    ap (take most) (passed ∙ ap reverse (all_of_those (from_on low) (is_in_range from to) (λ k inside. ap not (upto_trans low from k upto (holds_not _ (left_of _ _ (true_holds _ inside))))) (entries m)))

-- or where there is enough
pub enough_back : (m : Contents ValueBytes) (from low : KeyBytes) (to : Option KeyBytes) (most : ℕ) (new : List (KeyBytes × ValueBytes)) → new ≡ reverse (where_key key_cmp (from_on low) (pairs_of_range m from to)) → most ≤ length new →
    take most new ≡ take most (reverse (pairs_of_range m from to))
enough_back m from low to most new passed enough =
    first_of_front most new (reverse (where_key key_cmp (λ k. is_lt (key_cmp k low)) all)) (reverse all)
    (ap (λ (l : List (KeyBytes × ValueBytes)). l ++ reverse (where_key key_cmp (λ k. is_lt (key_cmp k low)) all)) passed
    ∙ sym (reverse-append (where_key key_cmp (λ k. is_lt (key_cmp k low)) all) (where_key key_cmp (from_on low) all))
    ∙ ap reverse (one_then_other (λ k. is_lt (key_cmp k low)) (from_on low) (λ k. true) (λ k below. ap not below)
    (λ a b on above. upto_trans low a b (holds_not _ (true_holds _ on)) (below_back a b above)) (λ k. either (is_lt (key_cmp k low))) all (sorted_in_range from to (entries m) (entries_sorted m)) ∙ every all))
    enough
  where
    all : List (KeyBytes × ValueBytes)
    all = pairs_of_range m from to

    either : (b : Bool) → true ≡ (b || not b)
    either true = refl
    either false = refl

    every : (es : List (KeyBytes × ValueBytes)) → where_key key_cmp (λ k. true) es ≡ es
    every [] = refl
    every (e ∷ es) = ap (λ (l : List (KeyBytes × ValueBytes)). e ∷ l) (every es)

-- else it goes on before the leaf's low key
pub goes_back : (m : Contents ValueBytes) (from low : KeyBytes) (to end : Option KeyBytes) (read new : List (KeyBytes × ValueBytes)) → ScanningBack (pairs_of_range m from to) read from to end → T (is_below_end end low) → is_lt (key_cmp from low) ≡ true →
    new ≡ reverse (where_key key_cmp (from_on low) (pairs_of_range m from to)) → ScanningBack (pairs_of_range m from to) new from to (Some low)
goes_back m from low to end read new h starts above passed = record {
  starts = true_holds _ above;
  within = λ k below. h.within k (true_holds _ (below_low end k low (holds _ below) starts));
  so_far = passed;
}

-- how many leaves begin below an end
abbrev pub starts_before : Option KeyBytes → Slot → Bool
starts_before end (Live s) = is_below_end end s.low
starts_before end (Gone l) = false
starts_before end Free = false

pub leaves_before : List Slot → List (List ℕ) → Option KeyBytes → ℕ
leaves_before slots levels end = length (filter (λ p. starts_before end (slot_at slots p)) (row levels 0))

pub no_more : {X : Type 0} (p q : X → Bool) → ((x : X) → p x ≡ true → q x ≡ true) → (xs : List X) → length (filter p xs) ≤ length (filter q xs)
no_more p q passes [] = omega arith
no_more {X} p q passes (x ∷ xs) = step (p x) (q x) (passes x) (no_more p q passes xs)
  where
    step : (a b : Bool) → (a ≡ true → b ≡ true) → length (filter p xs) ≤ length (filter q xs) → length (cond a (x ∷ filter p xs) (filter p xs)) ≤ length (cond b (x ∷ filter q xs) (filter q xs))
    step true true so rest = omega (arith, rest)
    step true false so rest = absurd (different (sym (so refl)))
    step false true so rest = omega (arith, rest)
    step false false so rest = rest

pub fewer : {X : Type 0} (p q : X → Bool) → ((x : X) → p x ≡ true → q x ≡ true) → (xs : List X) (x : X) → Contains xs x → p x ≡ false → q x ≡ true → length (filter p xs) < length (filter q xs)
fewer p q passes [] x has out inside = absurd (omega (arith, has.1))
fewer {X} p q passes (y ∷ ys) x (zero, lt, at) out inside = step (p y) (q y) (ap p at ∙ out) (ap q at ∙ inside) (no_more p q passes ys)
  where
    step : (a b : Bool) → a ≡ false → b ≡ true → length (filter p ys) ≤ length (filter q ys) → length (cond a (y ∷ filter p ys) (filter p ys)) < length (cond b (y ∷ filter q ys) (filter q ys))
    step true b is is' rest = absurd (different is)
    step false true is is' rest = omega (arith, rest)
    step false false is is' rest = absurd (different (sym is'))
fewer {X} p q passes (y ∷ ys) x (suc k, lt, at) out inside = step (p y) (q y) (passes y) (fewer p q passes ys x (k, omega (arith, lt), at) out inside)
  where
    step : (a b : Bool) → (a ≡ true → b ≡ true) → length (filter p ys) < length (filter q ys) → length (cond a (y ∷ filter p ys) (filter p ys)) < length (cond b (y ∷ filter q ys) (filter q ys))
    step true true so rest = omega (arith, rest)
    step true false so rest = absurd (different (sym (so refl)))
    step false true so rest = omega (arith, rest)
    step false false so rest = rest

-- before a leaf's low key there are fewer of them
pub fewer_before : (slots : List Slot) (levels : List (List ℕ)) (end : Option KeyBytes) (p : ℕ) → IsBefore slots levels end p → leaves_before slots levels (Some (low_of (slot_at slots p))) < leaves_before slots levels end
unfolding leaves_before
fewer_before slots levels end p before =
    subst (λ (o : Slot). length (filter (λ q. starts_before (Some (low_of o)) (slot_at slots q)) (row levels 0)) < length (filter (λ q. starts_before end (slot_at slots q)) (row levels 0))) (sym before.is)
    (fewer (λ q. starts_before (Some before.state.low) (slot_at slots q)) (λ q. starts_before end (slot_at slots q)) (λ q. passes (slot_at slots q)) (row levels 0) p before.in_level (out (slot_at slots p) before.is) (inside (slot_at slots p) before.is))
  where
    passes : (o : Slot) → starts_before (Some before.state.low) o ≡ true → starts_before end o ≡ true
    passes Free e = e
    passes (Gone l) e = e
    passes (Live s) e = below_low end s.low before.state.low e before.starts

    out : (o : Slot) → o ≡ Live before.state → starts_before (Some before.state.low) o ≡ false
    out o is = ap (starts_before (Some before.state.low)) is ∙ below_self before.state.low

    inside : (o : Slot) → o ≡ Live before.state → starts_before end o ≡ true
    inside o is = ap (starts_before end) is ∙ holds _ before.starts

-- and before an earlier key no more
pub no_more_before : (slots : List Slot) (levels : List (List ℕ)) (low before : KeyBytes) → is_lt (key_cmp low before) ≡ false → leaves_before slots levels (Some before) ≤ leaves_before slots levels (Some low)
unfolding leaves_before
no_more_before slots levels low before upto = no_more (λ p. starts_before (Some before) (slot_at slots p)) (λ p. starts_before (Some low) (slot_at slots p)) (λ p. passes (slot_at slots p)) (row levels 0)
  where
    passes : (o : Slot) → starts_before (Some before) o ≡ true → starts_before (Some low) o ≡ true
    passes Free e = e
    passes (Gone l) e = e
    passes (Live s) e = below_upto s.low before low e upto

-- a range that begins at its end or past it has no pairs
pub no_pairs : (m : Contents ValueBytes) (from : KeyBytes) (to : Option KeyBytes) → is_below_end to from ≡ false → pairs_of_range m from to ≡ []
no_pairs m from to past = nothing (entries m)
  where
    outside : (k : KeyBytes) → is_in_range from to k ≡ false
    outside k = by (is_lt (key_cmp k from)) (is_below_end to k) refl refl
      where
        by : (a b : Bool) → is_lt (key_cmp k from) ≡ a → is_below_end to k ≡ b → (not a && b) ≡ false
        by true b e f = refl
        by false false e f = refl
        by false true e f = absurd (different (sym (holds _ (upto_end to from k e (true_holds _ f))) ∙ past))

    nothing : (es : List (KeyBytes × ValueBytes)) → where_key key_cmp (is_in_range from to) es ≡ []
    nothing [] = refl
    nothing (e ∷ es) = ap (λ b. cond b (e ∷ where_key key_cmp (is_in_range from to) es) (where_key key_cmp (is_in_range from to) es)) (outside e.0) ∙ nothing es

-- what a scan back knows when it has read a leaf that begins at this key
pub record PassedBack (slots : List Slot) (levels : List (List ℕ)) (m : Contents ValueBytes) (from : KeyBytes) (to end : Option KeyBytes) (low : KeyBytes) (new : List (KeyBytes × ValueBytes)) : Type 0 where
  pub so_far : new ≡ reverse (where_key key_cmp (from_on low) (pairs_of_range m from to))
  pub starts : T (is_below_end end low)
  pub less : leaves_before slots levels (Some low) < leaves_before slots levels end

pub passed_back : (slots : List Slot) (levels : List (List ℕ)) (m : Contents ValueBytes) (from low : KeyBytes) (to end : Option KeyBytes) (p : ℕ) (read new : List (KeyBytes × ValueBytes)) → IsBefore slots levels end p → ScanningBack (pairs_of_range m from to) read from to end →
    new ≡ read ++ reverse (where_key key_cmp (has_key (slot_at slots p)) (pairs_of_range m from end)) → low ≡ low_of (slot_at slots p) → PassedBack slots levels m from to end low new
passed_back slots levels m from low to end p read new before h more is = record {
  so_far = passes_back slots levels m from to end p read new before h more ∙ ap (λ (k : KeyBytes). reverse (where_key key_cmp (from_on k) (pairs_of_range m from to))) (sym is);
  starts = subst (λ (k : KeyBytes). T (is_below_end end k)) (sym (is ∙ ap low_of before.is)) before.starts;
  less = subst (λ (k : KeyBytes). leaves_before slots levels (Some k) < leaves_before slots levels end) (sym is) (fewer_before slots levels end p before);
}
