-- The pages that a walk along sorted keys has passed.
use Rattle.std.proofs.Common.{◌≡◌, ℕ, ◌+◌, ◌<◌, ◌≤◌, ◌≢◌, Bool, true, false, T, List, [], ◌∷◌, ◌++◌, ◌==◌, length, Option, Some, None, refl, sym, ap, subst, arith}
use Rattle.std.specs.List.{AllByRecursion}
use Rattle.std.specs.Ordering.{is_lt}
use Rattle.std.specs.Cmp.{unsigned_Decides}
use Rattle.bw_core.specs.World.{one_if, times}
use Rattle.bw_core.proofs.Lists.{total-append}
use Rattle.bw_key.specs.Order.{KeyBytes, key_cmp}
use Rattle.bw_model.specs.Contents.{is_below_end}
use Rattle.bw_model.specs.declared.operations.Op.{Op}
use Rattle.bw_page.proofs.Truths.{holds_not, not_holds}
use Rattle.bw_page.proofs.KeyLemmas.{upto_below, upto_trans}
use Rattle.bw_tree.specs.Before.{low_of}
use Rattle.bw_tree.specs.Levels.{IsHome, IsOneHome}
use Rattle.bw_tree.specs.Scans.{high_of}
use Rattle.bw_tree.specs.Slots.{slot_at}
use Rattle.bw_look.specs.View.{TreeView}
use Rattle.bw_tree.specs.PageWords.{ArePages}
use Rattle.bw_group.specs.Homes.{AreInKeyOrder, BeginsBelow, IsTouched}
use Rattle.bw_group.proofs.ListParts.{all_append, all_same}

-- the page has a key of the batch that isn't above this one, and ends before it
pub record IsPassed (tree : TreeView) (ops : List Op) (key : KeyBytes) (page : ℕ) : Type 0 where
  pub touched : IsTouched tree ops page
  pub upto : is_lt (key_cmp key touched.key) ≡ false
  pub ended : is_below_end (high_of (slot_at tree.slots page)) key ≡ false

different : {b : Bool} → T b → b ≡ false → ⊥
different {b} holds not = subst T not holds

-- what ends before a key ends before each later one
ends_before : (end : Option KeyBytes) (key later : KeyBytes) → is_lt (key_cmp later key) ≡ false → is_below_end end key ≡ false → is_below_end end later ≡ false
ends_before None key later from ended = ended
ends_before (Some end) key later from ended = upto_trans end key later ended from

pub passed_on : (tree : TreeView) (ops : List Op) (key later : KeyBytes) (page : ℕ) → is_lt (key_cmp later key) ≡ false → IsPassed tree ops key page → IsPassed tree ops later page
passed_on tree ops key later page from passed = record {
  touched = passed.touched;
  upto = upto_trans passed.touched.key key later passed.upto from;
  ended = ends_before (high_of (slot_at tree.slots page)) key later from passed.ended;
}

module _ (tree : TreeView) (ops : List Op) (key : KeyBytes) (q : ℕ) (here : IsOneHome tree.slots tree.levels key q) where
  ends_above : T (is_below_end (high_of (slot_at tree.slots q)) key)
  ends_above = subst (λ (h : Option KeyBytes). T (is_below_end h key)) (sym (ap high_of here.0.reached.is)) here.0.ends_above

  -- the home of a key isn't a page that was passed
  apart : (p : ℕ) → IsPassed tree ops key p → p ≢ q
  apart p passed same = different ends_above (subst (λ (k : ℕ). is_below_end (high_of (slot_at tree.slots k)) key ≡ false) same passed.ended)

  -- and begins behind it
  begins_behind : (p : ℕ) → IsPassed tree ops key p → BeginsBelow tree.slots p q
  begins_behind p passed = by (is_lt (key_cmp (low_of (slot_at tree.slots p)) (low_of (slot_at tree.slots q)))) refl
    where
      own : KeyBytes
      own = passed.touched.key

      low_is : (s : ℕ) (k : KeyBytes) → (h : IsHome tree.slots tree.levels k s) → is_lt (key_cmp k (low_of (slot_at tree.slots s))) ≡ false
      low_is s k h = subst (λ (l : KeyBytes). is_lt (key_cmp k l) ≡ false) (sym (ap low_of h.reached.is)) (holds_not _ h.reached.from_low)

      below_high : (end : Option KeyBytes) → T (is_below_end end key) → T (is_below_end end own)
      below_high None holds = tt
      below_high (Some end) holds = subst T (sym (upto_below own key end passed.upto (true_of _ holds))) tt
        where
          true_of : (b : Bool) → T b → b ≡ true
          true_of true h = refl
          true_of false h = absurd h

      at_home : is_lt (key_cmp (low_of (slot_at tree.slots p)) (low_of (slot_at tree.slots q))) ≡ false → IsHome tree.slots tree.levels own q
      at_home not_below = record {
        reached = record {
          within = here.0.reached.within;
          in_level = here.0.reached.in_level;
          state = here.0.reached.state;
          is = here.0.reached.is;
          from_low = not_holds _ (subst (λ (l : KeyBytes). is_lt (key_cmp own l) ≡ false) (ap low_of here.0.reached.is)
              (upto_trans (low_of (slot_at tree.slots q)) (low_of (slot_at tree.slots p)) own not_below (low_is p own passed.touched.one.0)));
        };
        ends_above = below_high here.0.reached.state.high here.0.ends_above;
      }

      by : (b : Bool) → is_lt (key_cmp (low_of (slot_at tree.slots p)) (low_of (slot_at tree.slots q))) ≡ b → BeginsBelow tree.slots p q
      by true is = is
      by false is = absurd (apart p passed (sym (passed.touched.one.1 q (at_home is))))

  -- it stands in no place of the pages that were passed
  pub not_listed : (ps : List ℕ) → AllByRecursion (IsPassed tree ops key) ps → times q ps ≡ 0
  not_listed [] all = refl
  not_listed (p ∷ ps) all = let none : one_if (p == q) ≡ 0 = ap one_if (no_test (p == q) refl) in omega (arith, none, not_listed ps all.1)
    where
      no_test : (b : Bool) → (p == q) ≡ b → (p == q) ≡ false
      no_test true is = absurd (apart p all.0 ((unsigned_Decides p q).0 is))
      no_test false is = is

  pub order_more : (ps : List ℕ) → AllByRecursion (IsPassed tree ops key) ps → AreInKeyOrder tree.slots ps → AreInKeyOrder tree.slots (ps ++ q ∷ [])
  order_more [] all order = (tt, tt)
  order_more (p ∷ ps) all order = (all_append (BeginsBelow tree.slots p) ps (q ∷ []) order.0 (begins_behind p all.0, tt), order_more ps all.1 order.1)

  pub pages_more : (ps : List ℕ) → q < length tree.heads → AllByRecursion (IsPassed tree ops key) ps → ArePages tree ps → ArePages tree (ps ++ q ∷ [])
  pages_more ps within all pages = record {
    once = once;
    there = all_append (λ p. p < length tree.heads) ps (q ∷ []) pages.there (within, tt);
  }
    where
      once : (p : ℕ) → times p (ps ++ q ∷ []) ≤ 1
      once p = by (q == p) refl
        where
          parts : times p (ps ++ q ∷ []) ≡ times p ps + (one_if (q == p) + 0)
          parts = total-append (λ (x : ℕ). one_if (x == p)) ps (q ∷ [])

          by : (b : Bool) → (q == p) ≡ b → times p (ps ++ q ∷ []) ≤ 1
          by true is =
              let one : one_if (q == p) ≡ 1 = ap one_if is in
              let none : times p ps ≡ 0 = subst (λ (k : ℕ). times k ps ≡ 0) ((unsigned_Decides q p).0 is) (not_listed ps all) in
              omega (arith, parts, one, none)
          by false is = let none : one_if (q == p) ≡ 0 = ap one_if is in omega (arith, parts, none, pages.once p)

-- the pages that were passed where the keys go on behind a page
pub passed_more : (tree : TreeView) (ops : List Op) (key later : KeyBytes) (q : ℕ) (ps : List ℕ) → (touched : IsTouched tree ops q) → touched.key ≡ key →
    is_lt (key_cmp later key) ≡ false → is_below_end (high_of (slot_at tree.slots q)) later ≡ false →
    AllByRecursion (IsPassed tree ops key) ps → AllByRecursion (IsPassed tree ops later) (ps ++ q ∷ [])
passed_more tree ops key later q ps touched is from ended all =
    all_append (IsPassed tree ops later) ps (q ∷ [])
    (all_same (IsPassed tree ops key) (IsPassed tree ops later) (λ p passed. passed_on tree ops key later p from passed) ps all)
    (record { touched = touched; upto = subst (λ (k : KeyBytes). is_lt (key_cmp later k) ≡ false) (sym is) from; ended = ended }, tt)
