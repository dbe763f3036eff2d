-- Trees that are made of leaves.
use Rattle.std.proofs.Common.{◌≡◌, ℕ, zero, suc, ◌+◌, ◌<◌, Bool, true, false, not, ◌&&◌, T, List, [], ◌∷◌, ◌++◌, length, map, take, get_or, Option, Some, None, refl, sym, ap, ◌∙◌, subst, arith}
use Rattle.std.specs.Prelude.{slice_get}
use Rattle.std.specs.List.{Contains, AllByRecursion, list_all}
use Rattle.std.specs.FinMap.{is_sorted}
use Rattle.std.specs.FinMap.Entries.{below_all}
use Rattle.std.specs.Ordering.{is_lt}
use Rattle.bw_key.specs.Order.{KeyBytes, key_cmp}
use Rattle.bw_model.specs.Contents.{is_pair_in_range, is_below_end}
use Rattle.bw_model.specs.Values.{ValueBytes}
use Rattle.bw_page.specs.Leaves.{LeafView}
use Rattle.bw_page.specs.Inners.{InnerView, IsInner}
use Rattle.bw_page.specs.Pages.{BeginsAt}
use Rattle.bw_page.specs.declared.pages.Page.{Page}
use Rattle.bw_page.specs.declared.pages.Page.TheVariants.{Inner as InnerPage, Gone as GonePage}
use Rattle.bw_page.proofs.Truths.{holds}
use Rattle.bw_page.proofs.KeyLemmas.{below_trans}
use Rattle.bw_level.specs.Walk.{walked, ended}
use Rattle.bw_level.specs.Slots.{Slot, PageState, Pairs, Live, slot_at}
use Rattle.bw_level.specs.Levels.{SideBySide, Stands}
use Rattle.bw_level.specs.Changes.{Bases, based}
use Rattle.bw_chain.specs.Chains.{slot_of_word, slots_of}
use Rattle.bw_chain.specs.Removed.{HasNoRemoved}
use Rattle.bw_tree.specs.Making.{AreAbutting, base_of_leaf, count_from, pairs_in, terms_from}
use Rattle.bw_look.specs.PageStates.{HasRules}
use Rattle.bw_level.specs.Reading.{pairs_under, writes_over, row_pairs, row_writes}

no_entry : {X : Type 0} {x : X} → None ≡ Some x → ⊥
no_entry e = cc

one_entry : {X : Type 0} {x y : X} → Some x ≡ Some y → x ≡ y
one_entry e = cc

plus_none : (n : ℕ) → n + 0 ≡ n
plus_none n = omega arith

pub from_none : (n : ℕ) → 0 + n ≡ n
from_none n = omega arith

shifted : (n i : ℕ) → n + 1 + i ≡ n + suc i
shifted n i = omega arith

-- one more term, one more leaf with its rules, one more number
terms_further : (n : ℕ) (leaves : List (LeafView ValueBytes)) (i : ℕ) (l : LeafView ValueBytes) → i < length leaves → l ≡ get_or leaves i l → terms_from n (take (suc i) leaves) ≡ terms_from n (take i leaves) ++ (l.low, n + i) ∷ []
terms_further n [] i l lt is = absurd (omega arith)
terms_further n (x ∷ leaves) zero l lt is = ap (λ (y : LeafView ValueBytes). (y.low, n) ∷ []) (sym is) ∙ ap (λ m. (l.low, m) ∷ []) (sym (plus_none n))
terms_further n (x ∷ leaves) (suc i) l lt is = ap (λ es. (x.low, n) ∷ es) (terms_further (n + 1) leaves i l (omega arith) is ∙ ap (λ m. terms_from (n + 1) (take i leaves) ++ (l.low, m) ∷ []) (shifted n i))

suc_is : (i : ℕ) → i + 1 ≡ suc i
suc_is i = omega arith

pub terms_more : (old new : List (KeyBytes × ℕ)) (leaves : List (LeafView ValueBytes)) (i : ℕ) (l : LeafView ValueBytes) (k : KeyBytes) → i < length leaves → l ≡ get_or leaves i l → k ≡ l.low → new ≡ old ++ (k, i) ∷ [] → old ≡ terms_from 0 (take i leaves) → new ≡ terms_from 0 (take (i + 1) leaves)
terms_more old new leaves i l k lt is low pushed so_far =
    pushed ∙ ap (λ es. es ++ (k, i) ∷ []) so_far ∙ ap (λ (q : KeyBytes). terms_from 0 (take i leaves) ++ (q, i) ∷ []) low
    ∙ ap (λ m. terms_from 0 (take i leaves) ++ (l.low, m) ∷ []) (sym (from_none i)) ∙ sym (terms_further 0 leaves i l lt is) ∙ ap (λ m. terms_from 0 (take m leaves)) (sym (suc_is i))

rules_further : (leaves : List (LeafView ValueBytes)) (i : ℕ) (l : LeafView ValueBytes) → i < length leaves → l ≡ get_or leaves i l → HasRules l → AllByRecursion HasRules (take i leaves) → AllByRecursion HasRules (take (suc i) leaves)
rules_further [] i l lt is rules all = absurd (omega arith)
rules_further (x ∷ leaves) zero l lt is rules all = (subst HasRules is rules, tt)
rules_further (x ∷ leaves) (suc i) l lt is rules all = (all.0, rules_further leaves i l (omega arith) is rules all.1)

pub rules_more : (leaves : List (LeafView ValueBytes)) (i : ℕ) (l : LeafView ValueBytes) → i < length leaves → l ≡ get_or leaves i l → HasRules l → AllByRecursion HasRules (take i leaves) → AllByRecursion HasRules (take (i + 1) leaves)
rules_more leaves i l lt is rules all = subst (λ m. AllByRecursion HasRules (take m leaves)) (sym (suc_is i)) (rules_further leaves i l lt is rules all)

counted_further : (n k : ℕ) → count_from n (suc k) ≡ count_from n k ++ (n + k) ∷ []
counted_further n zero = ap (λ m. m ∷ []) (sym (plus_none n))
counted_further n (suc k) = ap (λ l. n ∷ l) (counted_further (n + 1) k ∙ ap (λ m. count_from (n + 1) k ++ m ∷ []) (shifted n k))

pub counted_more : (old new : List ℕ) (k : ℕ) → new ≡ old ++ k ∷ [] → old ≡ count_from 0 k → new ≡ count_from 0 (k + 1)
counted_more old new k pushed so_far = pushed ∙ ap (λ l. l ++ k ∷ []) so_far ∙ ap (λ m. count_from 0 k ++ m ∷ []) (sym (from_none k)) ∙ sym (counted_further 0 k) ∙ ap (count_from 0) (sym (suc_is k))

-- A tree whose mapping words are the numbers of its base pages.
pub slot_based : (bases : Bases) (w : ℕ) → slot_of_word bases [] w ≡ based (slice_get bases w)
unfolding walked ended
slot_based bases w = refl

counted_at : (f : ℕ → Slot) (n k p : ℕ) → p < k → slot_at (map f (count_from n k)) p ≡ f (n + p)
counted_at f n zero p lt = absurd (omega arith)
counted_at f n (suc k) zero lt = ap f (sym (plus_none n))
counted_at f n (suc k) (suc p) lt = counted_at f (n + 1) k p (omega arith) ∙ ap f (shifted n p)

pub counted_word : (n k p w : ℕ) → slice_get (count_from n k) p ≡ Some w → (n + p ≡ w) × (p < k)
counted_word n zero p w e = absurd (no_entry e)
counted_word n (suc k) zero w e = (plus_none n ∙ one_entry e, omega arith)
counted_word n (suc k) (suc p) w e = let more = counted_word (n + 1) k p w e in (sym (shifted n p) ∙ more.0, omega (arith, more.1))

pub counted_length : (n k : ℕ) → length (count_from n k) ≡ k
counted_length n zero = refl
counted_length n (suc k) = ap suc (counted_length (n + 1) k)

pub counted_has : (n k i : ℕ) → i < k → Contains (count_from n k) (n + i)
counted_has n zero i lt = absurd (omega arith)
counted_has n (suc k) zero lt = (0, omega arith, sym (plus_none n))
counted_has n (suc k) (suc i) lt =
    let more = counted_has (n + 1) k i (omega arith) in
    subst (Contains (n ∷ count_from (n + 1) k)) (shifted n i) (suc more.0, omega (arith, more.1), more.2)

pub there_is : {X : Type 0} (xs : List X) (i : ℕ) (x : X) → slice_get xs i ≡ Some x → i < length xs
there_is [] i x e = absurd (no_entry e)
there_is (y ∷ ys) zero x e = omega arith
there_is (y ∷ ys) (suc i) x e = let more = there_is ys i x e in omega (arith, more)

abbrev pub over_slots : Bases → List Slot
over_slots bases = slots_of (count_from 0 (length bases)) bases []

pub slot_there : (bases : Bases) (p : ℕ) (o : Option Page) → slice_get bases p ≡ Some o → slot_at (over_slots bases) p ≡ based (Some o)
slot_there bases p o e = counted_at (slot_of_word bases []) 0 (length bases) p (there_is bases p o e) ∙ ap (slot_of_word bases []) (from_none p) ∙ slot_based bases p ∙ ap based e

pub leaf_there : (leaves : List (LeafView ValueBytes)) (more : Bases) (i : ℕ) (l : LeafView ValueBytes) → slice_get leaves i ≡ Some l → slice_get (map base_of_leaf leaves ++ more) i ≡ Some (base_of_leaf l)
leaf_there [] more i l e = absurd (no_entry e)
leaf_there (x ∷ leaves) more zero l e = ap (λ y. Some (base_of_leaf y)) (one_entry e)
leaf_there (x ∷ leaves) more (suc i) l e = leaf_there leaves more i l e

pub root_there : (leaves : List (LeafView ValueBytes)) (page : Page) → slice_get (map base_of_leaf leaves ++ Some page ∷ []) (length leaves) ≡ Some (Some page)
root_there [] page = refl
root_there (x ∷ leaves) page = root_there leaves page

abbrev pub leaf_state : LeafView ValueBytes → PageState
leaf_state l = record { low = l.low; high = l.high; side = l.side; body = Pairs l.pairs [] }

-- the leaves stand at their places
abbrev pub StandAt : List Slot → ℕ → List (LeafView ValueBytes) → Type 0
StandAt slots n leaves = (i : ℕ) (l : LeafView ValueBytes) → slice_get leaves i ≡ Some l → slot_at slots (n + i) ≡ Live (leaf_state l)

first_stands_at : (slots : List Slot) (n : ℕ) (l : LeafView ValueBytes) (leaves : List (LeafView ValueBytes)) → StandAt slots n (l ∷ leaves) → slot_at slots n ≡ Live (leaf_state l)
first_stands_at slots n l leaves at = ap (slot_at slots) (sym (plus_none n)) ∙ at 0 l refl

later_stand_at : (slots : List Slot) (n : ℕ) (l : LeafView ValueBytes) (leaves : List (LeafView ValueBytes)) → StandAt slots n (l ∷ leaves) → StandAt slots (n + 1) leaves
later_stand_at slots n l leaves at i k e = ap (slot_at slots) (shifted n i) ∙ at (suc i) k e

leaf_stands : (slots : List Slot) (n : ℕ) (l : LeafView ValueBytes) (low : KeyBytes) (high : Option KeyBytes) (side : Option ℕ) → slot_at slots n ≡ Live (leaf_state l) → HasRules l → l.low ≡ low → l.high ≡ high → l.side ≡ side → Stands slots 0 low high side n
leaf_stands slots n l low high side is rules from_low to_high linked = record { state = leaf_state l; is = is; sound = record { page = rules; inside = tt }; at_level = refl; from_low = from_low; to_high = to_high; linked = linked }

pub leaf_row : (slots : List Slot) (n : ℕ) (low : KeyBytes) (leaves : List (LeafView ValueBytes)) → StandAt slots n leaves → AreAbutting n low leaves → AllByRecursion HasRules leaves → SideBySide slots 0 low (count_from n (length leaves))
leaf_row slots n low [] at abut rules = absurd abut
leaf_row slots n low (l ∷ []) at abut rules = leaf_stands slots n l low None None (first_stands_at slots n l [] at) rules.0 abut.0 abut.1 abut.2
leaf_row slots n low (l ∷ k ∷ leaves) at abut rules = (
  k.low,
  leaf_stands slots n l low (Some k.low) (Some (n + 1)) (first_stands_at slots n l (k ∷ leaves) at) rules.0 abut.0 abut.1 abut.2,
  leaf_row slots (n + 1) k.low (k ∷ leaves) (later_stand_at slots n l (k ∷ leaves) at) abut.3 rules.1,
)

pub leaf_pairs : (slots : List Slot) (n : ℕ) (leaves : List (LeafView ValueBytes)) → StandAt slots n leaves → row_pairs slots (count_from n (length leaves)) ≡ pairs_in leaves
leaf_pairs slots n [] at = refl
leaf_pairs slots n (l ∷ leaves) at =
    ap (λ (o : Slot). pairs_under o ++ row_pairs slots (count_from (n + 1) (length leaves))) (first_stands_at slots n l leaves at)
    ∙ ap (λ es. l.pairs ++ es) (leaf_pairs slots (n + 1) leaves (later_stand_at slots n l leaves at))

pub leaf_writes : (slots : List Slot) (n : ℕ) (leaves : List (LeafView ValueBytes)) → StandAt slots n leaves → row_writes slots (count_from n (length leaves)) ≡ []
leaf_writes slots n [] at = refl
leaf_writes slots n (l ∷ leaves) at =
    ap (λ (o : Slot). writes_over o ++ row_writes slots (count_from (n + 1) (length leaves))) (first_stands_at slots n l leaves at)
    ∙ leaf_writes slots (n + 1) leaves (later_stand_at slots n l leaves at)

-- the terms of the root
pub term_named : (n : ℕ) (leaves : List (LeafView ValueBytes)) (k : KeyBytes) (c : ℕ) → Contains (terms_from n leaves) (k, c) → (i : ℕ) × (l : LeafView ValueBytes) × (slice_get leaves i ≡ Some l) × (l.low ≡ k) × (n + i ≡ c)
term_named n [] k c has = absurd (omega (arith, has.1))
term_named n (l ∷ leaves) k c (zero, lt, at) = (0, l, refl, ap (λ (e : KeyBytes × ℕ). e.0) at, plus_none n ∙ ap (λ (e : KeyBytes × ℕ). e.1) at)
term_named n (l ∷ leaves) k c (suc j, lt, at) =
    let more = term_named (n + 1) leaves k c (j, omega (arith, lt), at) in
    (suc more.0, more.1, more.2, more.3, sym (shifted n more.0) ∙ more.4)

both : (a b : Bool) → a ≡ true → T b → T (a && b)
both true b e h = h
both false b e h = absurd (different e)
  where
    different : false ≡ true → ⊥
    different e = cc

rises : (l k : LeafView ValueBytes) → HasRules l → l.high ≡ Some k.low → is_lt (key_cmp l.low k.low) ≡ true
rises l k rules high = holds _ (subst (λ (o : Option KeyBytes). T (is_below_end o l.low)) high rules.wide)

terms_above : (n : ℕ) (low key : KeyBytes) (leaves : List (LeafView ValueBytes)) → AreAbutting n low leaves → AllByRecursion HasRules leaves → is_lt (key_cmp key low) ≡ true → T (below_all key_cmp key (terms_from n leaves))
terms_above n low key [] abut rules less = absurd abut
terms_above n low key (l ∷ []) abut rules less = both _ _ (ap (λ (q : KeyBytes). is_lt (key_cmp key q)) abut.0 ∙ less) tt
terms_above n low key (l ∷ k ∷ leaves) abut rules less =
    let here : is_lt (key_cmp key l.low) ≡ true = ap (λ (q : KeyBytes). is_lt (key_cmp key q)) abut.0 ∙ less in
    both _ _ here (terms_above (n + 1) k.low key (k ∷ leaves) abut.3 rules.1 (below_trans key l.low k.low here (rises l k rules.0 abut.1)))

terms_sorted : (n : ℕ) (low : KeyBytes) (leaves : List (LeafView ValueBytes)) → AreAbutting n low leaves → AllByRecursion HasRules leaves → T (is_sorted key_cmp (terms_from n leaves))
terms_sorted n low [] abut rules = absurd abut
terms_sorted n low (l ∷ []) abut rules = tt
terms_sorted n low (l ∷ k ∷ leaves) abut rules = both _ _ (holds _ (terms_above (n + 1) k.low l.low (k ∷ leaves) abut.3 rules.1 (rises l k rules.0 abut.1))) (terms_sorted (n + 1) k.low (k ∷ leaves) abut.3 rules.1)

least : (key : KeyBytes) → is_lt (key_cmp key []) ≡ false
least [] = refl
least (x ∷ xs) = refl

terms_inside : (n : ℕ) (leaves : List (LeafView ValueBytes)) → T (list_all (is_pair_in_range [] None) (terms_from n leaves))
terms_inside n [] = tt
terms_inside n (l ∷ leaves) = subst (λ b. T ((not b && true) && list_all (is_pair_in_range [] None) (terms_from (n + 1) leaves))) (sym (least l.low)) (terms_inside (n + 1) leaves)

pub root_rules : (leaves : List (LeafView ValueBytes)) → AreAbutting 0 [] leaves → AllByRecursion HasRules leaves → IsInner 1 [] None None (terms_from 0 leaves)
root_rules leaves abut rules = record {
  raised = omega arith;
  page = record { sorted = terms_sorted 0 [] leaves abut rules; inside = terms_inside 0 leaves; wide = tt; linked = refl };
  begins = begin leaves abut;
}
  where
    begin : (leaves : List (LeafView ValueBytes)) → AreAbutting 0 [] leaves → BeginsAt [] (terms_from 0 leaves)
    begin [] abut = absurd abut
    begin (l ∷ []) abut = abut.0
    begin (l ∷ k ∷ leaves) abut = abut.0

-- no leaf is a removed page, nor is the root over them
pub none_removed : (leaves : List (LeafView ValueBytes)) → HasNoRemoved (map base_of_leaf leaves)
none_removed [] n g e = clash e
  where
    clash : {a : Option Page} → None ≡ Some a → ⊥
    clash e = cc
none_removed (l ∷ leaves) zero g e = clash e
  where
    clash : Some (base_of_leaf l) ≡ Some (Some (GonePage g)) → ⊥
    clash e = cc
none_removed (l ∷ leaves) (suc n) g e = none_removed leaves n g e

pub none_under : (leaves : List (LeafView ValueBytes)) (root : InnerView) → HasNoRemoved (map base_of_leaf leaves ++ Some (InnerPage root) ∷ [])
none_under [] root zero g e = clash e
  where
    clash : Some (Some (InnerPage root)) ≡ Some (Some (GonePage g)) → ⊥
    clash e = cc
none_under [] root (suc n) g e = clash e
  where
    clash : {a : Option Page} → None ≡ Some a → ⊥
    clash e = cc
none_under (l ∷ leaves) root zero g e = clash e
  where
    clash : Some (base_of_leaf l) ≡ Some (Some (GonePage g)) → ⊥
    clash e = cc
none_under (l ∷ leaves) root (suc n) g e = none_under leaves root n g e
