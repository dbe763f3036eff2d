-- One base page takes the place of another.
use Rattle.std.proofs.Common.{inl, inr, ◌⊎◌, set, ◌≡◌, ℕ, zero, suc, ◌<◌, ◌^◌, List, [], ◌∷◌, length, map, Some, None, refl, sym, ap, ◌∙◌, subst, arith}
use Rattle.std.proofs.lemmas.Bool.{cases_eq}
use Rattle.std.proofs.lemmas.List.{length-set}
use Rattle.std.specs.Prelude.{slice_get}
use Rattle.bw_page.specs.declared.pages.Page.{Page}
use Rattle.bw_level.specs.Changes.{Bases, based, plain}
use Rattle.bw_chain.specs.Chains.{AllEnd, Records, Ends, EndsAt, link_of, slot_of_word, slots_of}
use Rattle.bw_level.specs.Slots.{Slot}
use Rattle.bw_chain.specs.Supports.{OwnBases, base_under}
use Rattle.bw_level.specs.Walk.{Leads}
use Rattle.bw_chain.proofs.ChainLemmas.{no_link, no_record, on_base}
use Rattle.bw_chain.proofs.GrowthLemmas.{same_map}
use Rattle.bw_chain.proofs.SupportLemmas.{base_within, ends_within, one_page, page_kept}
use Rattle.bw_level.proofs.WalkLemmas.{ended_is}

pub get_set_same : {X : Type 0} (xs : List X) (i : ℕ) (x : X) → i < length xs → slice_get (set xs i x) i ≡ Some x
get_set_same [] i x lt = absurd (omega arith)
get_set_same (y ∷ xs) zero x lt = refl
get_set_same (y ∷ xs) (suc i) x lt = get_set_same xs i x (omega arith)

pub get_set_other : {X : Type 0} (xs : List X) (i j : ℕ) (x : X) → (j ≡ i → ⊥) → slice_get (set xs i x) j ≡ slice_get xs j
get_set_other [] i j x other = refl
get_set_other (y ∷ xs) zero zero x other = absurd (other refl)
get_set_other (y ∷ xs) zero (suc j) x other = refl
get_set_other (y ∷ xs) (suc i) zero x other = refl
get_set_other (y ∷ xs) (suc i) (suc j) x other = get_set_other xs i j x (λ e. other (ap suc e))

-- a number of a base page is below those of records
pub base_low : (bases : Bases) (records : Records) (word : ℕ) → Ends bases records word → base_under records word < 2 ^ 32
base_low bases records word ends = by ends.0 ends.1.0 ends.1.1
  where
    by : (ws : List ℕ) (e : ℕ) → EndsAt bases records word ws e → base_under records word < 2 ^ 32
    by ws e h = subst (λ n. n < 2 ^ 32) (sym (ended_is (link_of records) (length records) word ws e h.way h.short)) h.limit

module _ (heads : List ℕ) (bases : Bases) (records : Records) (ends : AllEnd bases records heads) (own : OwnBases heads bases records) (p word : ℕ) (at : slice_get heads p ≡ Some word) (page : Page) where
  abbrev pub number : ℕ
  number = base_under records word

  abbrev pub heads_after : List ℕ
  heads_after = set heads p number

  abbrev pub bases_after : Bases
  bases_after = set bases number (Some page)

  within : number < length bases
  within = base_within bases records word (ends p word at)

  pub low : number < 2 ^ 32
  low = base_low bases records word (ends p word at)

  alone : Leads (link_of records) number [] number
  alone = (refl, sym (no_link records number low))

  ends_alone : Ends bases_after records number
  ends_alone = ([], (number, record { way = alone; short = omega arith; within = omega (arith, within, length-set bases number (Some page)); limit = low; shaped = tt }))

  -- the page stands alone where the chain was
  pub put_there : slot_of_word bases_after records number ≡ plain page
  put_there = on_base bases_after records number ends_alone (no_record records number low) ∙ ap based (get_set_same bases number (Some page) within)

  -- no other page rests on that base page
  kept_under : (q w : ℕ) → (q ≡ p → ⊥) → slice_get heads q ≡ Some w → slice_get bases_after (base_under records w) ≡ slice_get bases (base_under records w)
  kept_under q w other at_q = get_set_other bases number (base_under records w) (Some page) (λ same. other (one_page heads bases records own q p w word at_q at same))

  -- so the other pages are as they were
  pub others_kept : (q w : ℕ) → slice_get heads q ≡ Some w → (q ≡ p → ⊥) → slot_of_word bases_after records w ≡ slot_of_word bases records w
  others_kept q w at_q other = page_kept bases bases_after records w (kept_under q w other at_q)

  is_there : (q w : ℕ) → slice_get heads_after q ≡ Some w → ((q ≡ p) × (w ≡ number)) ⊎ ((q ≡ p → ⊥) × (slice_get heads q ≡ Some w))
  is_there q w at_q = by (cases_eq q p)
    where
      one : {x y : ℕ} → Some x ≡ Some y → x ≡ y
      one e = cc

      by : (q ≡ p) ⊎ (q ≡ p → ⊥) → ((q ≡ p) × (w ≡ number)) ⊎ ((q ≡ p → ⊥) × (slice_get heads q ≡ Some w))
      by (inl same) = inl (same, one (sym at_q ∙ ap (slice_get heads_after) same ∙ get_set_same heads p number (inside heads p at)))
        where
          none : None ≡ Some word → ⊥
          none e = cc

          inside : (xs : List ℕ) (i : ℕ) → slice_get xs i ≡ Some word → i < length xs
          inside [] i e = absurd (none e)
          inside (x ∷ xs) zero e = omega arith
          inside (x ∷ xs) (suc i) e = let more = inside xs i e in omega arith
      by (inr other) = inr (other, sym (get_set_other heads p q number other) ∙ at_q)

  pub all_end : AllEnd bases_after records heads_after
  all_end q w at_q = by (is_there q w at_q)
    where
      by : ((q ≡ p) × (w ≡ number)) ⊎ ((q ≡ p → ⊥) × (slice_get heads q ≡ Some w)) → Ends bases_after records w
      by (inl here) = subst (Ends bases_after records) (sym here.1) ends_alone
      by (inr there) = ends_within bases bases_after records w (omega (arith, length-set bases number (Some page))) (kept_under q w there.0 there.1) (ends q w there.1)

  pub own_after : OwnBases heads_after bases_after records
  own_after = record {
    count = length-set heads p number ∙ own.count ∙ sym (length-set bases number (Some page));
    number = λ q w at_q. by q w (is_there q w at_q);
  }
    where
      by : (q w : ℕ) → ((q ≡ p) × (w ≡ number)) ⊎ ((q ≡ p → ⊥) × (slice_get heads q ≡ Some w)) → base_under records w ≡ q
      by q w (inl here) = ap (base_under records) here.1 ∙ ended_is (link_of records) (length records) number [] number alone (omega arith) ∙ own.number p word at ∙ sym here.0
      by q w (inr there) = own.number q w there.1

-- a list mapped in one way, and with one element changed in another way
mapped_set : (f g : ℕ → Slot) (xs : List ℕ) (i n : ℕ) → ((j x : ℕ) → slice_get xs j ≡ Some x → (j ≡ i → ⊥) → g x ≡ f x) → ((x : ℕ) → slice_get xs i ≡ Some x → g n ≡ f x) → map g (set xs i n) ≡ map f xs
mapped_set f g [] i n others here = refl
mapped_set f g (x ∷ xs) zero n others here =
    ap (λ (s : Slot). s ∷ map g xs) (here x refl)
    ∙ ap (λ (l : List Slot). f x ∷ l) (same_map f g xs (λ j y at. others (suc j) y at (λ e. omega (arith, e))))
mapped_set f g (x ∷ xs) (suc i) n others here =
    ap (λ (s : Slot). s ∷ map g (set xs i n)) (others 0 x refl (λ e. omega (arith, e)))
    ∙ ap (λ (l : List Slot). f x ∷ l) (mapped_set f g xs i n (λ j y at other. others (suc j) y at (λ e. other (omega (arith, e)))) here)

-- where the chain makes the same of its page, all pages stay as they are
pub same_slots : (heads : List ℕ) (bases : Bases) (records : Records) → AllEnd bases records heads → OwnBases heads bases records → (p word : ℕ) → slice_get heads p ≡ Some word → (page : Page) → slot_of_word bases records word ≡ plain page →
    slots_of (set heads p (base_under records word)) (set bases (base_under records word) (Some page)) records ≡ slots_of heads bases records
same_slots heads bases records ends own p word at page made =
    mapped_set (slot_of_word bases records) (slot_of_word (set bases (base_under records word) (Some page)) records) heads p (base_under records word)
    (others_kept heads bases records ends own p word at page)
    (λ x at_p. put_there heads bases records ends own p word at page ∙ sym made ∙ ap (slot_of_word bases records) (one (sym at ∙ at_p)))
  where
    one : {x y : ℕ} → Some x ≡ Some y → x ≡ y
    one e = cc
