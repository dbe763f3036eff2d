-- A change of pages that leaves lawful levels and what they hold leaves a tree that holds the same.
use Rattle.std.proofs.Common.{inl, inr, ◌⊎◌, set, ◌≡◌, ℕ, zero, suc, ◌<◌, ◌≤◌, ◌^◌, List, [], ◌∷◌, length, Option, refl, sym, ap, ◌∙◌, subst, arith}
use Rattle.std.proofs.lemmas.Bool.{cases_eq, cases_lt}
use Rattle.std.proofs.lemmas.List.{get_or-set_other, get_or-set_same, length-set}
use Rattle.std.specs.Option.{unwrap_or}
use Rattle.std.specs.Prelude.{slice_get, slice_index}
use Rattle.std.specs.List.{AllByRecursion}
use Rattle.bw_delta.specs.History.{HasDistinctStamps}
use Rattle.bw_delta.specs.Writes.{WriteView}
use Rattle.bw_level.specs.Changes.{Bases}
use Rattle.bw_chain.specs.Chains.{AllEnd, Records, slots_of}
use Rattle.bw_level.specs.Entries.{AreExact}
use Rattle.bw_level.specs.Laws.{KeepsAll}
use Rattle.bw_level.specs.Levels.{AreLevels, levels_under, row}
use Rattle.bw_chain.specs.Placing.{put_at}
use Rattle.bw_level.specs.Reading.{contents_in, row_writes}
use Rattle.bw_level.specs.Searches.{AllStand, IsInLevels}
use Rattle.bw_level.specs.Slots.{Slot}
use Rattle.bw_chain.specs.Supports.{OwnBases}
use Rattle.bw_level.proofs.LevelLemmas.{levels_now}
use Rattle.bw_chain.proofs.PlacingLemmas.{get_put, get_put_other, length_put}
use Rattle.bw_look.specs.Trees.{ArePlaced, IsStanding}

-- pages with records still stand on a level where one page's word was set, if that page does
pub placed_set : (heads : List ℕ) (levels : List (List ℕ)) (p word : ℕ) → p < length heads → (2 ^ 32 ≤ word → IsInLevels levels p) → ArePlaced heads levels → ArePlaced (set heads p word) levels
placed_set heads levels p word within on placed r lt high = by (cases_eq r p)
  where
    by : (r ≡ p) ⊎ (r ≡ p → ⊥) → IsInLevels levels r
    by (inl here) =
        let now : slice_index (set heads p word) r ≡ word = ap (slice_index (set heads p word)) here ∙ get_or-set_same heads p word 0 within in
        subst (IsInLevels levels) (sym here) (on (subst (λ w. 2 ^ 32 ≤ w) now high))
    by (inr other) = placed r (omega (arith, lt, length-set heads p word)) (subst (λ w. 2 ^ 32 ≤ w) (get_or-set_other heads p r word 0 other) high)

-- the number at a place is that of the entry there
pub index_is : (xs : List ℕ) (i : ℕ) → slice_index xs i ≡ unwrap_or (slice_get xs i) 0
index_is [] i = refl
index_is (x ∷ xs) zero = refl
index_is (x ∷ xs) (suc i) = index_is xs i

-- a new page has the word of its own base page
pub word_of_new : (heads : List ℕ) (q : ℕ) → q ≤ length heads → slice_index (put_at heads q q) q ≡ q
word_of_new heads q place = index_is (put_at heads q q) q ∙ ap (λ (o : Option ℕ). unwrap_or o 0) (get_put heads q q place)

-- and all others have the words that they had
pub words_but_new : (heads : List ℕ) (q r : ℕ) → q ≤ length heads → (r ≡ q → ⊥) → slice_index (put_at heads q q) r ≡ slice_index heads r
words_but_new heads q r place other =
    index_is (put_at heads q q) r ∙ ap (λ (o : Option ℕ). unwrap_or o 0) (get_put_other heads q r q place other) ∙ sym (index_is heads r)

-- so pages with records still stand on a level beside a page that is added without one
pub placed_added : (heads : List ℕ) (levels : List (List ℕ)) (q : ℕ) → q ≤ length heads → q < 2 ^ 32 → ArePlaced heads levels → ArePlaced (put_at heads q q) levels
placed_added heads levels q place low placed r lt high = by (cases_eq r q) (cases_lt r (length heads))
  where
    by : (r ≡ q) ⊎ (r ≡ q → ⊥) → (r < length heads) ⊎ (length heads ≤ r) → IsInLevels levels r
    by (inl new) where_it = absurd (omega (arith, low, high, ap (slice_index (put_at heads q q)) new ∙ word_of_new heads q place))
    by (inr other) (inl before) = placed r before (subst (λ w. 2 ^ 32 ≤ w) (words_but_new heads q r place other) high)
    by (inr other) (inr behind) = absurd (other (omega (arith, lt, behind, place, length_put heads q q place)))

module _ (heads : List ℕ) (bases : Bases) (records : Records) (root next : ℕ) (t : IsStanding heads bases records root next) (heads' : List ℕ) (bases' : Bases) (records' : Records) (root' : ℕ) (levels' : List (List ℕ)) where
  abbrev old_slots : List Slot
  old_slots = slots_of heads bases records

  abbrev new_slots : List Slot
  new_slots = slots_of heads' bases' records'

  abbrev pub IsKept : Type 0
  IsKept = KeepsAll old_slots new_slots root' (levels_under old_slots root) levels'

  pub same_levels : IsKept → levels_under new_slots root' ≡ levels'
  same_levels kept = levels_now new_slots root' levels' kept.lawful

  abbrev IsPast : WriteView → Type 0
  IsPast w = w.stamp < next

  pub standing_kept : IsKept → AllEnd bases' records' heads' → OwnBases heads' bases' records' → length records' ≤ 2 ^ 32 → length heads' ≤ 2 ^ 32 → length bases' ≤ 2 ^ 32 → ArePlaced heads' levels' → IsStanding heads' bases' records' root' next
  standing_kept kept ends own few_records few_pages few_bases placed =
      let same = same_levels kept in
      record {
        ends = ends;
        own = own;
        lawful = subst (AreLevels new_slots root') (sym same) kept.lawful;
        exact = subst (AreExact new_slots) (sym same) (kept.exact t.exact);
        stand = subst (AllStand new_slots) (sym same) (kept.stand t.stand);
        distinct = subst (λ (l : List (List ℕ)). HasDistinctStamps (row_writes new_slots (row l 0))) (sym same) (subst HasDistinctStamps (sym kept.writes) t.distinct);
        past = subst (λ (l : List (List ℕ)). AllByRecursion IsPast (row_writes new_slots (row l 0))) (sym same) (subst (AllByRecursion IsPast) (sym kept.writes) t.past);
        placed = subst (ArePlaced heads') (sym same) placed;
        fits = t.fits;
        few_records = few_records;
        few_pages = few_pages;
        few_bases = few_bases;
      }

  pub contents_same : IsKept → (stamp : ℕ) → contents_in new_slots (levels_under new_slots root') stamp ≡ contents_in old_slots (levels_under old_slots root) stamp
  contents_same kept stamp = ap (λ (l : List (List ℕ)). contents_in new_slots l stamp) (same_levels kept) ∙ kept.contents t.distinct stamp
