-- Base pages and records that are added leave each page as it is.
use Rattle.std.proofs.Common.{inl, inr, ◌⊎◌, set, ◌≡◌, ℕ, zero, suc, ◌+◌, ◌-◌, ◌<◌, ◌≤◌, ◌^◌, false, cond, List, [], ◌∷◌, ◌++◌, length, map, max, Option, Some, None, ltb, refl, sym, ap, ◌∙◌, subst, arith, length-append}
use Rattle.std.proofs.lemmas.Bool.{cases_eq}
use Rattle.std.proofs.lemmas.List.{length-set}
use Rattle.std.proofs.lemmas.Bool.Decides.{nat_tests}
use Rattle.std.specs.Prelude.{slice_get}
use Rattle.bw_page.specs.declared.pages.Page.{Page}
use Rattle.bw_delta.specs.declared.deltas.Delta.{Delta}
use Rattle.bw_chain.specs.Placing.{put_at}
use Rattle.bw_level.specs.Slots.{Slot, Free, slot_at}
use Rattle.bw_level.specs.Changes.{Bases, based, change, plain}
use Rattle.bw_chain.specs.Chains.{AllEnd, ChainsView, IsChain, Records, Ends, IsShaped, floor_word, page_at, changed, delta_in, deltas_at, link_of, linked_word, record_at, slot_of_word, slots_of}
use Rattle.bw_chain.specs.Supports.{OwnBases, base_under}
use Rattle.bw_level.specs.Walk.{Leads}
use Rattle.bw_chain.proofs.BaseLemmas.{get_set_other, get_set_same}
use Rattle.bw_chain.proofs.ChainLemmas.{no_link, no_record, on_base, slot_of_way}
use Rattle.bw_chain.proofs.GrowthLemmas.{Extends, append_extends, still_ends}
use Rattle.bw_chain.proofs.PlacingLemmas.{get_put, get_put_other, length_put, put_where}
use Rattle.bw_chain.proofs.SupportLemmas.{base_within, ends_within, page_kept, still_rests}
use Rattle.bw_level.proofs.WalkLemmas.{ended_is}

one : {X : Type 0} {x y : X} → Some x ≡ Some y → x ≡ y
one e = cc

none : {X : Type 0} {x : X} → None ≡ Some x → ⊥
none e = cc

pub get_last : {X : Type 0} (xs : List X) (x : X) → slice_get (xs ++ x ∷ []) (length xs) ≡ Some x
get_last [] x = refl
get_last (y ∷ xs) x = get_last xs x

inside : {X : Type 0} (xs : List X) (i : ℕ) (x : X) → slice_get xs i ≡ Some x → i < length xs
inside [] i x e = absurd (none e)
inside (y ∷ xs) zero x e = omega arith
inside (y ∷ xs) (suc i) x e = let more = inside xs i x e in omega arith

-- the page of an entry of a mapping table
abbrev slot_of_entry : (ℕ → Slot) → Option ℕ → Slot
slot_of_entry f None = Free
slot_of_entry f (Some w) = f w

slot_is : (f : ℕ → Slot) (heads : List ℕ) (p : ℕ) → slot_at (map f heads) p ≡ slot_of_entry f (slice_get heads p)
slot_is f [] p = refl
slot_is f (h ∷ heads) zero = refl
slot_is f (h ∷ heads) (suc p) = slot_is f heads p

pub same_slot : (f g : ℕ → Slot) (heads heads' : List ℕ) (q : ℕ) → slice_get heads' q ≡ slice_get heads q → ((w : ℕ) → slice_get heads q ≡ Some w → g w ≡ f w) → slot_at (map g heads') q ≡ slot_at (map f heads) q
same_slot f g heads heads' q same agree = slot_is g heads' q ∙ ap (slot_of_entry g) same ∙ by (slice_get heads q) refl ∙ sym (slot_is f heads q)
  where
    by : (o : Option ℕ) → slice_get heads q ≡ o → slot_of_entry g (slice_get heads q) ≡ slot_of_entry f (slice_get heads q)
    by None e = ap (slot_of_entry g) e ∙ sym (ap (slot_of_entry f) e)
    by (Some w) e = ap (slot_of_entry g) e ∙ agree w e ∙ sym (ap (slot_of_entry f) e)

pub slot_here : (f : ℕ → Slot) (heads : List ℕ) (p w : ℕ) → slice_get heads p ≡ Some w → slot_at (map f heads) p ≡ f w
slot_here f heads p w at = slot_is f heads p ∙ ap (slot_of_entry f) at

-- a page without a record is its base page
pub page_is : (chains : ChainsView) (word : ℕ) (s : Slot) → IsChain chains word → word < floor_word → s ≡ based (slice_get chains.bases word) → page_at chains word ≡ s
page_is chains word s ends low is = on_base chains.bases chains.records word ends (no_record chains.records word low) ∙ sym is

-- a record is put over a page that had none
module _ (heads : List ℕ) (bases : Bases) (records : Records) (ends : AllEnd bases records heads) (own : OwnBases heads bases records) (p e : ℕ) (at : slice_get heads p ≡ Some e) (low : e < 2 ^ 32) (d : Delta) (shaped : IsShaped (based (slice_get bases e)) (d ∷ [])) where
  abbrev pub records_with : Records
  records_with = records ++ (d, e) ∷ []

  abbrev pub new_word : ℕ
  new_word = 2 ^ 32 + length records

  abbrev pub heads_with : List ℕ
  heads_with = set heads p new_word

  more : length records_with ≡ length records + 1
  more = length-append records ((d, e) ∷ [])

  is_record : record_at records_with new_word ≡ Some (d, e)
  is_record =
      let test : ltb new_word floor_word ≡ false = grind (arith, nat_tests) in
      ap (λ b. cond b None (slice_get records_with (new_word - floor_word))) test
      ∙ ap (slice_get records_with) place
      ∙ get_last records (d, e)
    where
      place : new_word - floor_word ≡ length records
      place = omega arith

  way : Leads (link_of records_with) new_word (new_word ∷ []) e
  way = (refl, (e, ap linked_word is_record, (refl, sym (no_link records_with e low))))

  listed : deltas_at records_with (new_word ∷ []) ≡ d ∷ []
  listed = ap (λ o. delta_in o []) is_record

  base_is : base_under records e ≡ e
  base_is = ended_is (link_of records) (length records) e [] e (refl, sym (no_link records e low)) (omega arith)

  within : e < length bases
  within = subst (λ n. n < length bases) base_is (base_within bases records e (ends p e at))

  ends_here : Ends bases records_with new_word
  ends_here = (new_word ∷ [], (e, record { way = way; short = omega (arith, more); within = within; limit = low; shaped = subst (IsShaped (based (slice_get bases e))) (sym listed) shaped }))

  extends : Extends records records_with
  extends = append_extends records ((d, e) ∷ [])

  kept_there : (q w : ℕ) → slice_get heads q ≡ Some w → Ends bases records_with w × (slot_of_word bases records_with w ≡ slot_of_word bases records w)
  kept_there q w at_q = still_ends bases records records_with w extends (omega (arith, more)) (ends q w at_q)

  get_here : slice_get heads_with p ≡ Some new_word
  get_here = get_set_same heads p new_word (inside heads p e at)

  is_there : (q w : ℕ) → slice_get heads_with q ≡ Some w → ((q ≡ p) × (w ≡ new_word)) ⊎ ((q ≡ p → ⊥) × (slice_get heads q ≡ Some w))
  is_there q w at_q = by (cases_eq q p)
    where
      by : (q ≡ p) ⊎ (q ≡ p → ⊥) → ((q ≡ p) × (w ≡ new_word)) ⊎ ((q ≡ p → ⊥) × (slice_get heads q ≡ Some w))
      by (inl same) = inl (same, one (sym at_q ∙ ap (slice_get heads_with) same ∙ get_here))
      by (inr other) = inr (other, sym (get_set_other heads p q new_word other) ∙ at_q)

  pub record_all_end : AllEnd bases records_with heads_with
  record_all_end q w at_q = by (is_there q w at_q)
    where
      by : ((q ≡ p) × (w ≡ new_word)) ⊎ ((q ≡ p → ⊥) × (slice_get heads q ≡ Some w)) → Ends bases records_with w
      by (inl here) = subst (Ends bases records_with) (sym here.1) ends_here
      by (inr there) = (kept_there q w there.1).0

  pub record_own : OwnBases heads_with bases records_with
  record_own = record {
    count = length-set heads p new_word ∙ own.count;
    number = λ q w at_q. by q w (is_there q w at_q);
  }
    where
      by : (q w : ℕ) → ((q ≡ p) × (w ≡ new_word)) ⊎ ((q ≡ p → ⊥) × (slice_get heads q ≡ Some w)) → base_under records_with w ≡ q
      by q w (inl here) =
          ap (base_under records_with) here.1
          ∙ ended_is (link_of records_with) (length records_with) new_word (new_word ∷ []) e way (omega (arith, more))
          ∙ sym base_is ∙ own.number p e at ∙ sym here.0
      by q w (inr there) = still_rests bases records records_with w extends (omega (arith, more)) (ends q w there.1) ∙ own.number q w there.1

  pub record_here : slot_at (slots_of heads_with bases records_with) p ≡ change bases d (slot_at (slots_of heads bases records) p)
  record_here =
      slot_here (slot_of_word bases records_with) heads_with p new_word get_here
      ∙ slot_of_way bases records_with new_word (new_word ∷ []) e way (omega (arith, more))
      ∙ ap (λ (l : List Delta). changed bases l (based (slice_get bases e))) listed
      ∙ sym (ap (change bases d) (slot_here (slot_of_word bases records) heads p e at ∙ on_base bases records e (ends p e at) (no_record records e low)))

  pub record_others : (q : ℕ) → (q ≡ p → ⊥) → slot_at (slots_of heads_with bases records_with) q ≡ slot_at (slots_of heads bases records) q
  record_others q other = same_slot (slot_of_word bases records) (slot_of_word bases records_with) heads heads_with q (get_set_other heads p q new_word other) (λ w at_q. (kept_there q w at_q).1)

-- A page is added, with a base page of its own number: it was free, or is the one behind all others.
module _ (heads : List ℕ) (bases : Bases) (records : Records) (ends : AllEnd bases records heads) (own : OwnBases heads bases records) (q : ℕ) (place : q ≤ length heads) (few : q < 2 ^ 32) (page : Page) where
  abbrev pub bases_with : Bases
  bases_with = put_at bases q (Some page)

  abbrev pub heads_and : List ℕ
  heads_and = put_at heads q q

  number : q ≤ length bases
  number = omega (arith, place, own.count)

  size : length bases_with ≡ max (length bases) (q + 1)
  size = length_put bases q (Some page) number

  alone : Leads (link_of records) q [] q
  alone = (refl, sym (no_link records q few))

  ends_alone : Ends bases_with records q
  ends_alone = ([], (q, record { way = alone; short = omega arith; within = omega (arith, size); limit = few; shaped = tt }))

  -- no other page rests on the new base page
  kept_under : (r w : ℕ) → (r ≡ q → ⊥) → slice_get heads r ≡ Some w → slice_get bases_with (base_under records w) ≡ slice_get bases (base_under records w)
  kept_under r w other at = get_put_other bases q (base_under records w) (Some page) number (λ same. other (sym (own.number r w at) ∙ same))

  pub page_all_end : AllEnd bases_with records heads_and
  page_all_end r w at = by (put_where heads q r q w place at)
    where
      by : ((r ≡ q) × (w ≡ q)) ⊎ ((r ≡ q → ⊥) × (slice_get heads r ≡ Some w)) → Ends bases_with records w
      by (inl here) = subst (Ends bases_with records) (sym here.1) ends_alone
      by (inr there) = ends_within bases bases_with records w (omega (arith, size)) (kept_under r w there.0 there.1) (ends r w there.1)

  pub page_own : OwnBases heads_and bases_with records
  page_own = record {
    count = length_put heads q q place ∙ ap (λ n. max n (q + 1)) own.count ∙ sym size;
    number = λ r w at. by r w (put_where heads q r q w place at);
  }
    where
      by : (r w : ℕ) → ((r ≡ q) × (w ≡ q)) ⊎ ((r ≡ q → ⊥) × (slice_get heads r ≡ Some w)) → base_under records w ≡ r
      by r w (inl here) = ap (base_under records) here.1 ∙ ended_is (link_of records) (length records) q [] q alone (omega arith) ∙ sym here.0
      by r w (inr there) = own.number r w there.1

  pub page_there : slot_at (slots_of heads_and bases_with records) q ≡ plain page
  page_there =
      slot_here (slot_of_word bases_with records) heads_and q q (get_put heads q q place)
      ∙ on_base bases_with records q ends_alone (no_record records q few)
      ∙ ap based (get_put bases q (Some page) number)

  pub page_others : (r : ℕ) → (r ≡ q → ⊥) → slot_at (slots_of heads_and bases_with records) r ≡ slot_at (slots_of heads bases records) r
  page_others r other = same_slot (slot_of_word bases records) (slot_of_word bases_with records) heads heads_and r (get_put_other heads q r q place other)
      (λ w at. page_kept bases bases_with records w (kept_under r w other at))
