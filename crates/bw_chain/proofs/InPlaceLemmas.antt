-- A base page is another one in its place.
use Rattle.std.proofs.Common.{set, true, false, ◌≡◌, ℕ, zero, suc, ◌<◌, ◌^◌, List, [], ◌∷◌, length, get_or, Option, Some, None, refl, sym, ap, ◌∙◌, subst, arith}
use Rattle.std.proofs.lemmas.Option.{get_or_from_slice_get, slice_get-get_or}
use Rattle.std.specs.Prelude.{slice_get}
use Rattle.bw_key.specs.Order.{KeyBytes}
use Rattle.bw_page.specs.declared.pages.Page.{Page}
use Rattle.bw_delta.specs.Writes.{WriteView}
use Rattle.bw_delta.specs.declared.deltas.Delta.{Delta}
use Rattle.bw_delta.specs.declared.deltas.Delta.TheVariants.{Put, Split, Absorb, Removed, AddChild, DropChild}
use Rattle.bw_level.specs.Changes.{Bases, based, change, plain}
use Rattle.bw_chain.specs.Chains.{AllEnd, ChainsView, IsChain, Records, Ends, EndsAt, IsShaped, delta_in, deltas_at, floor_word, link_of, page_at, record_at, slot_of_word, slots_of}
use Rattle.bw_chain.specs.Restructuring.{IsRebasedAt, is_told}
use Rattle.bw_level.specs.Slots.{IsSound, Slot, slot_at}
use Rattle.bw_chain.specs.Supports.{OwnBases, base_under}
use Rattle.bw_level.specs.Walk.{Leads}
use Rattle.bw_chain.proofs.AdditionLemmas.{page_is, same_slot, slot_here}
use Rattle.bw_chain.proofs.BaseLemmas.{all_end, others_kept, own_after, put_there}
use Rattle.bw_chain.proofs.ChainLemmas.{link_is, no_link, none_on, under_other}
use Rattle.bw_chain.proofs.SupportLemmas.{base_within}
use Rattle.bw_level.proofs.WalkLemmas.{ended_is}

one : {x y : ℕ} → Some x ≡ Some y → x ≡ y
one e = cc

one_of : {A : Type 0} {x y : A} → Some x ≡ Some y → x ≡ y
one_of e = cc

none : {x : ℕ} → None ≡ Some x → ⊥
none e = cc

-- a change under which no other lies, lies straight over the base page
under_one : (bases : Bases) (records : Records) (word under : ℕ) (d : Delta) → ((base : Slot) (ds : List Delta) → IsShaped base (d ∷ ds) → ds ≡ []) → Ends bases records word → record_at records word ≡ Some (d, under) → base_under records word ≡ under
under_one bases records word under d alone ends at = by ends.0 ends.1.0 ends.1.1
  where
    link : link_of records word ≡ Some under
    link = link_is records word (d, under) at

    by : (ws : List ℕ) (e : ℕ) → EndsAt bases records word ws e → base_under records word ≡ under
    by [] e h = absurd (none (sym h.way.1 ∙ link))
    by (w ∷ ws) e h =
        let listed : deltas_at records (w ∷ ws) ≡ d ∷ deltas_at records ws = ap (λ o. delta_in o (deltas_at records ws)) (ap (record_at records) h.way.0 ∙ at) in
        let last : ws ≡ [] = none_on records h.way.1.0 ws e h.way.1.2 (alone (based (slice_get bases e)) (deltas_at records ws) (subst (IsShaped (based (slice_get bases e))) listed h.shaped)) in
        let there : Leads (link_of records) h.way.1.0 [] e = subst (λ (l : List ℕ). Leads (link_of records) h.way.1.0 l e) last h.way.1.2 in
        ended_is (link_of records) (length records) word (w ∷ ws) e h.way h.short ∙ sym there.0 ∙ one (sym h.way.1.1 ∙ link)

-- a split lies straight over the base page
pub under_split : (bases : Bases) (records : Records) (word under : ℕ) (k : KeyBytes) (to : ℕ) → Ends bases records word → record_at records word ≡ Some (Split k to, under) → base_under records word ≡ under
under_split bases records word under k to ends at = under_one bases records word under (Split k to) (λ base ds last. last) ends at

-- what is known of a chain that is a split over its base page
pub record IsSplitAt (chains : ChainsView) (head number : ℕ) (k : KeyBytes) (to : ℕ) (base : Option Page) : Type 0 where
  pub under : number ≡ base_under chains.records head
  pub state : page_at chains head ≡ change chains.bases (Split k to) (based (Some base))
  pub sound : IsSound (change chains.bases (Split k to) (based (Some base)))

pub split_within : (chains : ChainsView) (head number : ℕ) (k : KeyBytes) (to : ℕ) → IsChain chains head → record_at chains.records head ≡ Some (Split k to, number) → number < length chains.bases
split_within chains head number k to ends at =
    subst (λ n. n < length chains.bases) (under_split chains.bases chains.records head number k to ends at) (base_within chains.bases chains.records head ends)

pub split_at : (chains : ChainsView) (head number : ℕ) (k : KeyBytes) (to : ℕ) (base : Option Page) → IsChain chains head → record_at chains.records head ≡ Some (Split k to, number) → IsSound (page_at chains head) → base ≡ get_or chains.bases number base → IsSplitAt chains head number k to base
split_at chains head number k to base ends at sound read =
    let there : slice_get chains.bases number ≡ Some base = slice_get-get_or chains.bases number base (split_within chains head number k to ends at) ∙ ap (λ (o : Option Page). Some o) (sym read) in
    let state : page_at chains head ≡ change chains.bases (Split k to) (based (Some base)) =
    (under_other chains.bases chains.records head number (Split k to) ends at (λ w e. no_put e)).0 ∙ ap (λ (o : Option (Option Page)). change chains.bases (Split k to) (based o)) there in
    record {
      under = sym (under_split chains.bases chains.records head number k to ends at);
      state = state;
      sound = subst IsSound state sound;
    }
  where
    no_put : {w : WriteView} → Split k to ≡ Put w → ⊥
    no_put e = cc

-- a base page that stays is there
live_base : (o : Option (Option Page)) → IsSound (based o) → (page : Page) × (o ≡ Some (Some page))
live_base None sound = absurd sound
live_base (Some None) sound = absurd sound
live_base (Some (Some page)) sound = (page, refl)

set_same : {A : Type 0} (xs : List A) (i : ℕ) (x : A) → slice_get xs i ≡ Some x → set xs i x ≡ xs
set_same [] i x at = refl
set_same (y ∷ xs) zero x at = ap (λ z. z ∷ xs) (sym (one_of at))
set_same (y ∷ xs) (suc i) x at = ap (λ l. y ∷ l) (set_same xs i x at)

-- what a record tells of the base page under it, that page has already
pub told_base : (chains : ChainsView) (head number : ℕ) (d : Delta) → IsChain chains head → record_at chains.records head ≡ Some (d, number) → is_told (Some (d, number)) ≡ true → IsSound (page_at chains head) → IsRebasedAt chains chains head number
told_base chains head number d ends at told sound = by d at told
  where
    rebased : (d : Delta) → record_at chains.records head ≡ Some (d, number) → ((base : Slot) (ds : List Delta) → IsShaped base (d ∷ ds) → ds ≡ []) → page_at chains head ≡ based (slice_get chains.bases number) → IsRebasedAt chains chains head number
    rebased d at alone state =
        let there = live_base (slice_get chains.bases number) (subst IsSound state sound) in
        record {
          page = there.0;
          same = sym (state ∙ ap based there.1);
          under = sym (under_one chains.bases chains.records head number d alone ends at);
          bases = sym (set_same chains.bases number (Some there.0) there.1);
          records = refl;
        }

    told_not : false ≡ true → ⊥
    told_not e = cc

    no_absorb : {base : ℕ} {side : Option ℕ} {w : WriteView} → Absorb base side ≡ Put w → ⊥
    no_absorb e = cc

    no_drop : {k : KeyBytes} {w : WriteView} → DropChild k ≡ Put w → ⊥
    no_drop e = cc

    by : (d : Delta) → record_at chains.records head ≡ Some (d, number) → is_told (Some (d, number)) ≡ true → IsRebasedAt chains chains head number
    by (Put w) at told = absurd (told_not told)
    by (Split k to) at told = absurd (told_not told)
    by (Absorb base side) at told = rebased (Absorb base side) at (λ b ds alone. alone.0) (under_other chains.bases chains.records head number (Absorb base side) ends at (λ w e. no_absorb e)).0
    by (Removed left) at told = absurd (told_not told)
    by (AddChild k child) at told = absurd (told_not told)
    by (DropChild k) at told = rebased (DropChild k) at (λ b ds alone. alone) (under_other chains.bases chains.records head number (DropChild k) ends at (λ w e. no_drop e)).0

-- a mapping word that names a base page
pub under_plain : (records : Records) (word : ℕ) → word < floor_word → base_under records word ≡ word
under_plain records word low = ended_is (link_of records) (length records) word [] word (refl, sym (no_link records word low)) (omega arith)

pub plain_within : (chains : ChainsView) (word : ℕ) → IsChain chains word → word < floor_word → word < length chains.bases
plain_within chains word ends low = subst (λ n. n < length chains.bases) (under_plain chains.records word low) (base_within chains.bases chains.records word ends)

pub plain_at : (chains : ChainsView) (word : ℕ) (base : Option Page) → IsChain chains word → word < floor_word → base ≡ get_or chains.bases word base → page_at chains word ≡ based (Some base)
plain_at chains word base ends low read = page_is chains word (based (Some base)) ends low
    (ap based (sym (slice_get-get_or chains.bases word base (plain_within chains word ends low) ∙ ap (λ (o : Option Page). Some o) (sym read))))

-- a page that was taken out is the chain's
pub taken : (chains : ChainsView) (items : Bases) (word : ℕ) (page : Option Page) → IsChain chains word → word < floor_word → items ≡ chains.bases →
    slice_get items word ≡ Some page → page_at chains word ≡ based (Some page)
taken chains items word page ends plain same is =
    plain_at chains word page ends plain (sym (get_or_from_slice_get items word page page is) ∙ ap (λ (bs : Bases). get_or bs word page) same)

-- the base page of a page without a record, whose mapping word stays
module _ (heads : List ℕ) (bases : Bases) (records : Records) (ends : AllEnd bases records heads) (own : OwnBases heads bases records) (p word : ℕ) (at : slice_get heads p ≡ Some word) (low : word < 2 ^ 32) (page : Page) where
  abbrev pub bases_now : Bases
  bases_now = set bases word (Some page)

  abbrev put : Bases
  put = set bases (base_under records word) (Some page)

  words : set heads p (base_under records word) ≡ heads
  words = ap (set heads p) (under_plain records word low) ∙ set_same heads p word at

  same : put ≡ bases_now
  same = ap (λ n. set bases n (Some page)) (under_plain records word low)

  pub now_end : AllEnd bases_now records heads
  now_end = subst (λ (b : Bases). AllEnd b records heads) same (subst (AllEnd put records) words (all_end heads bases records ends own p word at page))

  pub now_own : OwnBases heads bases_now records
  now_own = subst (λ (b : Bases). OwnBases heads b records) same (subst (λ (h : List ℕ). OwnBases h put records) words (own_after heads bases records ends own p word at page))

  pub now_here : slot_at (slots_of heads bases_now records) p ≡ plain page
  now_here =
      slot_here (slot_of_word bases_now records) heads p word at
      ∙ ap (λ (b : Bases). slot_of_word b records word) (sym same)
      ∙ ap (slot_of_word put records) (sym (under_plain records word low))
      ∙ put_there heads bases records ends own p word at page

  pub now_others : (q : ℕ) → (q ≡ p → ⊥) → slot_at (slots_of heads bases_now records) q ≡ slot_at (slots_of heads bases records) q
  now_others q other =
      same_slot (slot_of_word bases records) (slot_of_word bases_now records) heads heads q refl
      (λ w at_q. subst (λ (b : Bases). slot_of_word b records w ≡ slot_of_word bases records w) same (others_kept heads bases records ends own p word at page q w at_q other))
