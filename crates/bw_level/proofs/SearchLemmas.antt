-- The way of a search.
use Rattle.std.proofs.Common.{◌≡◌, ℕ, ◌+◌, ◌<◌, ◌≤◌, true, false, not, T, List, [], ◌∷◌, length, get_or, Option, Some, None, is_some, refl, sym, ap, ◌∙◌, subst, arith}
use Rattle.std.specs.Ordering.{is_lt}
use Rattle.bw_key.specs.Order.{KeyBytes, key_cmp}
use Rattle.bw_model.specs.Contents.{is_below_end}
use Rattle.bw_page.specs.Inners.{InnerView, IsInner, IsLastUpto, is_upto}
use Rattle.bw_page.specs.Pages.{BeginsAt}
use Rattle.bw_page.proofs.Truths.{holds, true_holds, holds_not}
use Rattle.bw_page.proofs.KeyLemmas.{below_upto}
use Rattle.bw_level.specs.declared.turns.Turn.TheVariants.{Here, Right, Down, Left}
use Rattle.bw_level.specs.declared.target.Target.{Target}
use Rattle.bw_level.specs.Slots.{Slot, PageState, Body, Pairs, Children, Free, Gone, Live, slot_at, left_of_slot, IsSoundBody}
use Rattle.bw_level.specs.Levels.{AreLevels, row}
use Rattle.bw_level.specs.Scans.{Reaches}
use Rattle.bw_level.specs.Before.{IsBefore}
use Rattle.bw_level.specs.Targets.{AreAtHome, IsLinked, IsTurnFor, SeparatorsAgree, StandsFor, StandsOn, StandsOnAll, StartsFrom, lies_from, lies_past}
use Rattle.bw_level.specs.Turns.{IsTurn, StartsUpto}
use Rattle.bw_level.specs.Searches.{IsInLevels, IsPlaceFor, IsSearching, Sought, plain_inner}
use Rattle.bw_level.proofs.RowLemmas.{in_row}
use Rattle.bw_level.proofs.RouteLemmas.{Next, rank, go_down, root_sought, stands_on, sought_held, sought_upto, turned_right, turned_down, turned_left, turned_here}
use Rattle.bw_level.proofs.TargetLemmas.{lies_before, entry_child, entry_there}
use Rattle.bw_level.proofs.MarkLemmas.{mark, mark_from, mark_stands}

different : false ≡ true → ⊥
different e = cc

one_state : {s t : PageState} → Live s ≡ Live t → s ≡ t
one_state e = cc

-- where a key is sought that isn't before what is sought, that doesn't lie before the page
starts_there : (slot : Slot) (target : Target) (key : KeyBytes) → lies_from target key ≡ true → StartsUpto slot key → StartsFrom slot target
starts_there Free target key from starts = starts
starts_there (Gone l) target key from starts = tt
starts_there (Live s) target key from starts = true_holds _ (lies_before target s.low key from (holds_not _ starts))

pub linked_of : (low : KeyBytes) (high : Option KeyBytes) (side : Option ℕ) (b : Body) → IsSoundBody low high side b → is_some side ≡ is_some high
linked_of low high side (Pairs pairs writes) sound = sound.page.linked
linked_of low high side (Children level children) sound = sound.page.linked

-- the search goes on at q, with less left
pub record IsNext (slots : List Slot) (levels : List (List ℕ)) (target : Target) (p q : ℕ) : Type 0 where
  pub searching : IsSearching slots levels target q
  pub less : rank slots q < rank slots p

module _ (slots : List Slot) (root : ℕ) (levels : List (List ℕ)) (lawful : AreLevels slots root levels) (target : Target) where
  -- a search begins at the root
  pub begins : IsSearching slots levels target root
  begins key stands = root_sought slots root levels lawful key

  -- or at the child that a page of a level has for what is sought
  pub begins_under : (p place : ℕ) (inner : InnerView) (d : KeyBytes × ℕ) → IsInLevels levels p → slot_at slots p ≡ plain_inner inner → IsInner inner.level inner.low inner.high inner.side inner.children →
      IsPlaceFor target inner.children (Some place) → IsSearching slots levels target (get_or inner.children place d).1
  begins_under p place inner d on is rules there key stands =
      let low = inner.low in
      let children = inner.children in
      let stands_there : StandsFor target key inner.high children = subst (λ (o : Slot). StandsOn target key o) is (stands p) in
      let from : lies_from target low ≡ true = first_from low children rules.begins (there.1.0 0) in
      let upto : is_upto low key ≡ true = first_upto low children rules.begins key from stands_there.separators in
      let child : IsLastUpto key children (get_or children place d).1 =
      subst (λ n. IsLastUpto key children (get_or children n d).1) (omega arith)
      (entry_child target children _ (entry_there target inner.level low inner.high inner.side children (place + 1) d rules (true_holds _ from) there.1 (omega (arith, there.0))) key stands_there.separators) in
      let sought : Sought slots levels key p = record {
        level = on.level;
        removed = [];
        page = p;
        way = (refl, ap left_of_slot is);
        reached = record { within = on.within; in_level = on.in_level; state = _; is = is; from_low = true_holds _ upto };
      } in
      (go_down slots root levels lawful key p (get_or children place d).1 sought _ is child).sought
    where
      first_from : (low : KeyBytes) (es : List (KeyBytes × ℕ)) → BeginsAt low es → ((e : KeyBytes × ℕ) → 0 ≤ 0 → 0 < place + 1 → lies_from target (get_or es 0 e).0 ≡ true) → lies_from target low ≡ true
      first_from low [] begins from = absurd begins
      first_from low (e ∷ es) begins from = ap (lies_from target) (sym begins) ∙ from e (omega arith) (omega arith)

      first_upto : (low : KeyBytes) (es : List (KeyBytes × ℕ)) → BeginsAt low es → (key : KeyBytes) → lies_from target low ≡ true → SeparatorsAgree target key es → is_upto low key ≡ true
      first_upto low [] begins key from agree = absurd begins
      first_upto low (e ∷ es) begins key from agree = ap (λ (k : KeyBytes). is_upto k key) (sym begins) ∙ sym (agree e (0, omega arith, refl)) ∙ ap (lies_from target) begins ∙ from

  -- it ends at the home of each key that stands for what is sought
  pub ends_home : (p : ℕ) → IsSearching slots levels target p → IsTurnFor target (slot_at slots p) Here → AreAtHome slots levels target p
  ends_home p h t key stands = turned_here slots root levels lawful key p (h key stands) (t key (stands p))

  module _ (starts : T (lies_from target [])) where
    abbrev stand_in : KeyBytes
    stand_in = mark slots target

    stands_in : StandsOnAll slots target stand_in
    stands_in = mark_stands slots target starts

    pub held_there : (p : ℕ) → IsSearching slots levels target p → p < length slots
    held_there p h = sought_held slots root levels lawful stand_in p (h stand_in stands_in)

    pub starts_from : (p : ℕ) → IsSearching slots levels target p → StartsFrom (slot_at slots p) target
    starts_from p h = starts_there (slot_at slots p) target stand_in (mark_from slots target starts) (sought_upto slots root levels lawful stand_in p (h stand_in stands_in))

    pub linked_there : (p : ℕ) → IsSearching slots levels target p → IsLinked (slot_at slots p)
    linked_there p h = by (slot_at slots p) refl
      where
        by : (o : Slot) → slot_at slots p ≡ o → IsLinked o
        by Free is = tt
        by (Gone l) is = tt
        by (Live s) is =
            let sought = h stand_in stands_in in
            let r = stands_on slots root levels lawful stand_in p sought s is in
            let at = in_row slots sought.level [] (row levels sought.level) r.in_level.0 p (lawful.rows sought.level r.within) r.in_level.1 r.in_level.2 in
            subst (λ (t : PageState). is_some t.side ≡ is_some t.high) (one_state (sym at.stands.is ∙ is)) (linked_of _ _ _ at.stands.state.body at.stands.sound)

    -- a search goes down from a page of a level
    pub in_levels : (p q : ℕ) → IsSearching slots levels target p → IsTurnFor target (slot_at slots p) (Down q) → IsInLevels levels p
    in_levels p q h t = by (slot_at slots p) refl (t stand_in (stands_in p))
      where
        by : (o : Slot) → slot_at slots p ≡ o → IsTurn o stand_in (Down q) → IsInLevels levels p
        by Free is turn = absurd turn
        by (Gone l) is turn = absurd turn
        by (Live s) is turn =
            let sought = h stand_in stands_in in
            let r = stands_on slots root levels lawful stand_in p sought s is in
            record { level = sought.level; within = r.within; in_level = r.in_level }

    -- else each turn leads on
    goes_on : (p q : ℕ) → IsSearching slots levels target p → ((key : KeyBytes) → StandsOnAll slots target key → Next slots levels key p q) → IsNext slots levels target p q
    goes_on p q h next = record { searching = λ key stands. (next key stands).sought; less = (next stand_in stands_in).less }

    pub goes_right : (p q : ℕ) → IsSearching slots levels target p → IsTurnFor target (slot_at slots p) (Right q) → IsNext slots levels target p q
    goes_right p q h t = goes_on p q h (λ key stands. turned_right slots root levels lawful key p q (h key stands) (t key (stands p)))

    pub goes_down : (p q : ℕ) → IsSearching slots levels target p → IsTurnFor target (slot_at slots p) (Down q) → IsNext slots levels target p q
    goes_down p q h t = goes_on p q h (λ key stands. turned_down slots root levels lawful key p q (h key stands) (t key (stands p)))

    pub goes_left : (p q : ℕ) → IsSearching slots levels target p → IsTurnFor target (slot_at slots p) (Left q) → IsNext slots levels target p q
    goes_left p q h t = goes_on p q h (λ key stands. turned_left slots root levels lawful key p q (h key stands) (t key (stands p)))

-- a range that has a key which stands for an end reaches the end
reaches_marked : (high end : Option KeyBytes) (target : Target) (key : KeyBytes) → ((k : KeyBytes) → lies_from target k ≡ is_below_end end k) → lies_past target high ≡ not (is_below_end high key) → T (is_below_end high key) → Reaches high end
reaches_marked None end target key is agree above = λ x below. tt
reaches_marked (Some h) end target key is agree above = λ x below. true_holds _ (by end (sym (is h) ∙ agree ∙ ap not (holds _ above)) x (holds _ below))
  where
    by : (end : Option KeyBytes) → is_below_end end h ≡ false → (x : KeyBytes) → is_below_end end x ≡ true → is_lt (key_cmp x h) ≡ true
    by None e x below = absurd (different (sym e))
    by (Some to) e x below = below_upto x to h below e

-- the home of a key that stands for an end is the leaf before the end
pub home_before : (slots : List Slot) (levels : List (List ℕ)) (end : Option KeyBytes) (target : Target) (p : ℕ) → ((k : KeyBytes) → lies_from target k ≡ is_below_end end k) → T (is_below_end end []) →
    AreAtHome slots levels target p → IsBefore slots levels end p
home_before slots levels end target p is starts homes =
    let from = subst T (sym (is [])) starts in
    let key = mark slots target in
    let stands = mark_stands slots target from in
    let home = homes key stands in
    let r = home.reached in
    let there : StandsFor target key r.state.high _ = subst (λ (o : Slot). StandsOn target key o) r.is (stands p) in
    record {
      in_level = r.in_level;
      state = r.state;
      is = r.is;
      starts = true_holds _ (sym (is r.state.low) ∙ lies_before target r.state.low key (mark_from slots target from) (holds_not _ r.from_low));
      reaches = reaches_marked r.state.high end target key is there.end home.ends_above;
    }
