-- A page that no longer names a child leaves a lawful tree that holds the same.
use Rattle.std.proofs.Common.{inl, inr, ◌⊎◌, ◌≡◌, ℕ, suc, ◌<◌, Bool, true, false, cond, not, List, [], ◌∷◌, length, filter, Option, refl, sym, ap, ◌∙◌, subst}
use Rattle.std.proofs.lemmas.Bool.{cases_eq}
use Rattle.std.specs.List.{Contains}
use Rattle.std.specs.Ordering.{is_lt}
use Rattle.std.specs.FinMap.{from_entries}
use Rattle.bw_key.specs.Order.{KeyBytes, key_cmp, key_eq}
use Rattle.bw_model.specs.Values.{ValueBytes}
use Rattle.bw_page.specs.declared.pages.RemovedPage.{RemovedPage}
use Rattle.bw_page.specs.Inners.{IsUpto}
use Rattle.bw_page.specs.Pages.{BeginsAt}
use Rattle.bw_page.proofs.Entries.{without_inner_page}
use Rattle.bw_page.proofs.KeyLemmas.{below_self}
use Rattle.bw_page.proofs.Search.{same_keys}
use Rattle.bw_delta.specs.ContentsAsOf.{contents_as_of}
use Rattle.bw_delta.specs.Writes.{WriteView}
use Rattle.bw_delta.proofs.Filters.{was_there}
use Rattle.bw_level.specs.Children.{HasDroppedChild, MayDropChild, body_without_child, state_without_child}
use Rattle.bw_level.specs.Entries.{AreExact}
use Rattle.bw_level.specs.Laws.{DroppedChildIsKept}
use Rattle.bw_level.specs.Levels.{AreLevels, FirstChild, LeadsBelow, Stands, StartsWith, row}
use Rattle.bw_level.specs.Reading.{body_pairs, body_writes, contents_in, pairs_under, row_pairs, row_writes, writes_over}
use Rattle.bw_level.specs.Searches.{AllStand, IsInLevels}
use Rattle.bw_level.specs.Slots.{Slot, PageState, Body, Pairs, Children, Gone, Live, IsSoundBody, IsSoundPage, children_of, left_of, left_of_slot, level_of, slot_at}
use Rattle.bw_level.specs.KeptLevels.{IsTerm, KeepsLevels}
use Rattle.bw_level.proofs.RowLemmas.{InRow, in_row, row_on, same_each}
use Rattle.bw_level.proofs.StepLemmas.{levels_kept}
use Rattle.bw_level.proofs.WalkLemmas.{way_on}

-- a slot has one page
not_gone : {s : PageState} {g : RemovedPage} → Live s ≡ Gone g → ⊥
not_gone e = cc

one_state : {s t : PageState} → Live s ≡ Live t → s ≡ t
one_state e = cc

-- a test has one answer
different : true ≡ false → ⊥
different e = cc

-- a key above the low one is another
not_low : (low sep : KeyBytes) → is_lt (key_cmp low sep) ≡ true → sep ≡ low → ⊥
not_low low sep above same = different (sym above ∙ ap (λ (k : KeyBytes). is_lt (key_cmp low k)) same ∙ below_self low)

-- the first entry stays, where the key is above it
starts_without : (low sep : KeyBytes) (es : List (KeyBytes × ℕ)) (x : KeyBytes) (c : ℕ) → is_lt (key_cmp low sep) ≡ true → BeginsAt low es → StartsWith (filter (λ e. not (key_eq sep e.0)) es) x c → StartsWith es x c
starts_without low sep [] x c above begins starts = absurd begins
starts_without low sep (e ∷ es) x c above begins starts = by (key_eq sep e.0) refl starts
  where
    by : (b : Bool) → key_eq sep e.0 ≡ b → StartsWith (cond (not b) (e ∷ filter (λ (d : KeyBytes × ℕ). not (key_eq sep d.0)) es) (filter (λ (d : KeyBytes × ℕ). not (key_eq sep d.0)) es)) x c → e ≡ (x, c)
    by true is h = absurd (not_low low sep above (same_keys sep e.0 is ∙ begins))
    by false is h = h

-- a body without the child
module _ (low : KeyBytes) (high : Option KeyBytes) (side : Option ℕ) (sep : KeyBytes) (above : is_lt (key_cmp low sep) ≡ true) where
  -- the page is still sound
  sound_without : (b : Body) → IsSoundBody low high side b → IsSoundBody low high side (body_without_child sep b)
  sound_without (Pairs pairs writes) sound = sound
  sound_without (Children level children) sound = without_inner_page level low high side sep children (not_low low sep above) sound

  -- the first child was the first
  starts_with : (b : Body) (k : KeyBytes) (c : ℕ) → IsSoundBody low high side b → StartsWith (children_of (body_without_child sep b)) k c → StartsWith (children_of b) k c
  starts_with (Pairs pairs writes) k c sound starts = starts
  starts_with (Children level children) k c sound starts = starts_without low sep children k c above sound.begins starts

-- the level is the same
level_without : (sep : KeyBytes) (b : Body) → level_of (body_without_child sep b) ≡ level_of b
level_without sep (Pairs pairs writes) = refl
level_without sep (Children level children) = refl

-- the writes are the same
writes_without : (sep : KeyBytes) (b : Body) → body_writes (body_without_child sep b) ≡ body_writes b
writes_without sep (Pairs pairs writes) = refl
writes_without sep (Children level children) = refl

-- and the pairs
pairs_without : (sep : KeyBytes) (b : Body) → body_pairs (body_without_child sep b) ≡ body_pairs b
pairs_without sep (Pairs pairs writes) = refl
pairs_without sep (Children level children) = refl

-- the children were there before
children_were : (sep : KeyBytes) (b : Body) (c : KeyBytes × ℕ) → Contains (children_of (body_without_child sep b)) c → Contains (children_of b) c
children_were sep (Pairs pairs writes) c has = has
children_were sep (Children level children) c has = (was_there (λ (e : KeyBytes × ℕ). not (key_eq sep e.0)) children c has).0

module _ (old new : List Slot) (root : ℕ) (levels : List (List ℕ)) (p : ℕ) (sep : KeyBytes) (lawful : AreLevels old root levels) (may : MayDropChild old levels p sep) (given : HasDroppedChild old new p sep) where
  abbrev was : PageState
  was = given.was

  abbrev now : PageState
  now = state_without_child sep was

  -- the page before
  was_state : (s : PageState) → slot_at old p ≡ Live s → s ≡ was
  was_state s is = one_state (sym is ∙ given.is)

  -- the page after
  now_state : (s : PageState) → slot_at new p ≡ Live s → s ≡ now
  now_state s is = one_state (sym is ∙ given.now)

  -- the page was sound
  sound : IsSoundPage was
  sound =
      let has = may.in_level in
      let at : InRow old (suc may.level) (row levels (suc may.level)) has.0 p = in_row old (suc may.level) [] (row levels (suc may.level)) has.0 p (lawful.rows (suc may.level) may.within) has.1 has.2 in
      subst IsSoundPage (was_state at.stands.state at.stands.is) at.stands.sound

  -- the key is above its low key
  above : is_lt (key_cmp was.low sep) ≡ true
  above = subst (λ (s : PageState). is_lt (key_cmp s.low sep) ≡ true) (was_state may.state may.is) may.above

  -- each page stands as it stood
  stands : (n : ℕ) (low : KeyBytes) (high : Option KeyBytes) (side : Option ℕ) (x : ℕ) → Stands old n low high side x → Stands new n low high side x
  stands n low high side x s = by (cases_eq x p)
    where
      by : (x ≡ p) ⊎ (x ≡ p → ⊥) → Stands new n low high side x
      by (inl here) =
          let same : s.state ≡ was = was_state s.state (ap (slot_at old) (sym here) ∙ s.is) in
          record {
            state = now;
            is = ap (slot_at new) here ∙ given.now;
            sound = sound_without was.low was.high was.side sep above was.body sound;
            at_level = level_without sep was.body ∙ ap (λ (t : PageState). level_of t.body) (sym same) ∙ s.at_level;
            from_low = ap (λ (t : PageState). t.low) (sym same) ∙ s.from_low;
            to_high = ap (λ (t : PageState). t.high) (sym same) ∙ s.to_high;
            linked = ap (λ (t : PageState). t.side) (sym same) ∙ s.linked;
          }
      by (inr other) = record { state = s.state; is = given.others x other ∙ s.is; sound = s.sound; at_level = s.at_level; from_low = s.from_low; to_high = s.to_high; linked = s.linked }

  -- what is the same of the page with the child and without it is the same of all pages
  each : {X : Type 0} (f : Slot → X) → f (Live now) ≡ f (Live was) → (x : ℕ) → f (slot_at new x) ≡ f (slot_at old x)
  each f same x = by (cases_eq x p)
    where
      by : (x ≡ p) ⊎ (x ≡ p → ⊥) → f (slot_at new x) ≡ f (slot_at old x)
      by (inl here) = ap (λ y. f (slot_at new y)) here ∙ ap f given.now ∙ same ∙ ap f (sym given.is) ∙ ap (λ y. f (slot_at old y)) (sym here)
      by (inr other) = ap f (given.others x other)

  -- left links are the same
  left_same : (x : ℕ) → left_of new x ≡ left_of old x
  left_same = each left_of_slot refl

  -- a page stays one, with its low key
  still : (x : ℕ) (s : PageState) → slot_at old x ≡ Live s → (t : PageState) × (slot_at new x ≡ Live t) × (t.low ≡ s.low)
  still x s is = by (cases_eq x p)
    where
      by : (x ≡ p) ⊎ (x ≡ p → ⊥) → (t : PageState) × (slot_at new x ≡ Live t) × (t.low ≡ s.low)
      by (inl here) = (now, ap (slot_at new) here ∙ given.now, ap (λ (t : PageState). t.low) (sym (was_state s (ap (slot_at old) (sym here) ∙ is))))
      by (inr other) = (s, given.others x other ∙ is, refl)

  -- what led below still does
  leads_still : (n : ℕ) (k : KeyBytes) (c : ℕ) → LeadsBelow old (row levels n) k c → LeadsBelow new (row levels n) k c
  leads_still n k c h =
      let t = still h.page h.state h.is in
      record {
        removed = h.removed;
        page = h.page;
        way = way_on (left_of old) (left_of new) left_same c h.removed h.page h.way;
        in_level = h.in_level;
        state = t.0;
        is = t.1;
        from_low = subst (λ (z : KeyBytes). IsUpto z k) (sym t.2) h.from_low;
      }

  -- a first child was the first
  first_child_was : (r c : ℕ) → FirstChild new r c → FirstChild old r c
  first_child_was r c first = by (cases_eq r p)
    where
      by : (r ≡ p) ⊎ (r ≡ p → ⊥) → FirstChild old r c
      by (inl here) =
          let same : first.0 ≡ now = now_state first.0 (ap (slot_at new) (sym here) ∙ first.1) in
          (was, ap (slot_at old) here ∙ given.is, (first.2.0, starts_with was.low was.high was.side sep above was.body first.2.0 c sound (subst (λ (s : PageState). StartsWith (children_of s.body) first.2.0 c) same first.2.1)))
      by (inr other) = (first.0, sym (given.others r other) ∙ first.1, first.2)

  -- an index entry was one, of a page that began there
  was_term : (n : ℕ) (k : KeyBytes) (c : ℕ) (t : IsTerm new levels n k c) → (had : IsTerm old levels n k c) × (t.state.low ≡ had.state.low)
  was_term n k c t = by (cases_eq t.page p)
    where
      by : (t.page ≡ p) ⊎ (t.page ≡ p → ⊥) → (had : IsTerm old levels n k c) × (t.state.low ≡ had.state.low)
      by (inl here) =
          let same : t.state ≡ now = now_state t.state (ap (slot_at new) (sym here) ∙ t.is) in (
            record {
              page = p;
              in_level = subst (Contains (row levels (suc n))) here t.in_level;
              state = was;
              is = given.is;
              named = children_were sep was.body (k, c) (subst (λ (s : PageState). Contains (children_of s.body) (k, c)) same t.named);
            },
            ap (λ (s : PageState). s.low) same,
          )
      by (inr other) = (record { page = t.page; in_level = t.in_level; state = t.state; is = sym (given.others t.page other) ∙ t.is; named = t.named }, refl)

  abbrev term_was : (n : ℕ) (k : KeyBytes) (c : ℕ) → IsTerm new levels n k c → IsTerm old levels n k c
  term_was n k c t = (was_term n k c t).0

  low_was : (n : ℕ) (k : KeyBytes) (c : ℕ) (t : IsTerm new levels n k c) → is_lt (key_cmp (term_was n k c t).state.low k) ≡ true → is_lt (key_cmp t.state.low k) ≡ true
  low_was n k c t lies = ap (λ (low : KeyBytes). is_lt (key_cmp low k)) (was_term n k c t).1 ∙ lies

  -- each child begins where it began
  exact_still : AreExact old levels → AreExact new levels
  exact_still exact = record {
    begins = λ n k c s lt t is. begins_there n k c s lt is (term_was n k c t) (cases_eq c p);
    began = λ n k c g lt t is. exact.began n k c g lt (term_was n k c t) (was_gone c g is (cases_eq c p));
    behind = λ n k c g lt t is. low_was n k c t (exact.behind n k c g lt (term_was n k c t) (was_gone c g is (cases_eq c p)));
    once = λ n k h c lt one other. exact.once n k h c lt (term_was n k c one) (term_was n h c other);
  }
    where
      begins_there : (n : ℕ) (k : KeyBytes) (c : ℕ) (s : PageState) → suc n < length levels → slot_at new c ≡ Live s → IsTerm old levels n k c → (c ≡ p) ⊎ (c ≡ p → ⊥) → s.low ≡ k
      begins_there n k c s lt is had (inl here) =
          ap (λ (x : PageState). x.low) (now_state s (ap (slot_at new) (sym here) ∙ is)) ∙ exact.begins n k c was lt had (ap (slot_at old) here ∙ given.is)
      begins_there n k c s lt is had (inr other) = exact.begins n k c s lt had (sym (given.others c other) ∙ is)

      was_gone : (c : ℕ) (g : RemovedPage) → slot_at new c ≡ Gone g → (c ≡ p) ⊎ (c ≡ p → ⊥) → slot_at old c ≡ Gone g
      was_gone c g is (inl here) = absurd (not_gone (sym given.now ∙ ap (slot_at new) (sym here) ∙ is))
      was_gone c g is (inr other) = sym (given.others c other) ∙ is

  -- the page stands where it stood, and so does each other one
  stand_still : AllStand old levels → AllStand new levels
  stand_still stand r s is = by (cases_eq r p)
    where
      by : (r ≡ p) ⊎ (r ≡ p → ⊥) → IsInLevels levels r
      by (inl here) = stand r was (ap (slot_at old) here ∙ given.is)
      by (inr other) = stand r s (sym (given.others r other) ∙ is)

  -- the change keeps levels
  keeps : KeepsLevels old new levels levels
  keeps = record {
    count = refl;
    rows = λ n lt. row_on old new n (stands n) [] (row levels n) (lawful.rows n lt);
    first = λ n r lt begins. begins;
    first_child = λ n r c lt begins first. first_child_was r c first;
    terms = λ n k c lt t. inl (record { was = term_was n k c t; leads = leads_still n k c });
  }

  -- so they are lawful
  lawful_still : AreLevels new root levels
  lawful_still = levels_kept old new root levels levels lawful keeps

  -- an inner page has neither pairs nor writes
  writes_still : (ps : List ℕ) → row_writes new ps ≡ row_writes old ps
  writes_still ps = same_each (λ x. writes_over (slot_at old x)) (λ x. writes_over (slot_at new x)) (each writes_over (writes_without sep was.body)) ps

  -- so the pairs of pages are the same
  pairs_still : (ps : List ℕ) → row_pairs new ps ≡ row_pairs old ps
  pairs_still ps = same_each (λ x. pairs_under (slot_at old x)) (λ x. pairs_under (slot_at new x)) (each pairs_under (pairs_without sep was.body)) ps

  -- and the levels hold what they held
  contents_still : (stamp : ℕ) → contents_in new levels stamp ≡ contents_in old levels stamp
  contents_still stamp =
      ap (λ (es : List (KeyBytes × ValueBytes)). contents_as_of (from_entries es) (row_writes new (row levels 0)) stamp) (pairs_still (row levels 0))
      ∙ ap (λ (ws : List WriteView). contents_as_of (from_entries (row_pairs old (row levels 0))) ws stamp) (writes_still (row levels 0))

-- where a page no longer names a child, the levels stay
pub child_dropped : DroppedChildIsKept
child_dropped old new root levels p sep lawful may given = record {
  lawful = lawful_still old new root levels p sep lawful may given;
  exact = exact_still old new root levels p sep lawful may given;
  stand = stand_still old new root levels p sep lawful may given;
  writes = writes_still old new root levels p sep lawful may given (row levels 0);
  contents = λ distinct stamp. contents_still old new root levels p sep lawful may given stamp;
}
