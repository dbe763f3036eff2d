-- A page that names one more page of the level below leaves a lawful tree that holds the same.
use Rattle.std.proofs.Common.{inl, inr, ◌⊎◌, ◌≡◌, ℕ, suc, ◌<◌, true, false, T, List, [], ◌∷◌, length, Option, refl, sym, ap, ◌∙◌, subst, Ordering, arith}
use Rattle.std.proofs.lemmas.Bool.{cases_eq}
use Rattle.std.specs.List.{Contains}
use Rattle.std.specs.Ordering.{is_lt}
use Rattle.std.specs.FinMap.{from_entries, put}
use Rattle.std.specs.FinMap.Entries.{by_order}
use Rattle.std.specs.declared.cmp.Ordering.TheVariants.{Less, Equal, Greater}
use Rattle.bw_key.specs.Order.{KeyBytes, key_cmp}
use Rattle.bw_model.specs.Contents.{is_below_end, is_in_range}
use Rattle.bw_model.specs.Values.{ValueBytes}
use Rattle.bw_page.specs.Inners.{IsUpto}
use Rattle.bw_page.specs.Pages.{BeginsAt}
use Rattle.bw_page.specs.declared.pages.RemovedPage.{RemovedPage}
use Rattle.bw_page.proofs.Entries.{put_inner_page}
use Rattle.bw_page.proofs.KeyLemmas.{below_back, below_self, keys_tie}
use Rattle.bw_page.proofs.Truths.{both_of, not_holds}
use Rattle.bw_delta.specs.ContentsAsOf.{contents_as_of}
use Rattle.bw_delta.specs.Writes.{WriteView}
use Rattle.bw_level.specs.Changes.{body_with_child}
use Rattle.bw_level.specs.Children.{FitsChild, HasChild, state_with_child}
use Rattle.bw_level.specs.Entries.{AreExact}
use Rattle.bw_level.specs.Laws.{ChildIsKept}
use Rattle.bw_level.specs.Levels.{AreLevels, FirstChild, LeadsBelow, Stands, StartsWith, row}
use Rattle.bw_level.specs.Reading.{body_pairs, body_writes, contents_in, pairs_under, row_pairs, row_writes, writes_over}
use Rattle.bw_level.specs.Searches.{AllStand, IsInLevels}
use Rattle.bw_level.specs.Slots.{Slot, PageState, Body, Pairs, Children, Gone, Live, IsSoundBody, IsSoundPage, children_of, left_of, left_of_slot, level_of, slot_at}
use Rattle.bw_level.specs.KeptLevels.{IsTerm, KeepsLevels, WasTerm}
use Rattle.bw_level.proofs.ChildLemmas.{put_was}
use Rattle.bw_level.proofs.RowLemmas.{InRow, in_row, row_on, same_each}
use Rattle.bw_level.proofs.StepLemmas.{levels_kept}
use Rattle.bw_level.proofs.WalkLemmas.{way_on}

one_state : {s t : PageState} → Live s ≡ Live t → s ≡ t
one_state e = cc

not_gone : {s : PageState} {g : RemovedPage} → Live s ≡ Gone g → ⊥
not_gone e = cc

one_level : {n m : ℕ} → suc n ≡ suc m → n ≡ m
one_level e = omega (arith, e)

different : true ≡ false → ⊥
different e = cc

-- an entry above the first one leaves it the first
starts_put : (low k : KeyBytes) (v : ℕ) (es : List (KeyBytes × ℕ)) (x : KeyBytes) (c : ℕ) → is_lt (key_cmp low k) ≡ true → BeginsAt low es → StartsWith (put key_cmp k v es) x c → StartsWith es x c
starts_put low k v [] x c above begins starts = absurd begins
starts_put low k v (e ∷ es) x c above begins starts = by (key_cmp k e.0) refl starts
  where
    above_e : is_lt (key_cmp e.0 k) ≡ true
    above_e = ap (λ (y : KeyBytes). is_lt (key_cmp y k)) begins ∙ above

    by : (o : Ordering) → key_cmp k e.0 ≡ o → StartsWith (by_order o ((k, v) ∷ e ∷ es) ((e.0, v) ∷ es) (e ∷ put key_cmp k v es)) x c → e ≡ (x, c)
    by Less is h = absurd (different (sym (ap is_lt is) ∙ below_back e.0 k above_e))
    by Equal is h = absurd (different (sym above_e ∙ ap (λ (y : KeyBytes). is_lt (key_cmp e.0 y)) (keys_tie k e.0 is) ∙ below_self e.0))
    by Greater is h = h

-- a body with the child
module _ (low : KeyBytes) (high : Option KeyBytes) (side : Option ℕ) (sep : KeyBytes) (child : ℕ) where
  sound_with : (b : Body) → T (is_in_range low high sep) → IsSoundBody low high side b → IsSoundBody low high side (body_with_child sep child b)
  sound_with (Pairs pairs writes) inside sound = sound
  sound_with (Children level children) inside sound = put_inner_page level low high side sep child children inside sound

  starts_with : (b : Body) (k : KeyBytes) (c : ℕ) → is_lt (key_cmp low sep) ≡ true → IsSoundBody low high side b → StartsWith (children_of (body_with_child sep child b)) k c → StartsWith (children_of b) k c
  starts_with (Pairs pairs writes) k c above sound starts = starts
  starts_with (Children level children) k c above sound starts = starts_put low sep child children k c above sound.begins starts

level_with : (sep : KeyBytes) (child : ℕ) (b : Body) → level_of (body_with_child sep child b) ≡ level_of b
level_with sep child (Pairs pairs writes) = refl
level_with sep child (Children level children) = refl

writes_with : (sep : KeyBytes) (child : ℕ) (b : Body) → body_writes (body_with_child sep child b) ≡ body_writes b
writes_with sep child (Pairs pairs writes) = refl
writes_with sep child (Children level children) = refl

pairs_with : (sep : KeyBytes) (child : ℕ) (b : Body) → body_pairs (body_with_child sep child b) ≡ body_pairs b
pairs_with sep child (Pairs pairs writes) = refl
pairs_with sep child (Children level children) = refl

-- the children are those of before, and the new one
children_with : (sep : KeyBytes) (child : ℕ) (b : Body) (c : KeyBytes × ℕ) → Contains (children_of (body_with_child sep child b)) c → Contains (children_of b) c ⊎ (c ≡ (sep, child))
children_with sep child (Pairs pairs writes) c has = inl has
children_with sep child (Children level children) c has = put_was sep child children c has

module _ (old new : List Slot) (root : ℕ) (levels : List (List ℕ)) (p : ℕ) (sep : KeyBytes) (child : ℕ) (lawful : AreLevels old root levels) (fits : FitsChild old levels p sep child) (given : HasChild old new p sep child) where
  abbrev was : PageState
  was = given.was

  abbrev now : PageState
  now = state_with_child sep child was

  stands_at : (n : ℕ) → n < length levels → (has : Contains (row levels n) p) → InRow old n (row levels n) has.0 p
  stands_at n lt has = in_row old n [] (row levels n) has.0 p (lawful.rows n lt) has.1 has.2

  was_state : (s : PageState) → slot_at old p ≡ Live s → s ≡ was
  was_state s is = one_state (sym is ∙ given.is)

  -- the page stands on one level
  at_level : (n : ℕ) → n < length levels → Contains (row levels n) p → level_of was.body ≡ n
  at_level n lt has =
      let s = (stands_at n lt has).stands in
      ap (λ (t : PageState). level_of t.body) (sym (was_state s.state s.is)) ∙ s.at_level

  sound : IsSoundPage was
  sound =
      let s = (stands_at (suc fits.level) fits.within fits.in_level).stands in
      subst IsSoundPage (was_state s.state s.is) s.sound

  above : is_lt (key_cmp was.low sep) ≡ true
  above = subst (λ (s : PageState). is_lt (key_cmp s.low sep) ≡ true) (was_state fits.state fits.is) fits.above

  inside : T (is_in_range was.low was.high sep)
  inside =
      both_of _ _ (not_holds _ (below_back was.low sep above))
      (subst (λ (s : PageState). T (is_below_end s.high sep)) (was_state fits.state fits.is) fits.inside)

  stands : (n : ℕ) (low : KeyBytes) (high : Option KeyBytes) (side : Option ℕ) (x : ℕ) → Stands old n low high side x → Stands new n low high side x
  stands n low high side x s = by (cases_eq x p)
    where
      by : (x ≡ p) ⊎ (x ≡ p → ⊥) → Stands new n low high side x
      by (inl here) =
          let same : s.state ≡ was = was_state s.state (ap (slot_at old) (sym here) ∙ s.is) in
          record {
            state = now;
            is = ap (slot_at new) here ∙ given.now;
            sound = sound_with was.low was.high was.side sep child was.body inside sound;
            at_level = level_with sep child was.body ∙ ap (λ (t : PageState). level_of t.body) (sym same) ∙ s.at_level;
            from_low = ap (λ (t : PageState). t.low) (sym same) ∙ s.from_low;
            to_high = ap (λ (t : PageState). t.high) (sym same) ∙ s.to_high;
            linked = ap (λ (t : PageState). t.side) (sym same) ∙ s.linked;
          }
      by (inr other) = record { state = s.state; is = given.others x other ∙ s.is; sound = s.sound; at_level = s.at_level; from_low = s.from_low; to_high = s.to_high; linked = s.linked }

  -- what is the same of the page with the child and without it is the same of all pages
  each : {X : Type 0} (f : Slot → X) → f (Live now) ≡ f (Live was) → (x : ℕ) → f (slot_at new x) ≡ f (slot_at old x)
  each f same x = by (cases_eq x p)
    where
      by : (x ≡ p) ⊎ (x ≡ p → ⊥) → f (slot_at new x) ≡ f (slot_at old x)
      by (inl here) = ap (λ y. f (slot_at new y)) here ∙ ap f given.now ∙ same ∙ ap f (sym given.is) ∙ ap (λ y. f (slot_at old y)) (sym here)
      by (inr other) = ap f (given.others x other)

  left_same : (x : ℕ) → left_of new x ≡ left_of old x
  left_same = each left_of_slot refl

  -- a page stays one, with its low key
  still : (x : ℕ) (s : PageState) → slot_at old x ≡ Live s → (t : PageState) × (slot_at new x ≡ Live t) × (t.low ≡ s.low)
  still x s is = by (cases_eq x p)
    where
      by : (x ≡ p) ⊎ (x ≡ p → ⊥) → (t : PageState) × (slot_at new x ≡ Live t) × (t.low ≡ s.low)
      by (inl here) = (now, ap (slot_at new) here ∙ given.now, ap (λ (t : PageState). t.low) (sym (was_state s (ap (slot_at old) (sym here) ∙ is))))
      by (inr other) = (s, given.others x other ∙ is, refl)

  leads_still : (n : ℕ) (k : KeyBytes) (c : ℕ) → LeadsBelow old (row levels n) k c → LeadsBelow new (row levels n) k c
  leads_still n k c h =
      let t = still h.page h.state h.is in
      record {
        removed = h.removed;
        page = h.page;
        way = way_on (left_of old) (left_of new) left_same c h.removed h.page h.way;
        in_level = h.in_level;
        state = t.0;
        is = t.1;
        from_low = subst (λ (z : KeyBytes). IsUpto z k) (sym t.2) h.from_low;
      }

  -- the new child leads below by itself
  leads_child : LeadsBelow new (row levels fits.level) sep child
  leads_child =
      let t = still child fits.child_state fits.child_is in
      record {
        removed = [];
        page = child;
        way = (refl, ap left_of_slot t.1);
        in_level = fits.child_in_level;
        state = t.0;
        is = t.1;
        from_low = subst (λ (z : KeyBytes). IsUpto z sep) (sym (t.2 ∙ fits.begins)) (not_holds _ (below_self sep));
      }

  first_child_was : (r c : ℕ) → FirstChild new r c → FirstChild old r c
  first_child_was r c first = by (cases_eq r p)
    where
      by : (r ≡ p) ⊎ (r ≡ p → ⊥) → FirstChild old r c
      by (inl here) =
          let same : first.0 ≡ now = one_state (sym first.1 ∙ ap (slot_at new) here ∙ given.now) in
          (was, ap (slot_at old) here ∙ given.is, (first.2.0, starts_with was.low was.high was.side sep child was.body first.2.0 c above sound (subst (λ (s : PageState). StartsWith (children_of s.body) first.2.0 c) same first.2.1)))
      by (inr other) = (first.0, sym (given.others r other) ∙ first.1, first.2)

  abbrev IsNew : KeyBytes × ℕ → Type 0
  IsNew e = e ≡ (sep, child)

  -- an index entry was one, or is the new one
  term_was : (n : ℕ) (k : KeyBytes) (c : ℕ) → suc n < length levels → IsTerm new levels n k c → IsTerm old levels n k c ⊎ ((fits.level ≡ n) × IsNew (k, c))
  term_was n k c lt t = by (cases_eq t.page p)
    where
      at_page : t.page ≡ p → Contains (children_of was.body) (k, c) ⊎ IsNew (k, c) → IsTerm old levels n k c ⊎ ((fits.level ≡ n) × IsNew (k, c))
      at_page here (inl had) = inl (record { page = p; in_level = subst (Contains (row levels (suc n))) here t.in_level; state = was; is = given.is; named = had })
      at_page here (inr added) = inr (one_level (sym (at_level (suc fits.level) fits.within fits.in_level) ∙ at_level (suc n) lt (subst (Contains (row levels (suc n))) here t.in_level)), added)

      by : (t.page ≡ p) ⊎ (t.page ≡ p → ⊥) → IsTerm old levels n k c ⊎ ((fits.level ≡ n) × IsNew (k, c))
      by (inl here) =
          let same : t.state ≡ now = one_state (sym t.is ∙ ap (slot_at new) here ∙ given.now) in
          at_page here (children_with sep child was.body (k, c) (subst (λ (s : PageState). Contains (children_of s.body) (k, c)) same t.named))
      by (inr other) = inl (record { page = t.page; in_level = t.in_level; state = t.state; is = sym (given.others t.page other) ∙ t.is; named = t.named })

  terms_lead : (n : ℕ) (k : KeyBytes) (c : ℕ) → suc n < length levels → IsTerm new levels n k c → WasTerm old new levels levels n k c ⊎ LeadsBelow new (row levels n) k c
  terms_lead n k c lt t = by (term_was n k c lt t)
    where
      by : IsTerm old levels n k c ⊎ ((fits.level ≡ n) × IsNew (k, c)) → WasTerm old new levels levels n k c ⊎ LeadsBelow new (row levels n) k c
      by (inl had) = inl (record { was = had; leads = leads_still n k c })
      by (inr (same, added)) = inr (subst (λ (e : KeyBytes × ℕ). LeadsBelow new (row levels n) e.0 e.1) (sym added) (subst (λ m. LeadsBelow new (row levels m) sep child) same leads_child))

  -- the new child begins at its separator, and each other one where it began
  exact_still : AreExact old levels → AreExact new levels
  exact_still exact = record {
    begins = λ n k c s lt t is. begins_there n k c s lt is (term_was n k c lt t) (cases_eq c p);
    began = λ n k c g lt t is. began_there n k c g lt is (term_was n k c lt t) (cases_eq c p);
    behind = λ n k c g lt t is. behind_there n k c g lt t is (cases_eq t.page p);
    once = λ n k h c lt one other. same_key n k h c lt (term_was n k c lt one) (term_was n h c lt other);
  }
    where
      new_key : (k : KeyBytes) (c : ℕ) → IsNew (k, c) → k ≡ sep
      new_key k c added = ap (λ (e : KeyBytes × ℕ). e.0) added

      new_child : (k : KeyBytes) (c : ℕ) → IsNew (k, c) → c ≡ child
      new_child k c added = ap (λ (e : KeyBytes × ℕ). e.1) added

      -- an entry of before for the new child has its separator
      had_key : (n : ℕ) (k : KeyBytes) (c : ℕ) → suc n < length levels → IsTerm old levels n k c → c ≡ child → k ≡ sep
      had_key n k c lt had same = sym (exact.begins n k c fits.child_state lt had (ap (slot_at old) same ∙ fits.child_is)) ∙ fits.begins

      begins_there : (n : ℕ) (k : KeyBytes) (c : ℕ) (s : PageState) → suc n < length levels → slot_at new c ≡ Live s → IsTerm old levels n k c ⊎ ((fits.level ≡ n) × IsNew (k, c)) → (c ≡ p) ⊎ (c ≡ p → ⊥) → s.low ≡ k
      begins_there n k c s lt is (inr (same, added)) h =
          let there = still child fits.child_state fits.child_is in
          let state : s ≡ there.0 = one_state (sym is ∙ ap (slot_at new) (new_child k c added) ∙ there.1) in
          ap (λ (x : PageState). x.low) state ∙ there.2 ∙ fits.begins ∙ sym (new_key k c added)
      begins_there n k c s lt is (inl had) (inl here) =
          ap (λ (x : PageState). x.low) (one_state (sym is ∙ ap (slot_at new) here ∙ given.now)) ∙ exact.begins n k c was lt had (ap (slot_at old) here ∙ given.is)
      begins_there n k c s lt is (inl had) (inr other) = exact.begins n k c s lt had (sym (given.others c other) ∙ is)

      -- the new child isn't a removed page, nor is the page that has it
      was_gone : (c : ℕ) (g : RemovedPage) → slot_at new c ≡ Gone g → (c ≡ p) ⊎ (c ≡ p → ⊥) → slot_at old c ≡ Gone g
      was_gone c g is (inl here) = absurd (not_gone (sym given.now ∙ ap (slot_at new) (sym here) ∙ is))
      was_gone c g is (inr other) = sym (given.others c other) ∙ is

      began_there : (n : ℕ) (k : KeyBytes) (c : ℕ) (g : RemovedPage) → suc n < length levels → slot_at new c ≡ Gone g → IsTerm old levels n k c ⊎ ((fits.level ≡ n) × IsNew (k, c)) → (c ≡ p) ⊎ (c ≡ p → ⊥) → (g.low ≡ k) × (g.level ≡ n)
      began_there n k c g lt is (inr (same, added)) h =
          absurd (not_gone (sym (still child fits.child_state fits.child_is).1 ∙ ap (slot_at new) (sym (new_child k c added)) ∙ is))
      began_there n k c g lt is (inl had) h = exact.began n k c g lt had (was_gone c g is h)

      -- the page begins where it began, and its other entries were there
      behind_there : (n : ℕ) (k : KeyBytes) (c : ℕ) (g : RemovedPage) → suc n < length levels → (t : IsTerm new levels n k c) → slot_at new c ≡ Gone g → (t.page ≡ p) ⊎ (t.page ≡ p → ⊥) → is_lt (key_cmp t.state.low k) ≡ true
      behind_there n k c g lt t is (inr other) =
          exact.behind n k c g lt (record { page = t.page; in_level = t.in_level; state = t.state; is = sym (given.others t.page other) ∙ t.is; named = t.named }) (was_gone c g is (cases_eq c p))
      behind_there n k c g lt t is (inl here) =
          by (children_with sep child was.body (k, c) (subst (λ (s : PageState). Contains (children_of s.body) (k, c)) same t.named))
        where
          same : t.state ≡ now
          same = one_state (sym t.is ∙ ap (slot_at new) here ∙ given.now)

          by : Contains (children_of was.body) (k, c) ⊎ IsNew (k, c) → is_lt (key_cmp t.state.low k) ≡ true
          by (inl had) =
              ap (λ (s : PageState). is_lt (key_cmp s.low k)) same
              ∙ exact.behind n k c g lt (record { page = p; in_level = subst (Contains (row levels (suc n))) here t.in_level; state = was; is = given.is; named = had }) (was_gone c g is (cases_eq c p))
          by (inr added) = absurd (not_gone (sym (still child fits.child_state fits.child_is).1 ∙ ap (slot_at new) (sym (new_child k c added)) ∙ is))

      same_key : (n : ℕ) (k h : KeyBytes) (c : ℕ) → suc n < length levels → IsTerm old levels n k c ⊎ ((fits.level ≡ n) × IsNew (k, c)) → IsTerm old levels n h c ⊎ ((fits.level ≡ n) × IsNew (h, c)) → k ≡ h
      same_key n k h c lt (inl one) (inl other) = exact.once n k h c lt one other
      same_key n k h c lt (inl one) (inr (same, added)) = had_key n k c lt one (new_child h c added) ∙ sym (new_key h c added)
      same_key n k h c lt (inr (same, added)) (inl other) = new_key k c added ∙ sym (had_key n h c lt other (new_child k c added))
      same_key n k h c lt (inr (same, added)) (inr (again, more)) = new_key k c added ∙ sym (new_key h c more)

  -- the page stands where it stood, and so does each other one
  stand_still : AllStand old levels → AllStand new levels
  stand_still stand r s is = by (cases_eq r p)
    where
      by : (r ≡ p) ⊎ (r ≡ p → ⊥) → IsInLevels levels r
      by (inl here) = stand r was (ap (slot_at old) here ∙ given.is)
      by (inr other) = stand r s (sym (given.others r other) ∙ is)

  keeps : KeepsLevels old new levels levels
  keeps = record {
    count = refl;
    rows = λ n lt. row_on old new n (stands n) [] (row levels n) (lawful.rows n lt);
    first = λ n r lt begins. begins;
    first_child = λ n r c lt begins first. first_child_was r c first;
    terms = terms_lead;
  }

  lawful_still : AreLevels new root levels
  lawful_still = levels_kept old new root levels levels lawful keeps

  -- an inner page has neither pairs nor writes
  writes_still : (ps : List ℕ) → row_writes new ps ≡ row_writes old ps
  writes_still ps = same_each (λ x. writes_over (slot_at old x)) (λ x. writes_over (slot_at new x)) (each writes_over (writes_with sep child was.body)) ps

  pairs_still : (ps : List ℕ) → row_pairs new ps ≡ row_pairs old ps
  pairs_still ps = same_each (λ x. pairs_under (slot_at old x)) (λ x. pairs_under (slot_at new x)) (each pairs_under (pairs_with sep child was.body)) ps

  contents_still : (stamp : ℕ) → contents_in new levels stamp ≡ contents_in old levels stamp
  contents_still stamp =
      ap (λ (es : List (KeyBytes × ValueBytes)). contents_as_of (from_entries es) (row_writes new (row levels 0)) stamp) (pairs_still (row levels 0))
      ∙ ap (λ (ws : List WriteView). contents_as_of (from_entries (row_pairs old (row levels 0))) ws stamp) (writes_still (row levels 0))

pub child_kept : ChildIsKept
child_kept old new root levels p sep child lawful fits given = record {
  lawful = lawful_still old new root levels p sep child lawful fits given;
  exact = exact_still old new root levels p sep child lawful fits given;
  stand = stand_still old new root levels p sep child lawful fits given;
  writes = writes_still old new root levels p sep child lawful fits given (row levels 0);
  contents = λ distinct stamp. contents_still old new root levels p sep child lawful fits given stamp;
}
