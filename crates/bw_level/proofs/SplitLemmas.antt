-- A page that parts in two leaves a lawful tree that holds the same.
use Rattle.std.proofs.Common.{inl, inr, ◌⊎◌, ◌≡◌, ℕ, zero, suc, ◌<◌, Bool, true, false, cond, not, nat_eq, T, List, [], ◌∷◌, ◌++◌, length, take, drop, Option, Some, None, refl, sym, ap, ◌∙◌, subst, arith}
use Rattle.std.proofs.lemmas.Bool.{cases_eq}
use Rattle.std.proofs.lemmas.Bool.Decides.{nat_tests}
use Rattle.std.proofs.lemmas.List.{get_or-set_same, get_or-set_other, length-set}
use Rattle.std.specs.List.{Contains, list_all}
use Rattle.std.specs.Prelude.{slice_get}
use Rattle.std.specs.Ordering.{is_lt}
use Rattle.std.specs.FinMap.{find, is_sorted}
use Rattle.std.specs.Option.{option_map}
use Rattle.bw_key.specs.Order.{KeyBytes, key_cmp}
use Rattle.bw_model.specs.Contents.{is_below_end, is_in_range, is_pair_in_range}
use Rattle.bw_model.specs.Values.{ValueBytes}
use Rattle.bw_page.specs.Inners.{IsUpto}
use Rattle.bw_page.specs.Pages.{first_key}
use Rattle.bw_page.specs.declared.pages.RemovedPage.{RemovedPage}
use Rattle.bw_page.proofs.Entries.{upper_page, upper_inner_page}
use Rattle.bw_page.proofs.KeyLemmas.{below_trans, upto_trans}
use Rattle.bw_page.proofs.Truths.{holds, true_holds, holds_not, not_holds, left_of as left_of_both, right_of as right_of_both}
use Rattle.bw_delta.specs.Batches.{writes_to}
use Rattle.bw_delta.specs.History.{HasDistinctStamps, history, action_at}
use Rattle.bw_delta.specs.Writes.{WriteView}
use Rattle.bw_level.specs.Before.{removed_at}
use Rattle.bw_level.specs.Changes.{body_below}
use Rattle.bw_level.specs.Entries.{AreExact}
use Rattle.bw_level.specs.Laws.{PartsAreKept}
use Rattle.bw_level.specs.Levels.{AreLevels, BeginsWith, FirstChild, IsHome, LeadsBelow, SideBySide, Stands, StartsWith, row}
use Rattle.bw_level.specs.Reading.{body_pairs, body_writes, contents_in, row_writes, value_in, writes_over}
use Rattle.bw_level.specs.Searches.{AllStand, IsInLevels}
use Rattle.bw_level.specs.Slots.{Slot, PageState, Body, Pairs, Children, Free, Gone, Live, IsSoundBody, IsSoundPage, children_of, left_of, left_of_slot, level_of, slot_at}
use Rattle.bw_level.specs.Splits.{HasNoRemovedAt, IsParted, entry_count, first_entries, left_part, level_parted, other_entries, put_behind, right_part, separator, slot_child}
use Rattle.bw_level.specs.KeptLevels.{IsTerm, KeepsLevels}
use Rattle.bw_level.proofs.CutLemmas.{below_cut, find_first, find_other, lower_inner, lower_page}
use Rattle.bw_level.proofs.HomeLemmas.{one_home}
use Rattle.bw_level.proofs.IndexLemmas.{behind_first}
use Rattle.bw_level.proofs.LeafRowLemmas.{wide_of}
use Rattle.bw_level.proofs.RowLemmas.{InRow, in_row, first_stands, row_on, same_each}
use Rattle.bw_level.proofs.StepLemmas.{child_there, contents_kept, levels_kept}
use Rattle.bw_level.proofs.WalkLemmas.{way_on}

one_state : {s t : PageState} → Live s ≡ Live t → s ≡ t
one_state e = cc

not_free : {s : PageState} → Free ≡ Live s → ⊥
not_free e = cc

not_gone : {s : PageState} {g : RemovedPage} → Live s ≡ Gone g → ⊥
not_gone e = cc

none_removed : {g : RemovedPage} → None ≡ Some g → ⊥
none_removed e = cc

is_here : (x p : ℕ) → x ≡ p → nat_eq x p ≡ true
is_here x p e = grind (arith, nat_tests)

is_not : (x p : ℕ) → (x ≡ p → ⊥) → nat_eq x p ≡ false
is_not x p e = grind (arith, nat_tests)

-- parts of a body
module _ (low : KeyBytes) (high : Option KeyBytes) (side : Option ℕ) (keep to : ℕ) (some : 0 < keep) where
  left_sound : (b : Body) → body_writes b ≡ [] → keep < entry_count b → IsSoundBody low high side b → IsSoundBody low (Some (separator keep b)) (Some to) (first_entries keep b)
  left_sound (Pairs pairs writes) bare fewer sound = record {
    page = lower_page low high side to pairs keep sound.page some fewer;
    inside = subst (λ (ws : List WriteView). T (list_all (λ (w : WriteView). is_in_range low (Some (first_key (drop keep pairs))) w.key) ws)) (sym bare) tt;
  }
  left_sound (Children level children) bare fewer sound = lower_inner level low high side to children keep sound some fewer

  right_sound : (b : Body) → body_writes b ≡ [] → keep < entry_count b → IsSoundBody low high side b → IsSoundBody (separator keep b) high side (other_entries keep b)
  right_sound (Pairs pairs writes) bare fewer sound = record {
    page = upper_page low high side pairs keep sound.page fewer;
    inside = subst (λ (ws : List WriteView). T (list_all (λ (w : WriteView). is_in_range (first_key (drop keep pairs)) high w.key) ws)) (sym bare) tt;
  }
  right_sound (Children level children) bare fewer sound = upper_inner_page level low high side children keep sound fewer

  find_left : (b : Body) (key : KeyBytes) → keep < entry_count b → IsSoundBody low high side b → is_lt (key_cmp key (separator keep b)) ≡ true → find key_cmp key (body_pairs (first_entries keep b)) ≡ find key_cmp key (body_pairs b)
  find_left (Pairs pairs writes) key fewer sound before = find_first keep key pairs sound.page.sorted fewer before
  find_left (Children level children) key fewer sound before = refl

  find_right : (b : Body) (key : KeyBytes) → keep < entry_count b → IsSoundBody low high side b → is_lt (key_cmp key (separator keep b)) ≡ false → find key_cmp key (body_pairs (other_entries keep b)) ≡ find key_cmp key (body_pairs b)
  find_right (Pairs pairs writes) key fewer sound from = find_other keep key pairs sound.page.sorted fewer from
  find_right (Children level children) key fewer sound from = refl

begins_within : {X : Type 0} (low : KeyBytes) (high : Option KeyBytes) (es : List (KeyBytes × X)) (n : ℕ) → T (list_all (is_pair_in_range low high) es) → n < length es → T (not (is_lt (key_cmp (first_key (drop n es)) low)))
begins_within low high [] n inside lt = absurd (omega arith)
begins_within low high (e ∷ es) zero inside lt = left_of_both (not (is_lt (key_cmp e.0 low))) (is_below_end high e.0) (left_of_both (is_pair_in_range low high e) (list_all (is_pair_in_range low high) es) inside)
begins_within low high (e ∷ es) (suc n) inside lt = begins_within low high es n (right_of_both _ _ inside) (omega arith)

-- a key below one that is below an end
below_end : (high : Option KeyBytes) (k m : KeyBytes) → is_lt (key_cmp k m) ≡ true → T (is_below_end high m) → T (is_below_end high k)
below_end None k m before h = tt
below_end (Some to) k m before h = true_holds _ (below_trans k m to before (holds _ h))

first_level : (keep : ℕ) (b : Body) → level_of (first_entries keep b) ≡ level_of b
first_level keep (Pairs pairs writes) = refl
first_level keep (Children level children) = refl

other_level : (keep : ℕ) (b : Body) → level_of (other_entries keep b) ≡ level_of b
other_level keep (Pairs pairs writes) = refl
other_level keep (Children level children) = refl

first_writes : (keep : ℕ) (b : Body) → body_writes (first_entries keep b) ≡ body_writes b
first_writes keep (Pairs pairs writes) = refl
first_writes keep (Children level children) = refl

other_writes : (keep : ℕ) (b : Body) → body_writes (other_entries keep b) ≡ body_writes b
other_writes keep (Pairs pairs writes) = refl
other_writes keep (Children level children) = refl

has_first : {X : Type 0} (n : ℕ) (xs : List X) (x : X) → Contains (take n xs) x → Contains xs x
has_first zero xs x (i, lt, is) = absurd (omega arith)
has_first (suc n) [] x has = has
has_first (suc n) (y ∷ xs) x (zero, lt, is) = (zero, omega arith, is)
has_first (suc n) (y ∷ xs) x (suc i, lt, is) = let more = has_first n xs x (i, omega arith, is) in (suc more.0, omega (arith, more.1), more.2)

has_other : {X : Type 0} (n : ℕ) (xs : List X) (x : X) → Contains (drop n xs) x → Contains xs x
has_other zero xs x has = has
has_other (suc n) [] x has = has
has_other (suc n) (y ∷ xs) x has = let more = has_other n xs x has in (suc more.0, omega (arith, more.1), more.2)

first_children : (keep : ℕ) (b : Body) (c : KeyBytes × ℕ) → Contains (children_of (first_entries keep b)) c → Contains (children_of b) c
first_children keep (Pairs pairs writes) c has = has
first_children keep (Children level children) c has = has_first keep children c has

other_children : (keep : ℕ) (b : Body) (c : KeyBytes × ℕ) → Contains (children_of (other_entries keep b)) c → Contains (children_of b) c
other_children keep (Pairs pairs writes) c has = has
other_children keep (Children level children) c has = has_other keep children c has

starts_first : (keep : ℕ) (b : Body) (k : KeyBytes) (c : ℕ) → 0 < keep → StartsWith (children_of (first_entries keep b)) k c → StartsWith (children_of b) k c
starts_first keep (Pairs pairs writes) k c some starts = starts
starts_first zero (Children level children) k c some starts = absurd (omega arith)
starts_first (suc keep) (Children level []) k c some starts = starts
starts_first (suc keep) (Children level (x ∷ children)) k c some starts = starts

-- a child from a place on is the one at that place, or its separator lies above that one's
first_or_behind : (keep : ℕ) (es : List (KeyBytes × ℕ)) (k : KeyBytes) (c : ℕ) → T (is_sorted key_cmp es) → Contains (drop keep es) (k, c) → (slice_get es keep ≡ Some (k, c)) ⊎ (is_lt (key_cmp (first_key (drop keep es)) k) ≡ true)
first_or_behind zero [] k c sorted has = absurd (omega (arith, has.1))
first_or_behind zero (e ∷ es) k c sorted (zero, lt, at) = inl (ap Some at)
first_or_behind zero (e ∷ es) k c sorted (suc i, lt, at) = inr (behind_first e.0 es (k, c) (left_of_both _ _ sorted) (i, omega (arith, lt), at))
first_or_behind (suc keep) [] k c sorted has = absurd (omega (arith, has.1))
first_or_behind (suc keep) (e ∷ es) k c sorted has = first_or_behind keep es k c (right_of_both _ _ sorted) has

moved_behind : (low : KeyBytes) (high : Option KeyBytes) (side : Option ℕ) (keep : ℕ) (b : Body) (k : KeyBytes) (c : ℕ) → IsSoundBody low high side b → Contains (children_of (other_entries keep b)) (k, c) → (option_map (λ (e : KeyBytes × ℕ). e.1) (slice_get (children_of b) keep) ≡ Some c) ⊎ (is_lt (key_cmp (separator keep b) k) ≡ true)
moved_behind low high side keep (Pairs pairs writes) k c sound has = absurd (omega (arith, has.1))
moved_behind low high side keep (Children level children) k c sound has = by (first_or_behind keep children k c sound.page.sorted has)
  where
    by : (slice_get children keep ≡ Some (k, c)) ⊎ (is_lt (key_cmp (first_key (drop keep children)) k) ≡ true) → (option_map (λ (e : KeyBytes × ℕ). e.1) (slice_get children keep) ≡ Some c) ⊎ (is_lt (key_cmp (first_key (drop keep children)) k) ≡ true)
    by (inl at) = inl (ap (option_map (λ (e : KeyBytes × ℕ). e.1)) at)
    by (inr above) = inr above

-- a split record leaves a page that was cut there as it is
pub cut_is : (low : KeyBytes) (high : Option KeyBytes) (side : Option ℕ) (keep : ℕ) (b : Body) → IsSoundBody low high side b → keep < entry_count b → body_below (separator keep b) (first_entries keep b) ≡ first_entries keep b
cut_is low high side keep (Pairs pairs writes) sound fewer = ap (λ (es : List (KeyBytes × ValueBytes)). Pairs es writes) (below_cut keep pairs sound.page.sorted fewer)
cut_is low high side keep (Children level children) sound fewer = ap (Children level) (below_cut keep children sound.page.sorted fewer)

-- pages with a new one behind another
begins_still : (p q r : ℕ) (ps : List ℕ) → BeginsWith ps r → BeginsWith (put_behind p q ps) r
begins_still p q r [] begins = begins
begins_still p q r (x ∷ ps) begins = begins

has_still : (p q r : ℕ) (ps : List ℕ) → Contains ps r → Contains (put_behind p q ps) r
has_still p q r [] has = has
has_still p q r (x ∷ ps) (zero, lt, is) = (zero, omega arith, is)
has_still p q r (x ∷ ps) (suc i, lt, is) = by (nat_eq x p) (has_still p q r ps (i, omega arith, is))
  where
    by : (b : Bool) → Contains (put_behind p q ps) r → Contains (x ∷ cond b (q ∷ put_behind p q ps) (put_behind p q ps)) r
    by true h = (suc (suc h.0), omega (arith, h.1), h.2)
    by false h = (suc h.0, omega (arith, h.1), h.2)

has_behind : (p q : ℕ) (ps : List ℕ) → Contains ps p → Contains (put_behind p q ps) q
has_behind p q [] has = absurd (omega (arith, has.1))
has_behind p q (x ∷ ps) (zero, lt, is) = subst (λ b. Contains (x ∷ cond b (q ∷ put_behind p q ps) (put_behind p q ps)) q) (sym (is_here x p is)) (1, omega arith, refl)
has_behind p q (x ∷ ps) (suc i, lt, is) = by (nat_eq x p) (has_behind p q ps (i, omega (arith, lt), is))
  where
    by : (b : Bool) → Contains (put_behind p q ps) q → Contains (x ∷ cond b (q ∷ put_behind p q ps) (put_behind p q ps)) q
    by true h = (1, omega arith, refl)
    by false h = (suc h.0, omega (arith, h.1), h.2)

pub had : (p q r : ℕ) (ps : List ℕ) → Contains (put_behind p q ps) r → Contains ps r ⊎ ((r ≡ q) × Contains ps p)
had p q r [] has = inl has
had p q r (x ∷ ps) has = by (nat_eq x p) refl has (had p q r ps)
  where
    later : Contains ps r ⊎ ((r ≡ q) × Contains ps p) → Contains (x ∷ ps) r ⊎ ((r ≡ q) × Contains (x ∷ ps) p)
    later (inl h) = inl (suc h.0, omega (arith, h.1), h.2)
    later (inr h) = inr (h.0, (suc h.1.0, omega (arith, h.1.1), h.1.2))

    same : nat_eq x p ≡ true → x ≡ p
    same e = grind (arith, nat_tests)

    by : (b : Bool) → nat_eq x p ≡ b → Contains (x ∷ cond b (q ∷ put_behind p q ps) (put_behind p q ps)) r → (Contains (put_behind p q ps) r → Contains ps r ⊎ ((r ≡ q) × Contains ps p)) → Contains (x ∷ ps) r ⊎ ((r ≡ q) × Contains (x ∷ ps) p)
    by b test (zero, lt, is) more = inl (zero, omega arith, is)
    by true test (suc zero, lt, is) more = inr (sym is, (zero, omega arith, same test))
    by true test (suc (suc i), lt, is) more = later (more (i, omega arith, is))
    by false test (suc i, lt, is) more = later (more (i, omega arith, is))

module _ (old new : List Slot) (root : ℕ) (levels : List (List ℕ)) (level p q keep : ℕ) (lawful : AreLevels old root levels) (within : level < length levels) (has : Contains (row levels level) p) (live : HasNoRemovedAt old p keep) (parted : IsParted old new p q keep) where
  abbrev was : PageState
  was = parted.was

  abbrev after : List (List ℕ)
  after = level_parted levels level p q

  abbrev key_at : KeyBytes
  key_at = separator keep was.body

  at : InRow old level (row levels level) has.0 p
  at = in_row old level [] (row levels level) has.0 p (lawful.rows level within) has.1 has.2

  was_here : at.stands.state ≡ was
  was_here = one_state (sym at.stands.is ∙ parted.is)

  sound : IsSoundPage was
  sound = subst IsSoundPage was_here at.stands.sound

  at_level : level_of was.body ≡ level
  at_level = ap (λ (s : PageState). level_of s.body) (sym was_here) ∙ at.stands.at_level

  now_left : IsSoundPage (left_part keep q was)
  now_left = left_sound was.low was.high was.side keep q parted.some was.body parted.bare parted.fewer sound

  now_right : IsSoundPage (right_part keep was)
  now_right = right_sound was.low was.high was.side keep q parted.some was.body parted.bare parted.fewer sound

  -- what was there is neither free nor new
  not_new : (x : ℕ) (s : PageState) → slot_at old x ≡ Live s → x ≡ q → ⊥
  not_new x s is same = not_free (sym parted.free ∙ ap (slot_at old) (sym same) ∙ is)

  elsewhere : (n : ℕ) (low : KeyBytes) (high : Option KeyBytes) (side : Option ℕ) (x : ℕ) → (x ≡ p → ⊥) → Stands old n low high side x → Stands new n low high side x
  elsewhere n low high side x apart s =
      record { state = s.state; is = parted.others x apart (not_new x s.state s.is) ∙ s.is; sound = s.sound; at_level = s.at_level; from_low = s.from_low; to_high = s.to_high; linked = s.linked }

  stands_left : (low : KeyBytes) (high : Option KeyBytes) (side : Option ℕ) → Stands old level low high side p → Stands new level low (Some key_at) (Some q) p
  stands_left low high side s =
      let same : s.state ≡ was = one_state (sym s.is ∙ parted.is) in
      record { state = left_part keep q was; is = parted.left; sound = now_left; at_level = first_level keep was.body ∙ at_level; from_low = ap (λ (t : PageState). t.low) (sym same) ∙ s.from_low; to_high = refl; linked = refl }

  stands_right : (low : KeyBytes) (high : Option KeyBytes) (side : Option ℕ) → Stands old level low high side p → Stands new level key_at high side q
  stands_right low high side s =
      let same : s.state ≡ was = one_state (sym s.is ∙ parted.is) in
      record { state = right_part keep was; is = parted.right; sound = now_right; at_level = other_level keep was.body ∙ at_level; from_low = refl; to_high = ap (λ (t : PageState). t.high) (sym same) ∙ s.to_high; linked = ap (λ (t : PageState). t.side) (sym same) ∙ s.linked }

  -- the level goes on by the new page
  row_parted : (low : KeyBytes) (ps : List ℕ) → SideBySide old level low ps → SideBySide new level low (put_behind p q ps)
  row_parted low [] h = absurd h
  row_parted low (x ∷ []) h = by (cases_eq x p)
    where
      by : (x ≡ p) ⊎ (x ≡ p → ⊥) → SideBySide new level low (x ∷ cond (nat_eq x p) (q ∷ []) [])
      by (inl here) =
          let s = subst (Stands old level low None None) here h in
          let row : SideBySide new level low (p ∷ q ∷ []) = (key_at, stands_left low None None s, stands_right low None None s) in
          subst (λ b. SideBySide new level low (x ∷ cond b (q ∷ []) [])) (sym (is_here x p here)) (subst (λ y. SideBySide new level low (y ∷ q ∷ [])) (sym here) row)
      by (inr other) = subst (λ b. SideBySide new level low (x ∷ cond b (q ∷ []) [])) (sym (is_not x p other)) (elsewhere level low None None x other h)
  row_parted low (x ∷ y ∷ ys) h = by (cases_eq x p) (row_parted h.0 (y ∷ ys) h.2)
    where
      more : List ℕ
      more = cond (nat_eq y p) (q ∷ put_behind p q ys) (put_behind p q ys)

      by : (x ≡ p) ⊎ (x ≡ p → ⊥) → SideBySide new level h.0 (y ∷ more) → SideBySide new level low (x ∷ cond (nat_eq x p) (q ∷ y ∷ more) (y ∷ more))
      by (inl here) rest =
          let s = subst (Stands old level low (Some h.0) (Some y)) here h.1 in
          let row : SideBySide new level low (p ∷ q ∷ y ∷ more) = (key_at, stands_left low (Some h.0) (Some y) s, (h.0, stands_right low (Some h.0) (Some y) s, rest)) in
          subst (λ b. SideBySide new level low (x ∷ cond b (q ∷ y ∷ more) (y ∷ more))) (sym (is_here x p here)) (subst (λ z. SideBySide new level low (z ∷ q ∷ y ∷ more)) (sym here) row)
      by (inr other) rest =
          let row : SideBySide new level low (x ∷ y ∷ more) = (h.0, elsewhere level low (Some h.0) (Some y) x other h.1, rest) in
          subst (λ b. SideBySide new level low (x ∷ cond b (q ∷ y ∷ more) (y ∷ more))) (sym (is_not x p other)) row

  -- the page stands on no other level
  not_it : (n : ℕ) (low : KeyBytes) (high : Option KeyBytes) (side : Option ℕ) (x : ℕ) → (n ≡ level → ⊥) → Stands old n low high side x → x ≡ p → ⊥
  not_it n low high side x differs s same =
      differs (sym s.at_level ∙ ap (λ (t : PageState). level_of t.body) (one_state (sym s.is ∙ ap (slot_at old) same ∙ parted.is)) ∙ at_level)

  row_stays : (n : ℕ) (low : KeyBytes) (ps : List ℕ) → (n ≡ level → ⊥) → SideBySide old n low ps → SideBySide new n low ps
  row_stays n low ps differs h = row_on old new n (λ l high side x s. elsewhere n l high side x (not_it n l high side x differs s) s) low ps h

  row_here : row after level ≡ put_behind p q (row levels level)
  row_here = get_or-set_same levels level (put_behind p q (row levels level)) [] within

  row_other : (n : ℕ) → (n ≡ level → ⊥) → row after n ≡ row levels n
  row_other n differs = get_or-set_other levels level n (put_behind p q (row levels level)) [] differs

  -- what holds of the level and of the others holds of all
  each : (P : ℕ → List ℕ → Type 0) → P level (put_behind p q (row levels level)) → ((n : ℕ) → (n ≡ level → ⊥) → P n (row levels n)) → (n : ℕ) → P n (row after n)
  each P here there n = by (cases_eq n level)
    where
      by : (n ≡ level) ⊎ (n ≡ level → ⊥) → P n (row after n)
      by (inl same) = subst (λ m. P m (row after m)) (sym same) (subst (P level) (sym row_here) here)
      by (inr differs) = subst (P n) (sym (row_other n differs)) (there n differs)

  rows_new : (n : ℕ) → n < length levels → SideBySide new n [] (row after n)
  rows_new = each (λ n ps. n < length levels → SideBySide new n [] ps)
      (λ lt. row_parted [] (row levels level) (lawful.rows level within))
      (λ n differs lt. row_stays n [] (row levels n) differs (lawful.rows n lt))

  pub has_new : (n r : ℕ) → Contains (row levels n) r → Contains (row after n) r
  has_new n r = each (λ m ps. Contains (row levels m) r → Contains ps r) (has_still p q r (row levels level)) (λ m differs h. h) n

  -- the level has the new page
  new_in : Contains (row after level) q
  new_in = subst (λ (ps : List ℕ). Contains ps q) (sym row_here) (has_behind p q (row levels level) has)

  -- each page stands where it stood, and the new one behind p
  stand_new : AllStand old levels → AllStand new after
  stand_new stand r s is = by (cases_eq r p) (cases_eq r q)
    where
      on : (n : ℕ) → n < length levels → Contains (row after n) r → IsInLevels after r
      on n lt there = record { level = n; within = omega (arith, lt, length-set levels level (put_behind p q (row levels level))); in_level = there }

      still_on : IsInLevels levels r → IsInLevels after r
      still_on was_on = on was_on.level was_on.within (has_new was_on.level r was_on.in_level)

      by : (r ≡ p) ⊎ (r ≡ p → ⊥) → (r ≡ q) ⊎ (r ≡ q → ⊥) → IsInLevels after r
      by (inl here) h = still_on (stand r was (ap (slot_at old) here ∙ parted.is))
      by (inr other) (inl added) = on level within (subst (Contains (row after level)) (sym added) new_in)
      by (inr other) (inr old_one) = still_on (stand r s (sym (parted.others r other old_one) ∙ is))

  -- a page of a level was one, or is the new one, and p was one
  was_in : (n r : ℕ) → Contains (row after n) r → Contains (row levels n) r ⊎ ((r ≡ q) × Contains (row levels n) p)
  was_in n r = each (λ m ps. Contains ps r → Contains (row levels m) r ⊎ ((r ≡ q) × Contains (row levels m) p)) (had p q r (row levels level)) (λ m differs h. inl h) n

  first_new : (n r : ℕ) → n < length levels → BeginsWith (row levels n) r → BeginsWith (row after n) r
  first_new n r lt = each (λ m ps. BeginsWith (row levels m) r → BeginsWith ps r) (begins_still p q r (row levels level)) (λ m differs h. h) n

  live_first : (n : ℕ) (low : KeyBytes) (ps : List ℕ) (r : ℕ) → SideBySide old n low ps → BeginsWith ps r → (s : PageState) × (slot_at old r ≡ Live s)
  live_first n low [] r h begins = absurd h
  live_first n low (x ∷ ps) r h begins = let st = (first_stands old n low x ps h).1.1 in (st.state, ap (slot_at old) (sym begins) ∙ st.is)

  first_child_was : (n r c : ℕ) → suc n < length levels → BeginsWith (row levels (suc n)) r → FirstChild new r c → FirstChild old r c
  first_child_was n r c lt begins first = by (cases_eq r p)
    where
      by : (r ≡ p) ⊎ (r ≡ p → ⊥) → FirstChild old r c
      by (inl here) =
          let now : first.0 ≡ left_part keep q was = one_state (sym first.1 ∙ ap (slot_at new) here ∙ parted.left) in
          (was, ap (slot_at old) here ∙ parted.is, (first.2.0, starts_first keep was.body first.2.0 c parted.some (subst (λ (s : PageState). StartsWith (children_of s.body) first.2.0 c) now first.2.1)))
      by (inr other) =
          let live = live_first (suc n) [] (row levels (suc n)) r (lawful.rows (suc n) lt) begins in
          (first.0, sym (parted.others r other (not_new r live.0 live.1)) ∙ first.1, first.2)

  left_same : (x : ℕ) → left_of new x ≡ left_of old x
  left_same x = by (cases_eq x p) (cases_eq x q)
    where
      by : (x ≡ p) ⊎ (x ≡ p → ⊥) → (x ≡ q) ⊎ (x ≡ q → ⊥) → left_of new x ≡ left_of old x
      by (inl here) h = ap (left_of new) here ∙ ap left_of_slot parted.left ∙ sym (ap left_of_slot parted.is) ∙ ap (left_of old) (sym here)
      by (inr other) (inl added) = ap (left_of new) added ∙ ap left_of_slot parted.right ∙ sym (ap left_of_slot parted.free) ∙ ap (left_of old) (sym added)
      by (inr other) (inr old_one) = ap left_of_slot (parted.others x other old_one)

  -- what led below still does
  leads_new : (n : ℕ) (k : KeyBytes) (c : ℕ) → LeadsBelow old (row levels n) k c → LeadsBelow new (row after n) k c
  leads_new n k c h =
      let now = still (cases_eq h.page p) in
      record {
        removed = h.removed;
        page = h.page;
        way = way_on (left_of old) (left_of new) left_same c h.removed h.page h.way;
        in_level = has_new n h.page h.in_level;
        state = now.0;
        is = now.1;
        from_low = subst (λ (z : KeyBytes). IsUpto z k) (sym now.2) h.from_low;
      }
    where
      still : (h.page ≡ p) ⊎ (h.page ≡ p → ⊥) → (s : PageState) × (slot_at new h.page ≡ Live s) × (s.low ≡ h.state.low)
      still (inl here) = (left_part keep q was, ap (slot_at new) here ∙ parted.left, ap (λ (s : PageState). s.low) (one_state (sym parted.is ∙ ap (slot_at old) (sym here) ∙ h.is)))
      still (inr other) = (h.state, parted.others h.page other (not_new h.page h.state h.is) ∙ h.is, refl)

  -- the children of both parts are those of the page
  term_was : (n : ℕ) (k : KeyBytes) (c : ℕ) → suc n < length levels → IsTerm new after n k c → IsTerm old levels n k c
  term_was n k c lt t = by (was_in (suc n) t.page t.in_level)
    where
      from_left : t.page ≡ p → Contains (children_of was.body) (k, c)
      from_left here = first_children keep was.body (k, c) (subst (λ (s : PageState). Contains (children_of s.body) (k, c)) (one_state (sym t.is ∙ ap (slot_at new) here ∙ parted.left)) t.named)

      from_right : t.page ≡ q → Contains (children_of was.body) (k, c)
      from_right here = other_children keep was.body (k, c) (subst (λ (s : PageState). Contains (children_of s.body) (k, c)) (one_state (sym t.is ∙ ap (slot_at new) here ∙ parted.right)) t.named)

      by : Contains (row levels (suc n)) t.page ⊎ ((t.page ≡ q) × Contains (row levels (suc n)) p) → IsTerm old levels n k c
      by (inr added) = record { page = p; in_level = added.1; state = was; is = parted.is; named = from_right added.0 }
      by (inl there) = at_page (cases_eq t.page p)
        where
          at_page : (t.page ≡ p) ⊎ (t.page ≡ p → ⊥) → IsTerm old levels n k c
          at_page (inl here) = record { page = p; in_level = subst (Contains (row levels (suc n))) here there; state = was; is = parted.is; named = from_left here }
          at_page (inr other) =
              let live = (in_row old (suc n) [] (row levels (suc n)) there.0 t.page (lawful.rows (suc n) lt) there.1 there.2).stands in
              record { page = t.page; in_level = there; state = t.state; is = sym (parted.others t.page other (not_new t.page live.state live.is)) ∙ t.is; named = t.named }

  keeps : KeepsLevels old new levels after
  keeps = record {
    count = length-set levels level (put_behind p q (row levels level));
    rows = rows_new;
    first = first_new;
    first_child = first_child_was;
    terms = λ n k c lt t. inl (record { was = term_was n k c lt t; leads = leads_new n k c });
  }

  lawful_new : AreLevels new root after
  lawful_new = levels_kept old new root levels after lawful keeps

  -- a child begins where it began: no entry names the new page
  began : (n : ℕ) (k : KeyBytes) (c : ℕ) (s : PageState) → suc n < length levels → IsTerm old levels n k c → slot_at new c ≡ Live s → (t : PageState) × (slot_at old c ≡ Live t) × (t.low ≡ s.low)
  began n k c s lt term is = by (cases_eq c p) (cases_eq c q)
    where
      by : (c ≡ p) ⊎ (c ≡ p → ⊥) → (c ≡ q) ⊎ (c ≡ q → ⊥) → (t : PageState) × (slot_at old c ≡ Live t) × (t.low ≡ s.low)
      by (inl here) h = (was, ap (slot_at old) here ∙ parted.is, ap (λ (t : PageState). t.low) (one_state (sym parted.left ∙ ap (slot_at new) (sym here) ∙ is)))
      by (inr other) (inl added) = absurd (child_there old root levels lawful n k c lt term (ap (slot_at old) added ∙ parted.free))
      by (inr other) (inr old_one) = (s, sym (parted.others c other old_one) ∙ is, refl)

  exact_new : AreExact old levels → AreExact new after
  exact_new exact = record {
    begins = λ n k c s lt term is.
        let had = term_was n k c (above n lt) term in
        let b = began n k c s (above n lt) had is in
        sym b.2 ∙ exact.begins n k c b.0 (above n lt) had b.1;
    began = λ n k c g lt term is. exact.began n k c g (above n lt) (term_was n k c (above n lt) term) (was_gone c g is (cases_eq c p) (cases_eq c q));
    behind = λ n k c g lt term is. behind_there n k c g (above n lt) term (was_gone c g is (cases_eq c p) (cases_eq c q));
    once = λ n k h c lt one other. exact.once n k h c (above n lt) (term_was n k c (above n lt) one) (term_was n h c (above n lt) other);
  }
    where
      above : (n : ℕ) → suc n < length after → suc n < length levels
      above n lt = subst (λ m. suc n < m) (length-set levels level (put_behind p q (row levels level))) lt

      was_gone : (c : ℕ) (g : RemovedPage) → slot_at new c ≡ Gone g → (c ≡ p) ⊎ (c ≡ p → ⊥) → (c ≡ q) ⊎ (c ≡ q → ⊥) → slot_at old c ≡ Gone g
      was_gone c g is (inl here) h = absurd (not_gone (sym parted.left ∙ ap (slot_at new) (sym here) ∙ is))
      was_gone c g is (inr other) (inl added) = absurd (not_gone (sym parted.right ∙ ap (slot_at new) (sym added) ∙ is))
      was_gone c g is (inr other) (inr old_one) = sym (parted.others c other old_one) ∙ is

      -- the new page doesn't begin with a removed child, and p begins where it began
      behind_there : (n : ℕ) (k : KeyBytes) (c : ℕ) (g : RemovedPage) → suc n < length levels → (t : IsTerm new after n k c) → slot_at old c ≡ Gone g → is_lt (key_cmp t.state.low k) ≡ true
      behind_there n k c g lt t gone = by (was_in (suc n) t.page t.in_level)
        where
          moved : Contains (children_of (other_entries keep was.body)) (k, c) → is_lt (key_cmp key_at k) ≡ true
          moved named = of (moved_behind was.low was.high was.side keep was.body k c sound named)
            where
              of : (option_map (λ (e : KeyBytes × ℕ). e.1) (slice_get (children_of was.body) keep) ≡ Some c) ⊎ (is_lt (key_cmp key_at k) ≡ true) → is_lt (key_cmp key_at k) ≡ true
              of (inl at) = absurd (none_removed (sym (live c (ap (slot_child keep) parted.is ∙ at)) ∙ ap removed_at gone))
              of (inr lies) = lies

          at_page : Contains (row levels (suc n)) t.page → (t.page ≡ p) ⊎ (t.page ≡ p → ⊥) → is_lt (key_cmp t.state.low k) ≡ true
          at_page there (inl here) =
              let same : t.state ≡ left_part keep q was = one_state (sym t.is ∙ ap (slot_at new) here ∙ parted.left) in
              let named = first_children keep was.body (k, c) (subst (λ (s : PageState). Contains (children_of s.body) (k, c)) same t.named) in
              ap (λ (s : PageState). is_lt (key_cmp s.low k)) same
              ∙ exact.behind n k c g lt (record { page = p; in_level = subst (Contains (row levels (suc n))) here there; state = was; is = parted.is; named = named }) gone
          at_page there (inr other) =
              let st = (in_row old (suc n) [] (row levels (suc n)) there.0 t.page (lawful.rows (suc n) lt) there.1 there.2).stands in
              exact.behind n k c g lt (record { page = t.page; in_level = there; state = t.state; is = sym (parted.others t.page other (not_new t.page st.state st.is)) ∙ t.is; named = t.named }) gone

          by : Contains (row levels (suc n)) t.page ⊎ ((t.page ≡ q) × Contains (row levels (suc n)) p) → is_lt (key_cmp t.state.low k) ≡ true
          by (inl there) = at_page there (cases_eq t.page p)
          by (inr added) =
              let same : t.state ≡ right_part keep was = one_state (sym t.is ∙ ap (slot_at new) added.0 ∙ parted.right) in
              ap (λ (s : PageState). is_lt (key_cmp s.low k)) same ∙ moved (subst (λ (s : PageState). Contains (children_of s.body) (k, c)) same t.named)

  -- neither part has writes, as the page had none
  writes_same : (x : ℕ) → writes_over (slot_at new x) ≡ writes_over (slot_at old x)
  writes_same x = by (cases_eq x p) (cases_eq x q)
    where
      by : (x ≡ p) ⊎ (x ≡ p → ⊥) → (x ≡ q) ⊎ (x ≡ q → ⊥) → writes_over (slot_at new x) ≡ writes_over (slot_at old x)
      by (inl here) h =
          ap (λ y. writes_over (slot_at new y)) here ∙ ap writes_over parted.left ∙ first_writes keep was.body
          ∙ sym (ap writes_over parted.is) ∙ ap (λ y. writes_over (slot_at old y)) (sym here)
      by (inr other) (inl added) =
          ap (λ y. writes_over (slot_at new y)) added ∙ ap writes_over parted.right ∙ other_writes keep was.body ∙ parted.bare
          ∙ sym (ap writes_over parted.free) ∙ ap (λ y. writes_over (slot_at old y)) (sym added)
      by (inr other) (inr old_one) = ap writes_over (parted.others x other old_one)

  none_new : writes_over (slot_at new q) ≡ []
  none_new = ap writes_over parted.right ∙ other_writes keep was.body ∙ parted.bare

  row_same : (ps : List ℕ) → row_writes new ps ≡ row_writes old ps
  row_same ps = same_each (λ x. writes_over (slot_at old x)) (λ x. writes_over (slot_at new x)) writes_same ps

  behind_same : (ps : List ℕ) → row_writes new (put_behind p q ps) ≡ row_writes new ps
  behind_same [] = refl
  behind_same (x ∷ ps) = ap (λ (l : List WriteView). writes_over (slot_at new x) ++ l) (by (nat_eq x p) (behind_same ps))
    where
      by : (b : Bool) → row_writes new (put_behind p q ps) ≡ row_writes new ps → row_writes new (cond b (q ∷ put_behind p q ps) (put_behind p q ps)) ≡ row_writes new ps
      by true rest = ap (λ (l : List WriteView). l ++ row_writes new (put_behind p q ps)) none_new ∙ rest
      by false rest = rest

  writes_kept : row_writes new (row after 0) ≡ row_writes old (row levels 0)
  writes_kept = each (λ n ps. row_writes new ps ≡ row_writes old (row levels n)) (behind_same (row levels level) ∙ row_same (row levels level)) (λ n differs. row_same (row levels n)) 0

  -- a key's new home is what the old one was parted into, or the same page with the same state
  pub record HasMoved (key : KeyBytes) (y : ℕ) : Type 0 where
    page : ℕ
    home : IsHome old levels key page
    value : (stamp : ℕ) → value_in (slot_at new y) key stamp ≡ value_in (slot_at old page) key stamp

  upto_key_at : is_lt (key_cmp key_at was.low) ≡ false
  upto_key_at = holds_not _ (starts was.body sound parted.fewer)
    where
      starts : (b : Body) → IsSoundBody was.low was.high was.side b → keep < entry_count b → T (not (is_lt (key_cmp (separator keep b) was.low)))
      starts (Pairs pairs writes) s fewer = begins_within was.low was.high pairs keep s.page.inside fewer
      starts (Children n children) s fewer = begins_within was.low was.high children keep s.page.inside fewer

  home_p : (key : KeyBytes) → Contains (row levels 0) p → is_lt (key_cmp key was.low) ≡ false → T (is_below_end was.high key) → IsHome old levels key p
  home_p key in_level from below = record {
    reached = record { within = lawful.some; in_level = in_level; state = was; is = parted.is; from_low = not_holds _ from };
    ends_above = below;
  }

  moved : (key : KeyBytes) (y : ℕ) → IsHome new after key y → HasMoved key y
  moved key y h = by (was_in 0 y h.reached.in_level)
    where
      to_left : y ≡ p → Contains (row levels 0) p → HasMoved key y
      to_left here in_level =
          let now : h.reached.state ≡ left_part keep q was = one_state (sym h.reached.is ∙ ap (slot_at new) here ∙ parted.left) in
          let before : is_lt (key_cmp key key_at) ≡ true = holds _ (subst (λ (s : PageState). T (is_below_end s.high key)) now h.ends_above) in
          record {
            page = p;
            home = home_p key in_level (holds_not _ (subst (λ (s : PageState). IsUpto s.low key) now h.reached.from_low)) (below_end was.high key key_at before (wide_of key_at was.high was.side (other_entries keep was.body) now_right));
            value = λ stamp.
                ap (λ z. value_in (slot_at new z) key stamp) here
                ∙ ap (λ (o : Slot). value_in o key stamp) parted.left
                ∙ ap (λ o. history o (action_at (writes_to key (body_writes (first_entries keep was.body)))) stamp) (find_left was.low was.high was.side keep q parted.some was.body key parted.fewer sound before)
                ∙ ap (λ (ws : List WriteView). history (find key_cmp key (body_pairs was.body)) (action_at (writes_to key ws)) stamp) (first_writes keep was.body)
                ∙ sym (ap (λ (o : Slot). value_in o key stamp) parted.is);
          }

      to_right : y ≡ q → Contains (row levels 0) p → HasMoved key y
      to_right here in_level =
          let now : h.reached.state ≡ right_part keep was = one_state (sym h.reached.is ∙ ap (slot_at new) here ∙ parted.right) in
          let from : is_lt (key_cmp key key_at) ≡ false = holds_not _ (subst (λ (s : PageState). IsUpto s.low key) now h.reached.from_low) in
          record {
            page = p;
            home = home_p key in_level (upto_trans was.low key_at key upto_key_at from) (subst (λ (s : PageState). T (is_below_end s.high key)) now h.ends_above);
            value = λ stamp.
                ap (λ z. value_in (slot_at new z) key stamp) here
                ∙ ap (λ (o : Slot). value_in o key stamp) parted.right
                ∙ ap (λ o. history o (action_at (writes_to key (body_writes (other_entries keep was.body)))) stamp) (find_right was.low was.high was.side keep q parted.some was.body key parted.fewer sound from)
                ∙ ap (λ (ws : List WriteView). history (find key_cmp key (body_pairs was.body)) (action_at (writes_to key ws)) stamp) (other_writes keep was.body)
                ∙ sym (ap (λ (o : Slot). value_in o key stamp) parted.is);
          }

      by : Contains (row levels 0) y ⊎ ((y ≡ q) × Contains (row levels 0) p) → HasMoved key y
      by (inr added) = to_right added.0 added.1
      by (inl there) = at_page (cases_eq y p)
        where
          at_page : (y ≡ p) ⊎ (y ≡ p → ⊥) → HasMoved key y
          at_page (inl here) = to_left here (subst (Contains (row levels 0)) here there)
          at_page (inr other) =
              let live = (in_row old 0 [] (row levels 0) there.0 y (lawful.rows 0 lawful.some) there.1 there.2).stands in
              let same = parted.others y other (not_new y live.state live.is) in
              record {
                page = y;
                home = record {
                  reached = record { within = lawful.some; in_level = there; state = h.reached.state; is = sym same ∙ h.reached.is; from_low = h.reached.from_low };
                  ends_above = h.ends_above;
                };
                value = λ stamp. ap (λ (o : Slot). value_in o key stamp) same;
              }

  contents_new : HasDistinctStamps (row_writes old (row levels 0)) → (stamp : ℕ) → contents_in new after stamp ≡ contents_in old levels stamp
  contents_new distinct stamp = contents_kept old new root root levels after stamp stamp lawful lawful_new distinct (subst HasDistinctStamps (sym writes_kept) distinct) (λ key x y h k.
      let m = moved key y k in
      m.value stamp ∙ ap (λ z. value_in (slot_at old z) key stamp) (one_home old root levels lawful key m.page x m.home h))

pub parts_kept : PartsAreKept
parts_kept old new root levels level p q keep lawful within has live parted = record {
  lawful = lawful_new old new root levels level p q keep lawful within has live parted;
  exact = exact_new old new root levels level p q keep lawful within has live parted;
  stand = stand_new old new root levels level p q keep lawful within has live parted;
  writes = writes_kept old new root levels level p q keep lawful within has live parted;
  contents = contents_new old new root levels level p q keep lawful within has live parted;
}
