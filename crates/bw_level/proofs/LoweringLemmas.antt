-- A root whose only child takes its place leaves a lawful tree that holds the same.
use Rattle.std.proofs.Common.{inl, inr, ◌⊎◌, ◌≡◌, ℕ, zero, suc, ◌-◌, ◌<◌, ◌≤◌, List, [], ◌∷◌, length, Option, Some, None, refl, sym, ap, ◌∙◌, subst, arith}
use Rattle.std.proofs.lemmas.Bool.{cases_eq, cases_lt}
use Rattle.std.proofs.lemmas.List.{get_or-take, length-take-le}
use Rattle.std.specs.FinMap.{from_entries}
use Rattle.std.specs.List.{Contains}
use Rattle.bw_key.specs.Order.{KeyBytes}
use Rattle.bw_page.specs.declared.pages.RemovedPage.{RemovedPage}
use Rattle.bw_delta.specs.ContentsAsOf.{contents_as_of}
use Rattle.bw_delta.specs.History.{HasDistinctStamps}
use Rattle.bw_level.specs.Before.{low_at}
use Rattle.bw_level.specs.Entries.{AreExact}
use Rattle.bw_level.specs.Freeing.{IsAside}
use Rattle.bw_level.specs.Laws.{KeepsAll, LevelsAreLowered}
use Rattle.bw_level.specs.Levels.{AreLevels, BeginsWith, FirstChild, IsHomeAt, LeadsBelow, SideBySide, StartsWith, row}
use Rattle.bw_level.specs.Reading.{contents_in, row_pairs, row_writes}
use Rattle.bw_level.specs.Roots.{HasOneChild, IsRootRemoved, levels_lowered}
use Rattle.bw_level.specs.Searches.{AllStand, IsInLevels}
use Rattle.bw_level.specs.Slots.{Slot, PageState, Body, Pairs, Children, Gone, Live, IsSoundBody, IsSoundPage, children_of, left_of, left_of_slot, level_of, slot_at, slot_level}
use Rattle.bw_level.specs.KeptLevels.{IsTerm}
use Rattle.bw_level.specs.Walk.{Leads}
use Rattle.bw_level.proofs.AboveLemmas.{own_level, own_page}
use Rattle.bw_level.proofs.AsideLemmas.{KeepsWays, has_first, kept_aside, still_aside}
use Rattle.bw_level.proofs.RouteLemmas.{row_first}

-- a slot has one page
one_state : {s t : PageState} → Live s ≡ Live t → s ≡ t
one_state e = cc

not_gone : {s : PageState} {g : RemovedPage} → Live s ≡ Gone g → ⊥
not_gone e = cc

no_side : {x : ℕ} → None ≡ Some x → ⊥
no_side e = cc

-- no children are not one
no_child : {e : KeyBytes × ℕ} → ◌≡◌ {A = List (KeyBytes × ℕ)} [] (e ∷ []) → ⊥
no_child e = cc

-- a page with a child is above the leaves
raised_over : (low : KeyBytes) (high : Option KeyBytes) (side : Option ℕ) (b : Body) (e : KeyBytes × ℕ) → children_of b ≡ e ∷ [] → IsSoundBody low high side b → 1 ≤ level_of b
raised_over low high side (Pairs pairs writes) e only sound = absurd (no_child only)
raised_over low high side (Children level children) e only sound = sound.raised

module _ (slots : List Slot) (root : ℕ) (levels : List (List ℕ)) (child : ℕ) (lawful : AreLevels slots root levels) (given : HasOneChild slots root child) where
  abbrev after : List (List ℕ)
  after = levels_lowered levels

  abbrev n : ℕ
  n = length levels - 1

  -- the root stands on the highest level
  top_level : (level_of given.state.body ≡ n) × IsSoundPage given.state
  top_level =
      let st = (row_first slots n [] (row levels n) root (lawful.rows n (omega (arith, lawful.some))) lawful.top).1.1 in
      let same : st.state ≡ given.state = one_state (sym st.is ∙ given.is) in
      (subst (λ (s : PageState). level_of s.body ≡ n) same st.at_level, subst IsSoundPage same st.sound)

  -- which is above the leaves
  pub two : 1 < length levels
  two =
      let over : 1 ≤ level_of given.state.body = raised_over given.state.low given.state.high given.state.side given.state.body (given.key, child) given.only top_level.1 in
      let at : level_of given.state.body ≡ length levels - 1 = top_level.0 in
      omega (arith, over, at)

  -- the levels are one less
  one_less : length after ≡ n
  one_less = length-take-le n levels (omega arith)

  -- the levels below the highest one are the same
  row_same : (m : ℕ) → m < length after → row after m ≡ row levels m
  row_same m lt = get_or-take n levels m [] (omega (arith, lt, one_less))

  -- a level is one of before
  was_within : (m : ℕ) → m < length after → m < length levels
  was_within m lt = omega (arith, lt, one_less)

  -- and so is the one below it
  lower : (m : ℕ) → suc m < length after → m < length after
  lower m lt = omega (arith, lt)

  -- the child is the root's first
  first_child : FirstChild slots root child
  first_child = (given.state, given.is, (given.key, subst (λ (es : List (KeyBytes × ℕ)). StartsWith es given.key child) (sym given.only) refl))

  -- the child begins the level below the root's
  top_new : BeginsWith (row after (length after - 1)) child
  top_new =
      let m = length after - 1 in
      let last : suc m ≡ n = omega (arith, one_less, two) in
      let begins : BeginsWith (row levels (suc m)) root = subst (λ l. BeginsWith (row levels l) root) (sym last) lawful.top in
      subst (λ (ps : List ℕ). BeginsWith ps child) (sym (row_same m (omega (arith, one_less, two))))
      (lawful.firsts m root child (omega (arith, last, two)) begins first_child)

  -- and is at home there at the least key
  pub least_below : (m x : ℕ) → suc (suc m) ≡ length levels → IsHomeAt slots levels [] m x → x ≡ child
  least_below m x last home =
      let begins : BeginsWith (row levels (suc m)) root = subst (λ l. BeginsWith (row levels l) root) (omega (arith, last)) lawful.top in
      let first : BeginsWith (row levels m) child = lawful.firsts m root child (omega (arith, last)) begins first_child in
      let within : m < length levels = omega (arith, last) in
      let st = (row_first slots m [] (row levels m) child (lawful.rows m within) first).1.1 in
      own_page slots root levels lawful child m within (has_first (row levels m) child first) [] x (ap low_at st.is ∙ ap (λ (k : KeyBytes). Some k) st.from_low) home

  -- rows are side by side
  rows_new : (m : ℕ) → m < length after → SideBySide slots m [] (row after m)
  rows_new m lt = subst (SideBySide slots m []) (sym (row_same m lt)) (lawful.rows m (was_within m lt))

  -- first children begin the levels below
  firsts_new : (m p c : ℕ) → suc m < length after → BeginsWith (row after (suc m)) p → FirstChild slots p c → BeginsWith (row after m) c
  firsts_new m p c lt first under =
      subst (λ (ps : List ℕ). BeginsWith ps c) (sym (row_same m (lower m lt)))
      (lawful.firsts m p c (was_within (suc m) lt) (subst (λ (ps : List ℕ). BeginsWith ps p) (row_same (suc m) lt) first) under)

  -- children lead below
  terms_new : (m p : ℕ) (s : PageState) (k : KeyBytes) (c : ℕ) → suc m < length after → Contains (row after (suc m)) p → slot_at slots p ≡ Live s → Contains (children_of s.body) (k, c) → LeadsBelow slots (row after m) k c
  terms_new m p s k c lt has is named =
      subst (λ (ps : List ℕ). LeadsBelow slots ps k c) (sym (row_same m (lower m lt)))
      (lawful.terms m p s k c (was_within (suc m) lt) (subst (λ (ps : List ℕ). Contains ps p) (row_same (suc m) lt) has) is named)

  -- the levels are lawful under the child
  lawful_new : AreLevels slots child after
  lawful_new = record { some = omega (arith, one_less, two); top = top_new; rows = rows_new; firsts = firsts_new; terms = terms_new }

  -- an index entry was one
  term_was : (m : ℕ) (k : KeyBytes) (c : ℕ) → suc m < length after → IsTerm slots after m k c → IsTerm slots levels m k c
  term_was m k c lt t = record { page = t.page; in_level = subst (λ (ps : List ℕ). Contains ps t.page) (row_same (suc m) lt) t.in_level; state = t.state; is = t.is; named = t.named }

  -- each child begins where it began
  exact_new : AreExact slots levels → AreExact slots after
  unfolding term_was
  exact_new exact = record {
    begins = λ m k c s lt t is. exact.begins m k c s (was_within (suc m) lt) (term_was m k c lt t) is;
    began = λ m k c g lt t is. exact.began m k c g (was_within (suc m) lt) (term_was m k c lt t) is;
    behind = λ m k c g lt t is. exact.behind m k c g (was_within (suc m) lt) (term_was m k c lt t) is;
    once = λ m k h c lt one other. exact.once m k h c (was_within (suc m) lt) (term_was m k c lt one) (term_was m h c lt other);
  }

  -- without a right neighbour the root is alone on its level
  alone_in : (r : ℕ) (ps : List ℕ) → SideBySide slots n [] ps → BeginsWith ps root → Contains ps r → r ≡ root
  alone_in r [] h begins has = absurd h
  alone_in r (x ∷ []) h begins (zero, lt, is) = sym is ∙ begins
  alone_in r (x ∷ []) h begins (suc i, lt, is) = absurd (omega (arith, lt))
  alone_in r (x ∷ y ∷ ys) h begins has =
      absurd (no_side (sym given.alone ∙ ap (λ (s : PageState). s.side) (one_state (sym given.is ∙ ap (slot_at slots) (sym begins) ∙ h.1.is)) ∙ h.1.linked))

  -- so each other page of a level stays on one
  pub still_below : (r : ℕ) → (r ≡ root → ⊥) → IsInLevels levels r → IsInLevels after r
  still_below r other on = by (cases_lt on.level n)
    where
      by : (on.level < n) ⊎ (n ≤ on.level) → IsInLevels after r
      by (inl low) =
          let lt : on.level < length after = omega (arith, low, one_less) in
          record { level = on.level; within = lt; in_level = subst (λ (ps : List ℕ). Contains ps r) (sym (row_same on.level lt)) on.in_level }
      by (inr top) =
          let at : on.level ≡ n = omega (arith, top, on.within) in
          absurd (other (alone_in r (row levels n) (lawful.rows n (omega (arith, lawful.some))) lawful.top (subst (λ l. Contains (row levels l) r) at on.in_level)))

  -- the leaves are the same
  leaves_same : row after 0 ≡ row levels 0
  leaves_same = row_same 0 (omega (arith, one_less, two))

  -- so are the writes over them
  writes_new : row_writes slots (row after 0) ≡ row_writes slots (row levels 0)
  writes_new = ap (row_writes slots) leaves_same

  -- and the levels hold what they held
  contents_new : (stamp : ℕ) → contents_in slots after stamp ≡ contents_in slots levels stamp
  contents_new stamp = ap (λ (ps : List ℕ). contents_as_of (from_entries (row_pairs slots ps)) (row_writes slots ps) stamp) leaves_same

-- the root, which goes, is a removed page
module _ (old new : List Slot) (root : ℕ) (levels : List (List ℕ)) (child : ℕ) (lawful : AreLevels old root levels) (given : IsRootRemoved old new root child) where
  abbrev rest : List (List ℕ)
  rest = levels_lowered levels

  lawful_lower : AreLevels old child rest
  lawful_lower = lawful_new old root levels child lawful given.one

  -- it has no left link before
  no_left : left_of old root ≡ None
  no_left = ap left_of_slot given.one.is

  -- so a way from it ends there
  ends_there : (xs : List ℕ) (e : ℕ) → Leads (left_of old) root xs e → root ≡ e
  ends_there [] e way = way.0
  ends_there (x ∷ xs) e way = absurd (no_side (sym no_left ∙ way.1.1))

  -- and it stands above all levels
  off : IsInLevels rest root → ⊥
  off on =
      let high = top_level old root levels child lawful given.one in
      let own = own_level old child rest lawful_lower root on.level on.within on.in_level in
      omega (arith, on.within, one_less old root levels child lawful given.one, own, ap slot_level given.one.is, high.0)

  aside : IsAside old rest root
  aside = record {
    stands = off;
    named = λ m k lt term.
        let h = lawful_lower.terms m term.page term.state k root lt term.in_level term.is term.named in
        off (record { level = m; within = omega (arith, lt); in_level = subst (Contains (row rest m)) (sym (ends_there h.removed h.page h.way)) h.in_level });
  }

  -- so no way to a page of a level passes it
  ways : KeepsWays old new rest root
  ways c [] e other on way = (way.0, ap left_of_slot (given.others c other) ∙ way.1)
  ways c (x ∷ xs) e other on way =
      let next = way.1.0 in
      let passes : next ≡ root → ⊥ = λ same. off (subst (IsInLevels rest) (sym (ends_there xs e (subst (λ y. Leads (left_of old) y xs e) same way.1.2))) on) in
      (way.0, (next, ap left_of_slot (given.others c other) ∙ way.1.1, ways next xs e passes on way.1.2))

  off_new : (s : PageState) → slot_at new root ≡ Live s → ⊥
  off_new s is = not_gone (sym is ∙ given.gone)

  kept_below : KeepsAll old new child rest rest
  kept_below = kept_aside old new child rest root lawful_lower aside given.others ways off_new

  -- each page but the root, which is removed, stays on a level
  stand_lower : AllStand old levels → AllStand new rest
  stand_lower stand r s is = by (cases_eq r root)
    where
      by : (r ≡ root) ⊎ (r ≡ root → ⊥) → IsInLevels rest r
      by (inl here) = absurd (off_new s (ap (slot_at new) (sym here) ∙ is))
      by (inr other) = still_below old root levels child lawful given.one r other (stand r s (sym (given.others r other) ∙ is))

  pub lowered_aside : IsAside new rest root
  lowered_aside = still_aside old new child rest root lawful_lower aside given.others ways

  writes_lower : row_writes old (row rest 0) ≡ row_writes old (row levels 0)
  writes_lower = writes_new old root levels child lawful given.one

  pub kept_lower : KeepsAll old new child levels rest
  kept_lower = record {
    lawful = kept_below.lawful;
    exact = λ exact. kept_below.exact (exact_new old root levels child lawful given.one exact);
    stand = stand_lower;
    writes = kept_below.writes ∙ writes_lower;
    contents = λ distinct stamp.
        kept_below.contents (subst HasDistinctStamps (sym writes_lower) distinct) stamp ∙ contents_new old root levels child lawful given.one stamp;
  }

-- where the only child takes the root's place, the levels are lawful without the highest one
pub levels_lower : LevelsAreLowered
levels_lower old new root levels child lawful given =
    (kept_lower old new root levels child lawful given, lowered_aside old new root levels child lawful given)
