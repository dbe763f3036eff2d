-- What splitting the next page into halves keeps, and what is due in its place.
use Rattle.std.proofs.Common.{inl, inr, ◌⊎◌, ◌≡◌, ℕ, zero, suc, ◌+◌, ◌-◌, ◌<◌, ◌≤◌, ◌^◌, Bool, true, false, cond, nat_eq, List, [], ◌∷◌, ◌++◌, length, drop, Some, None, slice_index, refl, sym, ap, ◌∙◌, subst, arith, length-append, length-drop}
use Rattle.std.proofs.lemmas.Bool.{cases_eq}
use Rattle.std.proofs.lemmas.Bool.Decides.{nat_tests}
use Rattle.std.proofs.lemmas.List.{append-nil, drop-append-le, get_or-set_same, get_or-set_other, length-set}
use Rattle.std.proofs.lemmas.List.Elements.{Contains-append_cases, Contains-append_left}
use Rattle.std.specs.List.{Contains}
use Rattle.std.specs.Option.{option_map}
use Rattle.std.specs.Prelude.{slice_get}
use Rattle.bw_key.specs.Order.{KeyBytes}
use Rattle.bw_level.specs.Levels.{AreLevels, row}
use Rattle.bw_level.specs.Slots.{Slot, Body, Pairs, Children, Free, Gone, Live, body_is_leaf, children_of, is_leaf, slot_at}
use Rattle.bw_level.specs.Splits.{level_parted, put_behind, slot_child, slot_entries}
use Rattle.bw_look.specs.Routing.{IsInLevel}
use Rattle.bw_tree.specs.TreeSplits.{IsSplittable}
use Rattle.bw_look.specs.View.{TreeView}
use Rattle.bw_look.proofs.PageLemmas.{lowest_leaf}
use Rattle.bw_shape.specs.Tidying.{DueView}
use Rattle.bw_shape.specs.Visits.{HasPassed, IsBare, IsHalved, IsNextBefore, IsPart, StandBefore, half_of, work_left}
use Rattle.bw_steps.specs.Releasing.{taken_count}
use Rattle.bw_steps.proofs.TakenLemmas.{taken_more, taken_split}

-- the pages of a row stand in it still, and the new one does
still_there : (p q r : ℕ) (ps : List ℕ) → Contains ps r → Contains (put_behind p q ps) r
still_there p q r [] has = has
still_there p q r (x ∷ ps) (zero, lt, is) = (zero, omega arith, is)
still_there p q r (x ∷ ps) (suc i, lt, is) = by (nat_eq x p) (still_there p q r ps (i, omega arith, is))
  where
    by : (b : Bool) → Contains (put_behind p q ps) r → Contains (x ∷ cond b (q ∷ put_behind p q ps) (put_behind p q ps)) r
    by true h = (suc (suc h.0), omega (arith, h.1), h.2)
    by false h = (suc h.0, omega (arith, h.1), h.2)

new_there : (p q : ℕ) (ps : List ℕ) → Contains ps p → Contains (put_behind p q ps) q
new_there p q [] has = absurd (omega (arith, has.1))
new_there p q (x ∷ ps) (zero, lt, is) = subst (λ b. Contains (x ∷ cond b (q ∷ put_behind p q ps) (put_behind p q ps)) q) (sym same) (1, omega arith, refl)
  where
    same : nat_eq x p ≡ true
    same = grind (arith, nat_tests)
new_there p q (x ∷ ps) (suc i, lt, is) = by (nat_eq x p) (new_there p q ps (i, omega arith, is))
  where
    by : (b : Bool) → Contains (put_behind p q ps) q → Contains (x ∷ cond b (q ∷ put_behind p q ps) (put_behind p q ps)) q
    by true h = (suc (suc h.0), omega (arith, h.1), h.2)
    by false h = (suc h.0, omega (arith, h.1), h.2)

module _ (levels : List (List ℕ)) (level p q : ℕ) (within : level < length levels) (has : Contains (row levels level) p) where
  row_here : row (level_parted levels level p q) level ≡ put_behind p q (row levels level)
  row_here = get_or-set_same levels level (put_behind p q (row levels level)) [] within

  row_still : (n r : ℕ) → Contains (row levels n) r → Contains (row (level_parted levels level p q) n) r
  row_still n r there = by (cases_eq n level)
    where
      by : (n ≡ level) ⊎ (n ≡ level → ⊥) → Contains (row (level_parted levels level p q) n) r
      by (inl same) =
          subst (λ m. Contains (row (level_parted levels level p q) m) r) (sym same)
          (subst (λ (l : List ℕ). Contains l r) (sym row_here) (still_there p q r (row levels level) (subst (λ m. Contains (row levels m) r) same there)))
      by (inr other) = subst (λ (l : List ℕ). Contains l r) (sym (get_or-set_other levels level n (put_behind p q (row levels level)) [] other)) there

  row_new : Contains (row (level_parted levels level p q) level) q
  row_new = subst (λ (l : List ℕ). Contains l q) (sym row_here) (new_there p q (row levels level) has)

  size : length (level_parted levels level p q) ≡ length levels
  size = length-set levels level (put_behind p q (row levels level))

module _ (old new : TreeView) (due due' : DueView) (p keep : ℕ) (h : IsHalved old new due due' p keep) where
  abbrev right : ℕ
  right = h.split.right

  still_on : (q n : ℕ) → IsInLevel old q n → IsInLevel new q n
  still_on q n on =
      let able = h.able in
      let levels = h.split.split.levels able.level able.within able.in_level in
      subst (λ (l : List (List ℕ)). (n < length l) × Contains (row l n) q) (sym levels)
      (omega (arith, on.0, size old.levels able.level p right able.within able.in_level), row_still old.levels able.level p right able.within able.in_level n q on.1)

  right_on : (n : ℕ) → IsInLevel old p n → IsInLevel new right n
  right_on n on =
      let levels = h.split.split.levels n on.0 on.1 in
      subst (λ (l : List (List ℕ)). (n < length l) × Contains (row l n) right) (sym levels)
      (omega (arith, on.0, size old.levels n p right on.0 on.1), row_new old.levels n p right on.0 on.1)

  pub halved_less : work_left new due' + 2 ≤ work_left old due
  halved_less =
      omega (arith, h.few, taken_split old.slots new.slots p right keep h.split.split.parted, ap length h.split.was, ap length h.split.is, length-append h.split.rest (p ∷ []), length-append h.split.rest (right ∷ p ∷ []))

  both_on : (n : ℕ) → IsInLevel old p n → (q : ℕ) → Contains (right ∷ p ∷ []) q → IsInLevel new q n
  both_on n on q (zero, lt, is) = subst (λ r. IsInLevel new r n) is (right_on n on)
  both_on n on q (suc zero, lt, is) = subst (λ r. IsInLevel new r n) is (still_on p n on)
  both_on n on q (suc (suc i), lt, is) = absurd (omega (arith, lt))

-- a leaf with many pairs may be split, as it has no child
no_child : (slot : Slot) (place c : ℕ) → is_leaf slot ≡ true → slot_child place slot ≡ Some c → ⊥
no_child Free place c leaf e = none e
  where
    none : None ≡ Some c → ⊥
    none e = cc
no_child (Gone g) place c leaf e = none e
  where
    none : None ≡ Some c → ⊥
    none e = cc
no_child (Live s) place c leaf e = by s.body leaf e
  where
    none : None ≡ Some c → ⊥
    none e = cc

    inner : false ≡ true → ⊥
    inner e = cc

    by : (b : Body) → body_is_leaf b ≡ true → option_map (λ (x : KeyBytes × ℕ). x.1) (slice_get (children_of b) place) ≡ Some c → ⊥
    by (Pairs pairs writes) leaf e = none e
    by (Children level children) leaf e = inner leaf

some_level : (levels : List (List ℕ)) (r : ℕ) → Contains (row levels 0) r → 0 < length levels
some_level [] r has = absurd (omega (arith, has.1))
some_level (ps ∷ levels) r has = omega arith

pub leaf_parts : (tree : TreeView) (root : ℕ) → AreLevels tree.slots root tree.levels → (p keep : ℕ) → Contains (row tree.levels 0) p → slice_index tree.heads p < 2 ^ 32 → 0 < keep → keep < slot_entries (slot_at tree.slots p) → IsSplittable tree p keep
leaf_parts tree root lawful p keep leaf plain some fewer = record {
  level = 0;
  within = some_level tree.levels p leaf;
  in_level = leaf;
  plain = plain;
  some = some;
  fewer = fewer;
  live = λ c e. absurd (no_child (slot_at tree.slots p) keep c (lowest_leaf tree root lawful p (some_level tree.levels p leaf, leaf)) e);
}

-- a page that is within the limits
pub passed_on : (old : TreeView) (due due' : DueView) (p level : ℕ) → due.pages ≡ due'.pages ++ p ∷ [] → HasPassed old old due due' p level
passed_on old due due' p level was = record {
  rest = due'.pages;
  was = was;
  halves = [];
  is = sym (append-nil due'.pages);
  stand = λ q has. absurd (omega (arith, has.1));
  still = λ q n on. on;
  less = omega (arith, ap length was, length-append due'.pages (p ∷ []));
}

-- a page that was consolidated, and split if it had too many entries
pub passed_part : (old mid new : TreeView) (due due' : DueView) (p level : ℕ) (split : Bool) → IsInLevel old p level → IsBare old mid p → IsPart mid new due due' p split → HasPassed old new due due' p level
passed_part old mid new due due' p level true on bare h = record {
  rest = h.split.rest;
  was = h.split.was;
  halves = h.split.right ∷ p ∷ [];
  is = h.split.is;
  stand = both_on mid new due due' p (half_of mid p) h level (same p level on);
  still = λ q n there. still_on mid new due due' p (half_of mid p) h q n (same q n there);
  less = omega (arith, halved_less mid new due due' p (half_of mid p) h, taken_more old.slots mid.slots bare.same.taken);
}
  where
    same : (q n : ℕ) → IsInLevel old q n → IsInLevel mid q n
    same q n there = subst (λ (l : List (List ℕ)). (n < length l) × Contains (row l n) q) (sym bare.same.levels) there
passed_part old mid new due due' p level false on bare h = record {
  rest = due'.pages;
  was = h.1;
  halves = [];
  is = sym (append-nil due'.pages);
  stand = λ q has. absurd (omega (arith, has.1));
  still = λ q n there. subst (λ (l : List (List ℕ)). (n < length l) × Contains (row l n) q) (sym (ap (λ (v : TreeView). v.levels) h.0 ∙ bare.same.levels)) there;
  less = omega (arith, ap length h.1, length-append due'.pages (p ∷ []), ap (λ (v : TreeView). taken_count v.slots) h.0, taken_more old.slots mid.slots bare.same.taken);
}

-- what stands before others still does, with the halves
pub stand_on : (old new : TreeView) (due due' : DueView) (p level others : ℕ) → HasPassed old new due due' p level → others < length due.pages → StandBefore old level others due.pages → StandBefore new level others due'.pages
stand_on old new due due' p level others h lt stand q has = by (Contains-append_cases (drop others h.rest) h.halves q now)
  where
    before : others ≤ length h.rest
    before = omega (arith, lt, ap length h.was, length-append h.rest (p ∷ []))

    now : Contains (drop others h.rest ++ h.halves) q
    now = subst (λ (l : List ℕ). Contains l q) (ap (drop others) h.is ∙ drop-append-le others h.rest h.halves before) has

    was : drop others due.pages ≡ drop others h.rest ++ p ∷ []
    was = ap (drop others) h.was ∙ drop-append-le others h.rest (p ∷ []) before

    by : Contains (drop others h.rest) q ⊎ Contains h.halves q → IsInLevel new q level
    by (inl there) = h.still q level (stand q (subst (λ (l : List ℕ). Contains l q) (sym was) (Contains-append_left (drop others h.rest) (p ∷ []) q there)))
    by (inr half) = h.stand q half

-- at first the next page alone does
pub stand_first : (tree : TreeView) (due : List ℕ) (p level others : ℕ) (rest : List ℕ) → due ≡ rest ++ p ∷ [] → others ≡ length due - 1 → IsInLevel tree p level → StandBefore tree level others due
stand_first tree due p level others rest is at on q has = by (Contains-append_cases (drop others rest) (p ∷ []) q now)
  where
    count : others ≡ length rest
    count = omega (arith, at, ap length is, length-append rest (p ∷ []))

    now : Contains (drop others rest ++ p ∷ []) q
    now = subst (λ (l : List ℕ). Contains l q) (ap (drop others) is ∙ drop-append-le others rest (p ∷ []) (omega (arith, count))) has

    by : Contains (drop others rest) q ⊎ Contains (p ∷ []) q → IsInLevel tree q level
    by (inl there) = absurd (omega (arith, there.1, length-drop others rest, count))
    by (inr (zero, lt, same)) = subst (λ r. IsInLevel tree r level) same on
    by (inr (suc i, lt, same)) = absurd (omega (arith, lt))

-- the next page stands on the level
pub next_on : (tree : TreeView) (level others : ℕ) (due : List ℕ) (p : ℕ) → StandBefore tree level others due → IsNextBefore due others p → IsInLevel tree p level
next_on tree level others due p stand next = stand p (subst (λ (l : List ℕ). Contains l p) (sym was) (last (drop others next.0.0)))
  where
    before : others ≤ length next.0.0
    before = omega (arith, next.1, ap length next.0.1, length-append next.0.0 (p ∷ []))

    was : drop others due ≡ drop others next.0.0 ++ p ∷ []
    was = ap (drop others) next.0.1 ∙ drop-append-le others next.0.0 (p ∷ []) before

    last : (xs : List ℕ) → Contains (xs ++ p ∷ []) p
    last [] = (0, omega arith, refl)
    last (x ∷ xs) = let more = last xs in (suc more.0, omega (arith, more.1), more.2)
