-- What tidying keeps where pages are merged, lose an index entry, or the root goes.
use Rattle.std.proofs.Common.{inl, inr, ◌⊎◌, ◌≡◌, ℕ, zero, suc, ◌+◌, ◌-◌, ◌<◌, ◌≤◌, Bool, true, false, cond, nat_eq, List, [], ◌∷◌, ◌++◌, length, take, Option, None, refl, sym, ap, ◌∙◌, subst, arith, length-append}
use Rattle.std.proofs.lemmas.Bool.{cases_eq, cases_lt}
use Rattle.std.proofs.lemmas.List.{get_or-set_same, get_or-set_other, length-take}
use Rattle.std.proofs.lemmas.List.Elements.{Contains-push_cases}
use Rattle.std.specs.List.{Contains}
use Rattle.bw_key.specs.Order.{KeyBytes}
use Rattle.bw_level.specs.Children.{body_without_child}
use Rattle.bw_level.specs.Levels.{AreLevels, row}
use Rattle.bw_level.specs.Merges.{bodies_joined, level_merged, without_page}
use Rattle.bw_level.specs.Reading.{body_pairs, body_writes, pairs_under, writes_over}
use Rattle.bw_level.specs.Searches.{IsInLevels}
use Rattle.bw_level.specs.Slots.{Slot, Body, Pairs, Children, Free, Gone, Live, is_leaf, slot_at, slot_level}
use Rattle.bw_level.specs.Splits.{slot_entries}
use Rattle.bw_level.proofs.AboveLemmas.{own_level}
use Rattle.bw_tree.specs.Consolidation.{IsConsolidated, IsRebased}
use Rattle.bw_tree.specs.TreeFreeing.{IsTrimmed}
use Rattle.bw_tree.specs.TreeMerges.{HasLostChild, HasMerged, IsLowered, MayMerge}
use Rattle.bw_look.specs.PageStates.{IsLeft, leaf_as_of}
use Rattle.bw_look.specs.Routing.{IsInLevel}
use Rattle.bw_look.specs.Shapes.{pairs_on}
use Rattle.bw_look.specs.View.{TreeView}
use Rattle.bw_look.proofs.NeighbourLemmas.{one_left}
use Rattle.bw_look.proofs.PageLemmas.{lowest_leaf}
use Rattle.bw_shape.specs.Limits.{LimitsView, AreWithinBut, IsWithin}
use Rattle.bw_steps.specs.MergeSteps.{IsAbsorptionFinishStep, IsAbsorptionStep, IsLoweringStep}
use Rattle.bw_steps.specs.Releasing.{AreFreed}
use Rattle.bw_steps.specs.Steps.{IsConsolidationStep}
use Rattle.bw_shape.specs.Tidying.{HoldsAll, KeepsWithin}
use Rattle.bw_shape.specs.Visits.{AreFewTogether, FitsLeft, HasRoomOn, KeepsWithinAt}
use Rattle.bw_steps.specs.declared.steps.Did.{Did}
use Rattle.bw_steps.specs.declared.steps.Did.TheVariants.{Done, NotNeeded}
use Rattle.bw_shape.proofs.KeptLeaves.{lowered_leaves, same_leaves, same_page, same_row}
use Rattle.bw_shape.proofs.TidyLemmas.{KeepsTidy, few_pairs, held_at, holds_on, tidy_freed, tidy_still}

-- a page above the leaves is no leaf
pub no_leaf : (tree : TreeView) (root : ℕ) → AreLevels tree.slots root tree.levels → (p n : ℕ) → IsInLevel tree p n → 0 < n → Contains (row tree.levels 0) p → ⊥
no_leaf tree root lawful p n on raised leaf =
    omega (arith, raised, sym (own_level tree.slots root tree.levels lawful p n on.0 on.1) ∙ own_level tree.slots root tree.levels lawful p 0 lawful.some leaf)

-- pages that stand in a row without one of them stood there before
had_before : (q r : ℕ) (ps : List ℕ) → Contains (without_page q ps) r → Contains ps r
had_before q r [] has = has
had_before q r (x ∷ ps) has = by (nat_eq x q) has (had_before q r ps)
  where
    behind : Contains ps r → Contains (x ∷ ps) r
    behind h = (suc h.0, omega (arith, h.1), h.2)

    by : (b : Bool) → Contains (cond b (without_page q ps) (x ∷ without_page q ps)) r → (Contains (without_page q ps) r → Contains ps r) → Contains (x ∷ ps) r
    by true h rest = behind (rest h)
    by false (zero, lt, is) rest = (zero, omega arith, is)
    by false (suc i, lt, is) rest = behind (rest (i, omega (arith, lt), is))

was_leaf : (levels : List (List ℕ)) (level q r : ℕ) → level < length levels → Contains (row (level_merged levels level q) 0) r → Contains (row levels 0) r
was_leaf levels level q r within has = by (cases_eq 0 level)
  where
    by : (0 ≡ level) ⊎ (0 ≡ level → ⊥) → Contains (row levels 0) r
    by (inl lowest) =
        subst (λ n. Contains (row levels n) r) (sym lowest)
        (had_before q r (row levels level)
        (subst (λ (l : List ℕ). Contains l r) (get_or-set_same levels level (without_page q (row levels level)) [] within)
        (subst (λ n. Contains (row (level_merged levels level q) n) r) lowest has)))
    by (inr raised) = subst (λ (l : List ℕ). Contains l r) (get_or-set_other levels level 0 (without_page q (row levels level)) [] raised) has

-- two pages as one have the writes of the first one, and no more pairs than both
joined_within : (limits : LimitsView) (b c : Body) → body_writes b ≡ [] → length (body_pairs b) + length (body_pairs c) ≤ limits.page_max →
    (length (body_writes (bodies_joined b c)) ≤ limits.chain_max) × (length (body_pairs (bodies_joined b c)) ≤ limits.page_max)
joined_within limits (Pairs pairs writes) (Pairs more others) bare few = (omega (arith, ap length bare), omega (arith, few, length-append pairs more))
joined_within limits (Pairs pairs writes) (Children level children) bare few = (omega (arith, ap length bare), omega (arith, few))
joined_within limits (Children level children) (Pairs pairs writes) bare few = (omega arith, omega arith)
joined_within limits (Children level children) (Children other more) bare few = (omega arith, omega arith)

-- the next page was absorbed by its left neighbour
module _ (old new : TreeView) (page q : ℕ) (m : MayMerge old q page) (h : HasMerged old new q page) where
  pub holds_merged : HoldsAll old new
  holds_merged = record { contents = held_at old new h.next h.contents; next = h.next; records = omega (arith, h.records); leaves = λ same. absurd (omega (arith, same, h.records)); staged = h.staged }

  module _ (limits : LimitsView) (few : AreFewTogether limits old page q) where
    few_here : length (body_pairs h.merged.left.body) + length (body_pairs h.merged.right.body) ≤ limits.page_max
    few_here =
        omega (
          arith,
          few,
          few_pairs (slot_at old.slots q),
          few_pairs (slot_at old.slots page),
          ap (λ (s : Slot). length (pairs_under s)) h.merged.left_is,
          ap (λ (s : Slot). length (pairs_under s)) h.merged.right_is,
        )

    left_within : IsWithin limits (slot_at new.slots q)
    left_within = subst (IsWithin limits) (sym h.merged.joined) (joined_within limits h.merged.left.body h.merged.right.body h.merged.bare few_here)

    gone_within : IsWithin limits (slot_at new.slots page)
    gone_within = subst (IsWithin limits) (sym h.merged.gone) (omega arith, omega arith)

    pub within_merged : (due due' : List ℕ) → due ≡ due' ++ page ∷ [] → AreWithinBut limits old due → AreWithinBut limits new due'
    within_merged due due' is but r leaf = by (cases_eq r page) (cases_eq r q)
      where
        before : Contains (row old.levels 0) r
        before =
            was_leaf old.levels m.level page r m.within (subst (λ (l : List (List ℕ)). Contains (row l 0) r) (h.levels m.level m.within m.in_level) leaf)

        or_it : (r ≡ page → ⊥) → Contains due' r ⊎ (page ≡ r) → Contains due' r
        or_it other (inl has) = has
        or_it other (inr same) = absurd (other (sym same))

        or_as : (r ≡ page → ⊥) → (r ≡ q → ⊥) → Contains due r ⊎ IsWithin limits (slot_at old.slots r) → Contains due' r ⊎ IsWithin limits (slot_at new.slots r)
        or_as other other' (inl has) = inl (or_it other (Contains-push_cases due' page r (subst (λ (l : List ℕ). Contains l r) is has)))
        or_as other other' (inr within) = inr (subst (IsWithin limits) (sym (h.merged.others r other' other)) within)

        by : (r ≡ page) ⊎ (r ≡ page → ⊥) → (r ≡ q) ⊎ (r ≡ q → ⊥) → Contains due' r ⊎ IsWithin limits (slot_at new.slots r)
        by (inl same) its = inr (subst (λ x. IsWithin limits (slot_at new.slots x)) (sym same) gone_within)
        by (inr other) (inl same) = inr (subst (λ x. IsWithin limits (slot_at new.slots x)) (sym same) left_within)
        by (inr other) (inr other') = or_as other other' (but r before)

-- an inner page names a page less
child_without : (limits : LimitsView) (sep : KeyBytes) (b : Body) → (length (body_writes b) ≤ limits.chain_max) × (length (body_pairs b) ≤ limits.page_max) →
    (length (body_writes (body_without_child sep b)) ≤ limits.chain_max) × (length (body_pairs (body_without_child sep b)) ≤ limits.page_max)
child_without limits sep (Pairs pairs writes) within = within
child_without limits sep (Children level children) within = within

within_dropped : (old new : TreeView) (due : List ℕ) (parent : ℕ) (sep : KeyBytes) → HasLostChild old new parent sep → KeepsWithin old new due due
within_dropped old new due parent sep h limits but r leaf = by (cases_eq r parent) (but r (subst (λ (l : List (List ℕ)). Contains (row l 0) r) h.levels leaf))
  where
    by : (r ≡ parent) ⊎ (r ≡ parent → ⊥) → Contains due r ⊎ IsWithin limits (slot_at old.slots r) → Contains due r ⊎ IsWithin limits (slot_at new.slots r)
    by which (inl has) = inl has
    by (inr other) (inr within) = inr (subst (IsWithin limits) (sym (h.dropped.others r other)) within)
    by (inl same) (inr within) =
        inr (subst (IsWithin limits) (sym (ap (slot_at new.slots) same ∙ h.dropped.now))
        (child_without limits sep h.dropped.was.body (subst (IsWithin limits) (ap (slot_at old.slots) same ∙ h.dropped.is) within)))

pub tidy_dropped : (old new : TreeView) (p : ℕ) (did : Did) → old.staged ≡ None → IsAbsorptionFinishStep old new p did → KeepsTidy old new
tidy_dropped old new p Done none h =
    let lost = h.1.lost in
    record {
      holds = record {
        contents = held_at old new lost.next lost.contents;
        next = lost.next;
        records = omega (arith, lost.records);
        leaves = λ same. absurd (omega (arith, same, lost.records));
        staged = lost.staged;
      };
      within = λ due. within_dropped old new due h.0 h.1.was.removed.low lost;
    }
tidy_dropped old new p NotNeeded none h = tidy_still old new none h.0

-- there is a level on which a page stands
some_level : (levels : List (List ℕ)) (r : ℕ) → Contains (row levels 0) r → 0 < length levels
some_level [] r has = absurd (omega (arith, has.1))
some_level (ps ∷ levels) r has = omega arith

-- identifiers that are forgotten are of no leaf
pub tidy_trimmed : (old new : TreeView) → IsTrimmed old new → KeepsTidy old new
tidy_trimmed old new trimmed = record {
  holds = record {
    contents = held_at old new trimmed.next trimmed.contents;
    next = trimmed.next;
    records = omega (arith, trimmed.records);
    leaves = λ same. same_leaves old new (same_row old new trimmed.levels) (λ p has. same_page (slot_at old.slots p) (slot_at new.slots p) (trimmed.pages p));
    staged = trimmed.staged;
  };
  within = λ due limits but r leaf.
      subst (λ (s : Slot). Contains due r ⊎ IsWithin limits s) (sym (trimmed.pages r))
      (but r (subst (λ (l : List (List ℕ)). Contains (row l 0) r) trimmed.levels leaf));
}

-- the root's only child is the root
row_lowered : (levels : List (List ℕ)) (n r : ℕ) → Contains (row (take n levels) 0) r → Contains (row levels 0) r
row_lowered levels zero r has = absurd (omega (arith, has.1))
row_lowered [] (suc n) r has = has
row_lowered (ps ∷ levels) (suc n) r has = has

-- the old root is no leaf, and all others are as before
within_lowered : (old new : TreeView) (due : List ℕ) (child : ℕ) → IsLowered old new child → KeepsWithin old new due due
within_lowered old new due child h limits but r leaf = by (but r (row_lowered old.levels (length old.levels - 1) r (subst (λ (l : List (List ℕ)). Contains (row l 0) r) h.levels leaf)))
  where
    other : r ≡ old.root → ⊥
    other same = h.aside.stands (record { level = 0; within = some_level new.levels r leaf; in_level = subst (Contains (row new.levels 0)) same leaf })

    by : Contains due r ⊎ IsWithin limits (slot_at old.slots r) → Contains due r ⊎ IsWithin limits (slot_at new.slots r)
    by (inl has) = inl has
    by (inr within) = inr (subst (IsWithin limits) (sym (h.removed.others r other)) within)

pub tidy_lowered : (old new : TreeView) (did : Did) → AreLevels old.slots old.root old.levels → old.staged ≡ None → IsLoweringStep old new did → KeepsTidy old new
tidy_lowered old new Done lawful none h =
    let low = h.1 in
    record {
      holds = record {
        contents = held_at old new low.next low.contents;
        next = low.next;
        records = omega (arith, low.records);
        leaves = λ same. lowered_leaves old new old.root lawful refl h.0 low;
        staged = low.staged;
      };
      within = λ due. within_lowered old new due h.0 low;
    }
tidy_lowered old new NotNeeded lawful none h = tidy_still old new none h.0

-- by one level
pub fewer_levels : (old new : TreeView) (child : ℕ) → 0 < length old.levels → IsLowered old new child → length new.levels < length old.levels
fewer_levels old new child some h = omega (arith, some, ap length h.levels, length-take (length old.levels - 1) old.levels)

-- a leaf that was consolidated and has room for what it holds is within the limits
leaf_within : (limits : LimitsView) (old new : TreeView) (p : ℕ) → is_leaf (slot_at old.slots p) ≡ true → HasRoomOn limits old p → IsConsolidated old new p → IsWithin limits (slot_at new.slots p)
leaf_within limits old new p leaf room k =
    let few = subst (λ b. cond b (length (leaf_as_of old p old.next).pairs) (slot_entries (slot_at old.slots p)) ≤ limits.page_max) leaf room in
    subst (IsWithin limits) (sym k.page) (omega arith, omega (arith, few))

consolidated_within : (limits : LimitsView) (old new : TreeView) (p : ℕ) → is_leaf (slot_at old.slots p) ≡ true → HasRoomOn limits old p → IsConsolidated old new p → KeepsWithinAt limits old new
consolidated_within limits old new p leaf room k due but r has = by (cases_eq r p)
  where
    or_as : (r ≡ p → ⊥) → Contains due r ⊎ IsWithin limits (slot_at old.slots r) → Contains due r ⊎ IsWithin limits (slot_at new.slots r)
    or_as other (inl due_still) = inl due_still
    or_as other (inr within) = inr (subst (IsWithin limits) (sym (k.others r other)) within)

    by : (r ≡ p) ⊎ (r ≡ p → ⊥) → Contains due r ⊎ IsWithin limits (slot_at new.slots r)
    by (inl same) = inr (subst (λ x. IsWithin limits (slot_at new.slots x)) (sym same) (leaf_within limits old new p leaf room k))
    by (inr other) = or_as other (but r (subst (λ (l : List (List ℕ)). Contains (row l 0) r) k.levels has))

rebased_within : (limits : LimitsView) (old new : TreeView) (p : ℕ) → IsRebased old new p → KeepsWithinAt limits old new
rebased_within limits old new p k = subst (KeepsWithinAt limits old) (sym k.view) (λ due but. but)

-- so is the left neighbour of a page that is to be merged into it
pub step_within : (limits : LimitsView) (old new : TreeView) (root p : ℕ) (did : Did) → AreLevels old.slots root old.levels → HasRoomOn limits old p → IsConsolidationStep old new p did → KeepsWithinAt limits old new
step_within limits old new root p Done lawful room lost = by (cases_lt 0 lost.level)
  where
    by : (0 < lost.level) ⊎ (lost.level ≤ 0) → KeepsWithinAt limits old new
    by (inl raised) = rebased_within limits old new p (lost.inner raised)
    by (inr lowest) =
        consolidated_within limits old new p (lowest_leaf old root lawful p (subst (IsInLevel old p) at lost.in_level)) room (lost.leaf at)
      where
        at : lost.level ≡ 0
        at = omega (arith, lowest)
step_within limits old new root p NotNeeded lawful room still = subst (KeepsWithinAt limits old) (sym still.0) (λ due but. but)

-- an inner page has its children
raised_entries : (tree : TreeView) (slot : Slot) → 0 < slot_level slot → pairs_on tree slot ≡ slot_entries slot
raised_entries tree (Live s) raised = by s.low s.high s.side s.body raised
  where
    by : (low : KeyBytes) (high : Option KeyBytes) (side : Option ℕ) (b : Body) → 0 < slot_level (Live (record { low = low; high = high; side = side; body = b })) → pairs_on tree (Live (record { low = low; high = high; side = side; body = b })) ≡ slot_entries (Live (record { low = low; high = high; side = side; body = b }))
    by low high side (Pairs pairs writes) raised = absurd (omega (arith, raised))
    by low high side (Children level children) raised = refl
raised_entries tree (Gone l) raised = refl
raised_entries tree Free raised = refl

-- a page has no more entries than those under its writes and the writes together
pub few_on : (tree : TreeView) (root p : ℕ) → AreLevels tree.slots root tree.levels → ((q : ℕ) → Contains (row tree.levels 0) q → pairs_on tree (slot_at tree.slots q) ≤ length (pairs_under (slot_at tree.slots q)) + length (writes_over (slot_at tree.slots q))) → IsInLevels tree.levels p →
    pairs_on tree (slot_at tree.slots p) ≤ slot_entries (slot_at tree.slots p) + length (writes_over (slot_at tree.slots p))
few_on tree root p lawful few on = by (cases_eq on.level 0)
  where
    by : (on.level ≡ 0) ⊎ (on.level ≡ 0 → ⊥) → pairs_on tree (slot_at tree.slots p) ≤ slot_entries (slot_at tree.slots p) + length (writes_over (slot_at tree.slots p))
    by (inl lowest) = omega (arith, few p (subst (λ n. Contains (row tree.levels n) p) lowest on.in_level), few_pairs (slot_at tree.slots p))
    by (inr raised) =
        let own = own_level tree.slots root tree.levels lawful p on.level on.within on.in_level in
        omega (arith, raised_entries tree (slot_at tree.slots p) (omega (arith, own, raised)))

-- a page has one left neighbour
pub few_together : (limits : LimitsView) (tree : TreeView) (root p q r : ℕ) → AreLevels tree.slots root tree.levels → IsLeft tree p q → AreFewTogether limits tree p q → IsLeft tree p r → AreFewTogether limits tree p r
few_together limits tree root p q r lawful left few other = subst (AreFewTogether limits tree p) (one_left tree root lawful p q r left other) few

-- the next page was absorbed, where it has few pairs together with any left neighbour
pub absorbed_within : (limits : LimitsView) (old new : TreeView) (page : ℕ) (did : Did) (due due' : List ℕ) → did ≡ Done → IsAbsorptionStep old new page did → FitsLeft limits old page → due ≡ due' ++ page ∷ [] → AreWithinBut limits old due → AreWithinBut limits new due'
absorbed_within limits old new page did due due' done step few is but =
    let h : IsAbsorptionStep old new page Done = subst (IsAbsorptionStep old new page) done step in
    within_merged old new page h.0 h.1.0 h.1.1 limits (few h.0 (record { level = h.1.0.level; within = h.1.0.within; in_level = h.1.0.in_level }, h.1.0.linked)) due due' is but

pub tidy_on : (first old new : TreeView) → KeepsTidy first old → KeepsTidy old new → KeepsTidy first new
tidy_on first old new a b = record { holds = holds_on first old new a.holds b.holds; within = λ due limits but. b.within due limits (a.within due limits but) }

-- what stays where the root goes, and then identifiers are given back
pub tidy_lowered_freed : (old mid new : TreeView) (did : Did) → AreLevels old.slots old.root old.levels → old.staged ≡ None → IsLoweringStep old mid did → AreFreed mid new → KeepsTidy old new
tidy_lowered_freed old mid new did lawful none lowered freed = tidy_on old mid new (tidy_lowered old mid did lawful none lowered) (tidy_freed mid new freed)
