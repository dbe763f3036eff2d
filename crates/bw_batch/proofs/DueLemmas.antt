-- The leaves that a batch has written are due: all others are as they were.
use Rattle.std.proofs.Common.{inl, inr, ◌⊎◌, ◌≡◌, ℕ, zero, suc, ◌<◌, ◌≤◌, Bool, true, false, cond, List, [], ◌∷◌, ◌++◌, length, set, Option, Some, None, Result, Ok, Err, OnOk, OnErr, refl, sym, ap, ◌∙◌, subst, arith}
use Rattle.std.specs.Prelude.{filter, slice_get}
use Rattle.std.proofs.lemmas.Bool.{cases_eq, cases_lt}
use Rattle.std.proofs.lemmas.List.Elements.{Contains-append_cases, Contains-append_left, Contains-append_right}
use Rattle.std.proofs.lemmas.List.Sorted.{length_permutation}
use Rattle.std.specs.List.{AllByRecursion, Contains}
use Rattle.bw_core.specs.World.{times}
use Rattle.bw_core.proofs.Lists.{one_other}
use Rattle.bw_key.specs.Order.{KeyBytes}
use Rattle.bw_model.specs.Values.{ValueBytes}
use Rattle.bw_page.specs.Leaves.{LeafView}
use Rattle.bw_page.proofs.Truths.{true_holds, left_of, right_of}
use Rattle.bw_delta.specs.Writes.{WriteView}
use Rattle.bw_level.specs.Levels.{IsHome, row}
use Rattle.bw_level.specs.Reading.{pairs_under, writes_over}
use Rattle.bw_level.specs.Slots.{Slot, Body, Pairs, Children, Free, Gone, Live, slot_at, has_key}
use Rattle.bw_level.specs.Turns.{slot_without_writes}
use Rattle.bw_model.specs.declared.operations.Op.{Op}
use Rattle.bw_tree.specs.Stages.{LeavesHaveAll, IsStagedFor, accepted_tree}
use Rattle.bw_look.specs.View.{StageView, TreeView, staged_writes}
use Rattle.bw_tree.specs.PageWords.{IsPostedStageOn}
use Rattle.bw_tree.specs.Beside.{folded_tree, with_own_words}
use Rattle.bw_tree.specs.Making.{leaf_slot}
use Rattle.bw_look.specs.Folding.{put_each}
use Rattle.bw_look.specs.declared.folded.Folded.{Folded}
use Rattle.bw_post.specs.Posting.{IsPostedBeside}
use Rattle.bw_batch.proofs.KeptHomes.{put_at}
use Rattle.bw_shape.specs.Limits.{LimitsView, AreWithinBut, IsWithin}
use Rattle.bw_shape.specs.Tidying.{DueView, HasBoth, KeepsWithin}
use Rattle.bw_tidy.specs.Findings.{AreFindings, AreLeft, FitsAt, IsFinding, IsLeafAt}
use Rattle.bw_tidy.specs.declared.findings.Finding.{Finding}
use Rattle.bw_tidy.specs.declared.leaf_findings.Findings.{Findings}

-- the pairs under the writes stay where pages differ in writes alone
bare_pairs : (page : Slot) → pairs_under (slot_without_writes page) ≡ pairs_under page
bare_pairs (Live s) = by s.body
  where
    by : (b : Body) → pairs_under (slot_without_writes (Live (record s { body = b }))) ≡ pairs_under (Live (record s { body = b }))
    by (Pairs pairs writes) = refl
    by (Children level children) = refl
bare_pairs (Gone l) = refl
bare_pairs Free = refl

-- what is listed is there
listed : (rs : List ℕ) (r : ℕ) → 0 < times r rs → Contains rs r
listed [] r some = absurd (omega (arith, some))
listed (q ∷ rs) r some = by (cases_eq q r) (listed rs r)
  where
    behind : Contains rs r → Contains (q ∷ rs) r
    behind has = (suc has.0, omega (arith, has.1), has.2)

    by : (q ≡ r) ⊎ (q ≡ r → ⊥) → (0 < times r rs → Contains rs r) → Contains (q ∷ rs) r
    by (inl same) rest = (0, omega arith, same)
    by (inr other) rest = behind (rest (omega (arith, some, one_other q r other)))

-- where no write passes a test, none is left
none_left : (f : WriteView → Bool) (ws : List WriteView) → ((r : ℕ) (w : WriteView) → slice_get ws r ≡ Some w → f w ≡ true → ⊥) → filter f ws ≡ []
none_left f [] none = refl
none_left f (w ∷ ws) none = by (f w) (none 0 w refl) (none_left f ws (λ r v at. none (suc r) v at))
  where
    by : (b : Bool) → (b ≡ true → ⊥) → filter f ws ≡ [] → cond b (w ∷ filter f ws) (filter f ws) ≡ []
    by true not rest = absurd (not refl)
    by false not rest = rest

some_levels : (levels : List (List ℕ)) (p : ℕ) → Contains (row levels 0) p → 0 < length levels
some_levels [] p has = absurd (omega (arith, has.1))
some_levels (ps ∷ levels) p has = omega arith

-- a key of a leaf's range is at home there
own_home : (tree : TreeView) (p : ℕ) (key : KeyBytes) → Contains (row tree.levels 0) p → has_key (slot_at tree.slots p) key ≡ true → IsHome tree.slots tree.levels key p
own_home tree p key leaf inside = by (slot_at tree.slots p) refl inside
  where
    by : (s : Slot) → slot_at tree.slots p ≡ s → has_key s key ≡ true → IsHome tree.slots tree.levels key p
    by (Live s) is inside = record {
      reached = record { within = some_levels tree.levels p leaf; in_level = leaf; state = s; is = is; from_low = left_of _ _ (true_holds _ inside) };
      ends_above = right_of _ _ (true_holds _ inside);
    }
    by (Gone l) is inside = absurd (cc)
    by Free is inside = absurd (cc)

module _ (tree after : TreeView) (pages heads links due due' : List ℕ) (both : HasBoth pages due due') (leaves : List Folded) (posted : IsPostedBeside tree leaves pages heads links) (levels : after.levels ≡ tree.levels)
    (bare : (p : ℕ) → slot_without_writes (slot_at after.slots p) ≡ slot_without_writes (slot_at (folded_tree tree leaves).slots p)) (writes : LeavesHaveAll (folded_tree tree leaves) after) where
  -- a page that was written to is one of those
  was_posted : (o : Option StageView) → IsPostedStageOn (with_own_words tree leaves) o pages heads links → (r p : ℕ) (w : WriteView) → slice_get (staged_writes o) r ≡ Some w → IsHome tree.slots tree.levels w.key p → 0 < times p pages
  was_posted None none r p w at home = absurd none
  was_posted (Some stage) so r p w at home = so.1.homes r p w at home

  -- no leaf took the place of another page's chain
  same_slot : (p : ℕ) → times p pages ≡ 0 → slot_at (folded_tree tree leaves).slots p ≡ slot_at tree.slots p
  same_slot p none = by leaves posted.listed tree.slots
    where
      by : (fs : List Folded) → AllByRecursion (λ f. 0 < times f.page pages) fs → (slots : List Slot) → slot_at (put_each (λ f. leaf_slot f.leaf) slots fs) p ≡ slot_at slots p
      by [] listed slots = refl
      by (f ∷ fs) listed slots =
          by fs listed.1 (set slots f.page (leaf_slot f.leaf)) ∙ elim (put_at slots f.page p (leaf_slot f.leaf)) [
            | inl here ↦ absurd (omega (arith, none, subst (λ (q : ℕ). 0 < times q pages) (sym here.0) listed.0))
            | inr there ↦ there
          ]

  same_writes : (p : ℕ) → Contains (row tree.levels 0) p → times p pages ≡ 0 → length (writes_over (slot_at after.slots p)) ≡ length (writes_over (slot_at tree.slots p))
  same_writes p leaf none =
      length_permutation _ _ (writes p leaf)
      ∙ ap (λ (s : Slot). length (filter (λ (w : WriteView). has_key s w.key) (staged_writes tree.staged) ++ writes_over s)) (same_slot p none)
      ∙ ap (λ (l : List WriteView). length (l ++ writes_over (slot_at tree.slots p)))
      (none_left (λ (w : WriteView). has_key (slot_at tree.slots p) w.key) (staged_writes tree.staged)
      (λ r w at inside. omega (arith, none, was_posted tree.staged posted.posted r p w at (own_home tree p w.key leaf inside))))

  same_pairs : (p : ℕ) → times p pages ≡ 0 → length (pairs_under (slot_at after.slots p)) ≡ length (pairs_under (slot_at tree.slots p))
  same_pairs p none =
      ap length (sym (bare_pairs (slot_at after.slots p)) ∙ ap pairs_under (bare p ∙ ap slot_without_writes (same_slot p none)) ∙ bare_pairs (slot_at tree.slots p))

  -- the pages that were written to are due, besides those that were
  pub within_posted : KeepsWithin tree after due due'
  within_posted limits but p leaf = by (cases_lt 0 (times p pages)) (but p was_leaf)
    where
      was_leaf : Contains (row tree.levels 0) p
      was_leaf = subst (λ (l : List (List ℕ)). Contains (row l 0) p) levels leaf

      by : (0 < times p pages) ⊎ (times p pages ≤ 0) → Contains due p ⊎ IsWithin limits (slot_at tree.slots p) → Contains due' p ⊎ IsWithin limits (slot_at after.slots p)
      by (inl some) was = inl (both.left p (listed pages p some))
      by (inr none) (inl has) = inl (both.right p has)
      by (inr none) (inr within) = inr (omega (arith, within.0, same_writes p was_leaf (omega (arith, none))), omega (arith, within.1, same_pairs p (omega (arith, none))))

-- of some pages those are left at which there may be something to do
pub within_left : (limits : LimitsView) (after : TreeView) (findings : Findings) (stamp : ℕ) (pages left due due' : List ℕ) → AreFindings after stamp findings → findings.limits ≡ limits → AreLeft pages findings.fitting.items left →
    HasBoth left due due' → AreWithinBut limits after (pages ++ due) → AreWithinBut limits after due'
within_left limits after findings stamp pages left due due' are same lefts both but p leaf = by (but p leaf)
  where
    fits : Contains findings.fitting.items p → IsWithin limits (slot_at after.slots p)
    fits has = subst (λ l. IsWithin l (slot_at after.slots p)) same (each_fits findings.fitting.items p are.fitting has leaf)
      where
        each_fits : (ps : List ℕ) (q : ℕ) → AllByRecursion (λ r. FitsAt after findings.limits r None) ps → Contains ps q → FitsAt after findings.limits q None
        each_fits [] q all at = absurd (omega (arith, at.1))
        each_fits (r ∷ rs) q all (zero, lt, here) = subst (λ n. FitsAt after findings.limits n None) here all.0
        each_fits (r ∷ rs) q all (suc n, lt, there) = each_fits rs q all.1 (n, omega (arith, lt), there)

    by : Contains (pages ++ due) p ⊎ IsWithin limits (slot_at after.slots p) → Contains due' p ⊎ IsWithin limits (slot_at after.slots p)
    by (inr within) = inr within
    by (inl has) = elim (Contains-append_cases pages due p has) [
      | inr was ↦ inl (both.right p was)
      | inl of ↦ elim (lefts p of) [
        | inl there ↦ inl (both.left p there)
        | inr told ↦ inr (fits told)
      ]
    ]

pub has_both : (pages due : List ℕ) → HasBoth pages due (pages ++ due)
has_both pages due = record { left = Contains-append_left pages due; right = Contains-append_right pages due; only = Contains-append_cases pages due }

-- and so behind the batch: to stage it and to accept it moves no page
pub within_batch : (limits : LimitsView) (before tree now after : TreeView) (ops : List Op) (due due' : List ℕ) → IsStagedFor before tree ops → after ≡ accepted_tree now now.staged →
    (AreWithinBut limits tree due → AreWithinBut limits now due') → AreWithinBut limits before due → AreWithinBut limits after due'
within_batch limits before tree now after ops due due' staged accepted kept but =
    accepted_within (kept (subst (λ (t : TreeView). AreWithinBut limits t due) (sym staged.is) but))
  where
    accepted_within : AreWithinBut limits now due' → AreWithinBut limits after due'
    accepted_within but = subst (λ (t : TreeView). AreWithinBut limits t due') (sym accepted) (by now.staged)
      where
        by : (o : Option StageView) → AreWithinBut limits (accepted_tree now o) due'
        by None = but
        by (Some stage) = but

-- and what was found of the leaves is so still
module _ (now : TreeView) (stage : StageView) (stamp : ℕ) where
  abbrev accepted : TreeView
  accepted = accepted_tree now (Some stage)

  leaf_accepted : (p : ℕ) (o : Option (LeafView ValueBytes)) → IsLeafAt now stamp p o → IsLeafAt accepted stamp p o
  leaf_accepted p None at = at
  leaf_accepted p (Some leaf) at = at

  fits_accepted : (limits : LimitsView) (p : ℕ) (o : Option (LeafView ValueBytes)) → FitsAt now limits p o → FitsAt accepted limits p o
  fits_accepted limits p None fits = fits
  fits_accepted limits p (Some leaf) fits = fits

  all_accepted : (limits : LimitsView) (findings : List Finding) → AllByRecursion (IsFinding now limits stamp) findings → AllByRecursion (IsFinding accepted limits stamp) findings
  all_accepted limits [] all = tt
  all_accepted limits (finding ∷ findings) all = (
    record {
      leaf = leaf_accepted finding.page finding.leaf all.0.leaf;
      fits = λ off. fits_accepted limits finding.page finding.leaf (all.0.fits off);
      lowest = all.0.lowest;
    },
    all_accepted limits findings all.1,
  )

pub findings_accepted : (now after : TreeView) (stamp : ℕ) (findings : Findings) → after ≡ accepted_tree now now.staged → AreFindings now stamp findings → AreFindings after stamp findings
findings_accepted now after stamp findings accepted are = subst (λ (t : TreeView). AreFindings t stamp findings) (sym accepted) (by now.staged)
  where
    by : (o : Option StageView) → AreFindings (accepted_tree now o) stamp findings
    by None = are
    by (Some stage) = record { fitting = are.fitting; due = all_accepted now stage stamp findings.limits findings.due.items are.due }

-- whether the batch was accepted or not
pub within_answered : {A E : Type 0} (outcome : Result A E) (limits : LimitsView) (old new : TreeView) (due due' : DueView) → OnOk outcome (AreWithinBut limits old due.pages → AreWithinBut limits new due'.pages) → OnErr outcome (new ≡ old) →
    OnErr outcome (due' ≡ due) → AreWithinBut limits old due.pages → AreWithinBut limits new due'.pages
within_answered (Ok answered) limits old new due due' kept tree same but = kept but
within_answered (Err error) limits old new due due' kept tree same but = subst (λ (t : TreeView). AreWithinBut limits t due'.pages) (sym tree) (subst (λ (d : DueView). AreWithinBut limits old d.pages) (sym same) but)
