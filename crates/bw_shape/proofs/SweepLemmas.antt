-- A sweep goes from page to page, and each that it passes has no record any more.
use Rattle.std.proofs.Common.{inl, inr, ◌⊎◌, ◌≡◌, ℕ, suc, ◌+◌, ◌<◌, ◌≤◌, ◌^◌, List, [], ◌∷◌, length, None, refl, sym, ap, ◌∙◌, subst, arith}
use Rattle.std.proofs.lemmas.Bool.{cases_eq, cases_lt}
use Rattle.std.proofs.lemmas.List.{get_or-set_other, length-set}
use Rattle.std.specs.List.{AllByRecursion, Contains}
use Rattle.std.specs.Prelude.{slice_index}
use Rattle.bw_level.specs.Freeing.{IsUnreached}
use Rattle.bw_level.specs.Levels.{row}
use Rattle.bw_level.specs.Before.{low_of}
use Rattle.bw_level.specs.Reading.{writes_over}
use Rattle.bw_level.specs.Scans.{high_of}
use Rattle.bw_level.specs.Searches.{IsInLevels}
use Rattle.bw_level.specs.Slots.{Slot, Free, side_of_slot, slot_at}
use Rattle.bw_tree.specs.Consolidation.{IsConsolidated, IsRebased}
use Rattle.bw_look.specs.View.{TreeView, contents_at}
use Rattle.bw_steps.specs.Steps.{HasLostChain, IsConsolidationStep}
use Rattle.bw_shape.specs.Limits.{LimitsView, IsWithin}
use Rattle.bw_steps.specs.Releasing.{AreFreed, FreesUnreached, HasNoneToFree}
use Rattle.bw_shape.specs.Sweeps.{ArePlainBelow, HasAllRecorded, HasSameBounds, HaveSameBounds, HaveSameBoundsTaken, HoldsButFreed, HoldsSame, IsPlainAt, IsSwept, KeepsPlain, KeepsPlainTaken}
use Rattle.bw_shape.specs.Tidying.{HasBoth, KeepsWithin}
use Rattle.bw_steps.specs.declared.steps.Did.{Did}
use Rattle.bw_steps.specs.declared.steps.Did.TheVariants.{Done, NotNeeded}
use Rattle.bw_steps.proofs.FreedLemmas.{freed_itself}
use Rattle.bw_steps.proofs.TakenLemmas.{cases_free, taken_but}

bounds_same : (old new : Slot) → new ≡ old → HasSameBounds old new
bounds_same old new is = record { low = ap low_of is; high = ap high_of is; side = ap side_of_slot is }

bounds_on : (first old new : Slot) → HasSameBounds first old → HasSameBounds old new → HasSameBounds first new
bounds_on first old new a b = record { low = b.low ∙ a.low; high = b.high ∙ a.high; side = b.side ∙ a.side }

-- a consolidated leaf keeps its bounds, and all other pages are as before
consolidated_bounds : (old new : TreeView) (p : ℕ) → IsConsolidated old new p → HaveSameBounds old new
consolidated_bounds old new p k q = by (cases_eq q p)
  where
    by : (q ≡ p) ⊎ (q ≡ p → ⊥) → HasSameBounds (slot_at old.slots q) (slot_at new.slots q)
    by (inl here) = subst (λ r. HasSameBounds (slot_at old.slots r) (slot_at new.slots r)) (sym here) (record { low = ap low_of k.page; high = ap high_of k.page; side = ap side_of_slot k.page })
    by (inr other) = bounds_same (slot_at old.slots q) (slot_at new.slots q) (k.others q other)

pub holds_itself : (tree : TreeView) → tree.staged ≡ None → HoldsSame tree tree
holds_itself tree none = record { contents = refl; levels = refl; bounds = λ p. bounds_same (slot_at tree.slots p) (slot_at tree.slots p) refl; root = refl; next = refl; records = refl; staged = none; pages = refl; taken = λ p free. free }

pub holds_on : (first old new : TreeView) → HoldsSame first old → HoldsSame old new → HoldsSame first new
holds_on first old new a b = record {
  contents = b.contents ∙ a.contents;
  levels = b.levels ∙ a.levels;
  bounds = λ p. bounds_on (slot_at first.slots p) (slot_at old.slots p) (slot_at new.slots p) (a.bounds p) (b.bounds p);
  root = b.root ∙ a.root;
  next = b.next ∙ a.next;
  records = b.records ∙ a.records;
  staged = b.staged;
  pages = b.pages ∙ a.pages;
  taken = λ p free. a.taken p (b.taken p free);
}

module _ (old new : TreeView) (p : ℕ) where
  pub same_consolidated : IsConsolidated old new p → HoldsSame old new
  same_consolidated k = record {
    contents = k.contents;
    levels = k.levels;
    bounds = consolidated_bounds old new p k;
    root = k.root;
    next = k.next;
    records = k.records;
    staged = k.staged;
    pages = ap length k.heads ∙ length-set old.heads p (slice_index new.heads p);
    taken = taken_but old.slots new.slots p _ k.page k.others;
  }

  leaf_plain : 2 ^ 32 ≤ slice_index old.heads p → IsConsolidated old new p → IsPlainAt old new p
  leaf_plain had k = record {
    same = same_consolidated k;
    plain = k.plain;
    others = λ q other. ap (λ (ws : List ℕ). slice_index ws q) k.heads ∙ get_or-set_other old.heads p q (slice_index new.heads p) 0 other;
    kept = λ q low. k.others q (λ same. omega (arith, had, subst (λ r. slice_index old.heads r < 2 ^ 32) same low));
  }

  inner_plain : old.staged ≡ None → IsRebased old new p → IsPlainAt old new p
  inner_plain none k = record {
    same = record {
      contents = ap (λ (v : TreeView). contents_at v v.next) k.view;
      levels = ap (λ (v : TreeView). v.levels) k.view;
      bounds = λ q. bounds_same (slot_at old.slots q) (slot_at new.slots q) (ap (λ (v : TreeView). slot_at v.slots q) k.view);
      root = ap (λ (v : TreeView). v.root) k.view;
      next = ap (λ (v : TreeView). v.next) k.view;
      records = ap (λ (v : TreeView). v.records) k.view;
      staged = ap (λ (v : TreeView). v.staged) k.view ∙ none;
      pages = ap (λ (v : TreeView). length v.heads) k.view ∙ length-set old.heads p (slice_index new.heads p);
      taken = λ q free. sym (ap (λ (v : TreeView). slot_at v.slots q) k.view) ∙ free;
    };
    plain = k.plain;
    others = λ q other. ap (λ (v : TreeView). slice_index v.heads q) k.view ∙ get_or-set_other old.heads p q (slice_index new.heads p) 0 other;
    kept = λ q low. ap (λ (v : TreeView). slot_at v.slots q) k.view;
  }

  pub chain_plain : old.staged ≡ None → HasLostChain old new p → IsPlainAt old new p
  chain_plain none lost = by (cases_lt 0 lost.level)
    where
      by : (0 < lost.level) ⊎ (lost.level ≤ 0) → IsPlainAt old new p
      by (inl raised) = inner_plain none (lost.inner raised)
      by (inr lowest) = leaf_plain lost.had (lost.leaf (omega (arith, lowest)))

  pub still_plain : old.staged ≡ None → new ≡ old → slice_index old.heads p < 2 ^ 32 → IsPlainAt old new p
  still_plain none is plain = subst (λ (v : TreeView). IsPlainAt old v p) (sym is) (record { same = holds_itself old none; plain = plain; others = λ q other. refl; kept = λ q low. refl })

  -- a step leaves the page without a record
  pub step_plain : (did : Did) → old.staged ≡ None → IsConsolidationStep old new p did → IsPlainAt old new p
  step_plain Done none lost = chain_plain none lost
  step_plain NotNeeded none (is, plain) = still_plain none is plain

-- pages that had no record have none still, and are as they were
pub record KeepsAllPlain (first now : TreeView) : Type 0 where
  pub still : (p : ℕ) → slice_index first.heads p < 2 ^ 32 → slice_index now.heads p < 2 ^ 32
  pub kept : KeepsPlain first now

pub plain_itself : (tree : TreeView) → KeepsAllPlain tree tree
plain_itself tree = record { still = λ p low. low; kept = λ p low. refl }

-- one page more
pub more_plain : (first old new : TreeView) (n : ℕ) → HoldsSame first old → ArePlainBelow old n → IsPlainAt old new n → HoldsSame first new × ArePlainBelow new (n + 1)
more_plain first old new n held below at = (holds_on first old new held at.same, λ p lt. by p lt (cases_lt p n))
  where
    by : (p : ℕ) → p < n + 1 → (p < n) ⊎ (n ≤ p) → slice_index new.heads p < 2 ^ 32
    by p lt (inl before) = subst (λ w. w < 2 ^ 32) (sym (at.others p (λ e. omega (arith, before, e)))) (below p before)
    by p lt (inr behind) =
        let last : p ≡ n = omega (arith, lt, behind) in
        subst (λ q. slice_index new.heads q < 2 ^ 32) (sym last) at.plain

pub plain_on : (first old new : TreeView) (n : ℕ) → KeepsAllPlain first old → IsPlainAt old new n → KeepsAllPlain first new
plain_on first old new n keeps at = record {
  still = λ p low. by p low (cases_eq p n);
  kept = λ p low. at.kept p (keeps.still p low) ∙ keeps.kept p low;
}
  where
    by : (p : ℕ) → slice_index first.heads p < 2 ^ 32 → (p ≡ n) ⊎ (p ≡ n → ⊥) → slice_index new.heads p < 2 ^ 32
    by p low (inl same) = subst (λ q. slice_index new.heads q < 2 ^ 32) (sym same) at.plain
    by p low (inr other) = subst (λ w. w < 2 ^ 32) (sym (at.others p other)) (keeps.still p low)

pub all_plain : (ws : List ℕ) → ((p : ℕ) → p < length ws → slice_index ws p < 2 ^ 32) → AllByRecursion (λ w. w < 2 ^ 32) ws
all_plain [] each = tt
all_plain (w ∷ ws) each = (each 0 (omega arith), all_plain ws (λ p lt. each (suc p) (omega (arith, lt))))

-- identifiers that are given back, once chains were consolidated
pub but_freed : (first old new : TreeView) → HoldsSame first old → AreFreed old new → HoldsButFreed first new
but_freed first old new held freed = record {
  contents = ap (contents_at new) freed.next ∙ freed.contents old.next ∙ held.contents;
  levels = freed.levels ∙ held.levels;
  bounds = λ p taken. subst (HasSameBounds (slot_at first.slots p)) (sym (freed.others p taken)) (held.bounds p);
  freed = λ p free. by p (freed.freed p free);
  root = freed.root ∙ held.root;
  next = freed.next ∙ held.next;
  records = freed.records ∙ held.records;
  staged = freed.staged;
  pages = ap length freed.heads ∙ held.pages;
}
  where
    by : (p : ℕ) → (slot_at old.slots p ≡ Free) ⊎ IsUnreached new.slots new.levels p → (slot_at first.slots p ≡ Free) ⊎ IsUnreached new.slots new.levels p
    by p (inl free) = inl (held.taken p free)
    by p (inr now) = inr now

pub but_none : (old new : TreeView) → HoldsSame old new → HoldsButFreed old new
but_none old new held = but_freed old new new held (freed_itself new held.staged)

pub plain_taken : (first old new : TreeView) → KeepsPlain first old → AreFreed old new → KeepsPlainTaken first new
plain_taken first old new kept freed p low taken = freed.others p taken ∙ kept p low

-- where records and stamps start over, too
pub plain_over : (old tree new : TreeView) → KeepsPlainTaken old tree → new ≡ record tree { records = 0; next = 0 } → KeepsPlainTaken old new
plain_over old tree new kept view = subst (KeepsPlainTaken old) (sym view) (λ p low taken. kept p low taken)

-- the tree that was started over, once no page has a record
pub swept_all : (old tree new : TreeView) → HoldsButFreed old tree → AllByRecursion (λ w. w < 2 ^ 32) tree.heads → HasNoneToFree tree → new ≡ record tree { records = 0; next = 0 } → ((stamp : ℕ) → contents_at new stamp ≡ contents_at tree tree.next) → ((p : ℕ) → writes_over (slot_at new.slots p) ≡ []) → IsSwept old new
swept_all old tree new held plain none view contents bare = record {
  contents = λ stamp. contents stamp ∙ held.contents;
  plain = subst (λ (v : TreeView). AllByRecursion (λ w. w < 2 ^ 32) v.heads) (sym view) plain;
  bare = bare;
  levels = ap (λ (v : TreeView). v.levels) view ∙ held.levels;
  bounds = subst (HaveSameBoundsTaken old) (sym view) (λ p taken. held.bounds p taken);
  freed = subst (FreesUnreached old) (sym view) (λ p free. held.freed p free);
  all = subst HasNoneToFree (sym view) (λ p may. none p (record { taken = may.taken; unreached = may.unreached }));
  root = ap (λ (v : TreeView). v.root) view ∙ held.root;
  pages = ap (λ (v : TreeView). length v.heads) view ∙ held.pages;
  records = ap (λ (v : TreeView). v.records) view;
  next = ap (λ (v : TreeView). v.next) view;
  staged = ap (λ (v : TreeView). v.staged) view ∙ held.staged;
}

some_levels : (levels : List (List ℕ)) (p : ℕ) → Contains (row levels 0) p → 0 < length levels
some_levels [] p has = absurd (omega (arith, has.1))
some_levels (ps ∷ levels) p has = omega arith

-- a free identifier has no writes and no pairs
pub free_within : (limits : LimitsView) (slot : Slot) → slot ≡ Free → IsWithin limits slot
free_within limits slot free = subst (IsWithin limits) (sym free) (omega arith, omega arith)

-- Each leaf is within the limits or due behind a sweep, where the pages that had records are due, too.
pub within_swept : (old new : TreeView) (due due' pages : List ℕ) → new.levels ≡ old.levels → KeepsPlainTaken old new → HasAllRecorded old pages → ((p : ℕ) → IsInLevels old.levels p → p < length old.heads) → HasBoth pages due due' → KeepsWithin old new due due'
within_swept old new due due' pages levels kept all there both limits but p leaf = by (cases_lt (slice_index old.heads p) (2 ^ 32)) (but p was)
  where
    was : Contains (row old.levels 0) p
    was = subst (λ (l : List (List ℕ)). Contains (row l 0) p) levels leaf

    by : (slice_index old.heads p < 2 ^ 32) ⊎ (2 ^ 32 ≤ slice_index old.heads p) → Contains due p ⊎ IsWithin limits (slot_at old.slots p) → Contains due' p ⊎ IsWithin limits (slot_at new.slots p)
    by low (inl has) = inl (both.right p has)
    by (inl low) (inr within) = or_free (cases_free (slot_at new.slots p))
      where
        or_free : (slot_at new.slots p ≡ Free) ⊎ (slot_at new.slots p ≡ Free → ⊥) → Contains due' p ⊎ IsWithin limits (slot_at new.slots p)
        or_free (inl free) = inr (free_within limits (slot_at new.slots p) free)
        or_free (inr taken) = inr (subst (IsWithin limits) (sym (kept p low taken)) within)
    by (inr high) (inr within) = inl (both.left p (all p (there p (record { level = 0; within = some_levels old.levels p was; in_level = was })) high))
