-- What tidying keeps, step by step: what the tree holds, and which leaves are within the limits.
use Rattle.std.proofs.Common.{inl, inr, ◌⊎◌, ◌≡◌, ℕ, zero, suc, ◌+◌, ◌-◌, ◌<◌, ◌≤◌, ◌^◌, List, [], ◌∷◌, ◌++◌, length, take, drop, None, refl, sym, ap, ◌∙◌, subst, arith}
use Rattle.std.proofs.lemmas.Bool.{cases_eq, cases_lt}
use Rattle.std.proofs.Math.Seq.{take-add}
use Rattle.std.proofs.lemmas.List.{get_or-set_same, get_or-set_other, length-append, take-append-drop}
use Rattle.std.proofs.lemmas.List.Elements.{Contains-append_cases, Contains-append_left, Contains-append_right, Contains-push, Contains-push_cases}
use Rattle.std.specs.List.{Contains, insert}
use Rattle.std.specs.Prelude.{slice_index}
use Rattle.bw_key.specs.Order.{KeyBytes}
use Rattle.bw_level.specs.Children.{state_with_child}
use Rattle.bw_level.specs.Changes.{body_with_child}
use Rattle.bw_level.specs.Levels.{AreLevels, row}
use Rattle.bw_level.specs.Reading.{body_pairs, body_writes, pairs_under, writes_over}
use Rattle.bw_level.specs.Roots.{levels_grown}
use Rattle.bw_level.specs.Searches.{IsInLevels}
use Rattle.bw_level.specs.Slots.{Slot, PageState, Body, Pairs, Children, Free, Gone, Live, slot_at}
use Rattle.bw_level.specs.Splits.{level_parted, put_behind, slot_entries}
use Rattle.bw_level.proofs.SplitLemmas.{had}
use Rattle.bw_tree.specs.TreeChildren.{AreNamed, IsNamed, state_with_children}
use Rattle.bw_tree.specs.TreeRoots.{HasNewRoot}
use Rattle.bw_tree.specs.TreeSplits.{IsSplit, IsSplittable}
use Rattle.bw_look.specs.View.{TreeView, contents_at}
use Rattle.bw_shape.specs.Limits.{LimitsView, AreWithinBut, IsWithin}
use Rattle.bw_steps.specs.Naming.{AreFinished}
use Rattle.bw_steps.specs.Releasing.{AreFreed}
use Rattle.bw_shape.specs.Sweeps.{HoldsSame}
use Rattle.bw_shape.specs.Tidying.{AreAmong, HoldsAll, KeepsWithin}
use Rattle.bw_shape.specs.Visits.{IsBare, IsNext, IsSplitNext}
use Rattle.bw_steps.specs.Steps.{HasLostChain, IsFinishStep, IsFinished, IsRootStep, IsSameOver}
use Rattle.bw_tree.specs.Consolidation.{IsRebased}
use Rattle.bw_steps.specs.declared.steps.Did.{Did}
use Rattle.bw_steps.specs.declared.steps.Did.TheVariants.{Done, NotNeeded}
use Rattle.bw_shape.proofs.KeptLeaves.{freed_leaves, grown_leaves, same_leaves, same_row}
use Rattle.bw_shape.proofs.SweepLemmas.{chain_plain, free_within, still_plain}
use Rattle.bw_steps.proofs.TakenLemmas.{cases_free}

-- where the same pages are to be looked at, or more
pub kept_alike : (tree : TreeView) (due due' : List ℕ) → due' ≡ due → KeepsWithin tree tree due due'
kept_alike tree due due' same limits but = subst (AreWithinBut limits tree) (sym same) but

pub kept_more : (tree : TreeView) (due due' : List ℕ) → ((p : ℕ) → Contains due p → Contains due' p) → KeepsWithin tree tree due due'
kept_more tree due due' more limits but = λ p leaf. elim (but p leaf) [
  | inl has ↦ inl (more p has)
  | inr within ↦ inr within
]

-- one page more
pub among_longer : (few pages : List ℕ) (page : ℕ) → AreAmong few pages → AreAmong few (pages ++ page ∷ [])
among_longer few pages page among p has = Contains-append_left pages (page ∷ []) p (among p has)

-- the next pages of a list are added to those that were
pub among_block : (pages all all' : List ℕ) (start end : ℕ) → start ≤ end → AreAmong (take start pages) all → all' ≡ all ++ take (end - start) (drop start pages) → AreAmong (take end pages) all'
among_block pages all all' start end le among is p has =
    subst (λ (l : List ℕ). Contains l p) (sym is) (by (Contains-append_cases (take start pages) block p (subst (λ (l : List ℕ). Contains l p) parts has)))
  where
    block : List ℕ
    block = take (end - start) (drop start pages)

    parts : take end pages ≡ take start pages ++ block
    parts = let far : end ≡ start + (end - start) = omega (arith, le) in ap (λ (n : ℕ). take n pages) far ∙ take-add start (end - start) pages

    by : Contains (take start pages) p ⊎ Contains block p → Contains (all ++ block) p
    by (inl before) = Contains-append_left all block p (among p before)
    by (inr last) = Contains-append_right all block p last

-- and so are all that are left
pub among_rest : (pages all all' : List ℕ) (start : ℕ) → AreAmong (take start pages) all → all' ≡ all ++ drop start pages → AreAmong pages all'
among_rest pages all all' start among is p has =
    subst (λ (l : List ℕ). Contains l p) (sym is) (by (Contains-append_cases (take start pages) (drop start pages) p (subst (λ (l : List ℕ). Contains l p) (sym (take-append-drop start pages)) has)))
  where
    by : Contains (take start pages) p ⊎ Contains (drop start pages) p → Contains (all ++ drop start pages) p
    by (inl before) = Contains-append_left all (drop start pages) p (among p before)
    by (inr last) = Contains-append_right all (drop start pages) p last

-- what is put into a list takes nothing out
pub kept_insert : (ps : List ℕ) (i x p : ℕ) → Contains ps p → Contains (insert ps i x) p
kept_insert [] i x p has = absurd (omega (arith, has.1))
kept_insert (q ∷ ps) zero x p has = (suc has.0, omega (arith, has.1), has.2)
kept_insert (q ∷ ps) (suc i) x p (zero, lt, e) = (0, omega arith, e)
kept_insert (q ∷ ps) (suc i) x p (suc n, lt, e) =
    let rest = kept_insert ps i x p (n, omega (arith, lt), e) in
    (suc rest.0, omega (arith, rest.1), rest.2)

-- what the tree holds
pub holds_itself : (tree : TreeView) → tree.staged ≡ None → HoldsAll tree tree
holds_itself tree none = record { contents = refl; next = refl; records = omega arith; leaves = λ same. refl; staged = none }

pub holds_on : (first old new : TreeView) → HoldsAll first old → HoldsAll old new → HoldsAll first new
holds_on first old new a b = record {
  contents = b.contents ∙ a.contents;
  next = b.next ∙ a.next;
  records = omega (arith, a.records, b.records);
  leaves = λ same. b.leaves (omega (arith, same, a.records, b.records)) ∙ a.leaves (omega (arith, same, a.records, b.records));
  staged = b.staged;
}

pub holds_same : (old new : TreeView) → HoldsSame old new → HoldsAll old new
holds_same old new h = record {
  contents = h.contents;
  next = h.next;
  records = omega (arith, h.records);
  leaves = λ same. same_leaves old new (same_row old new h.levels) (λ p has. record { low = (h.bounds p).low; high = (h.bounds p).high });
  staged = h.staged;
}

-- where a step keeps what it holds as of every stamp
pub held_at : (old new : TreeView) → new.next ≡ old.next → ((stamp : ℕ) → contents_at new stamp ≡ contents_at old stamp) → contents_at new new.next ≡ contents_at old old.next
held_at old new next contents = ap (contents_at new) next ∙ contents old.next

pub holds_split : (old new : TreeView) (p keep q : ℕ) → IsSplit old new p keep q → HoldsAll old new
holds_split old new p keep q h = record { contents = held_at old new h.next h.contents; next = h.next; records = omega (arith, h.records); leaves = λ same. absurd (omega (arith, same, h.records)); staged = h.staged }

pub holds_named : (old new : TreeView) (parent : ℕ) (sep : KeyBytes) (child : ℕ) → IsNamed old new parent sep child → HoldsAll old new
holds_named old new parent sep child h = record { contents = held_at old new h.next h.contents; next = h.next; records = omega (arith, h.records); leaves = λ same. absurd (omega (arith, same, h.records)); staged = h.staged }

pub holds_root : (old new : TreeView) (root t : ℕ) → AreLevels old.slots root old.levels → HasNewRoot old new t → HoldsAll old new
holds_root old new root t lawful h = record { contents = held_at old new h.next h.contents; next = h.next; records = omega (arith, h.records); leaves = λ same. grown_leaves old new root lawful t h; staged = h.staged }

pub next_due : (due : List ℕ) (p : ℕ) → IsNext due p → Contains due p
next_due due p next = subst (λ (l : List ℕ). Contains l p) (sym next.1) (Contains-push next.0 p)

-- the next page was looked at: it is no leaf that is over a limit
pub within_pass : (limits : LimitsView) (tree : TreeView) (due due' : List ℕ) (p : ℕ) → due ≡ due' ++ p ∷ [] → (Contains (row tree.levels 0) p → IsWithin limits (slot_at tree.slots p)) → AreWithinBut limits tree due → AreWithinBut limits tree due'
within_pass limits tree due due' p is fine but r leaf = by (but r leaf)
  where
    or_it : Contains due' r ⊎ (p ≡ r) → Contains due' r ⊎ IsWithin limits (slot_at tree.slots r)
    or_it (inl has) = inl has
    or_it (inr same) = inr (subst (λ q. IsWithin limits (slot_at tree.slots q)) same (fine (subst (Contains (row tree.levels 0)) (sym same) leaf)))

    by : Contains due r ⊎ IsWithin limits (slot_at tree.slots r) → Contains due' r ⊎ IsWithin limits (slot_at tree.slots r)
    by (inl has) = or_it (Contains-push_cases due' p r (subst (λ (l : List ℕ). Contains l r) is has))
    by (inr within) = inr within

-- the next page has no record any more
pub within_bare : (old new : TreeView) (due : List ℕ) (p : ℕ) → IsBare old new p → IsNext due p → KeepsWithin old new due due
within_bare old new due p bare next limits but r leaf = by (cases_eq r p)
  where
    or_as : (r ≡ p → ⊥) → Contains due r ⊎ IsWithin limits (slot_at old.slots r) → Contains due r ⊎ IsWithin limits (slot_at new.slots r)
    or_as other (inl has) = inl has
    or_as other (inr within) = inr (subst (IsWithin limits) (sym (bare.others r other)) within)

    by : (r ≡ p) ⊎ (r ≡ p → ⊥) → Contains due r ⊎ IsWithin limits (slot_at new.slots r)
    by (inl same) = inl (subst (Contains due) (sym same) (next_due due p next))
    by (inr other) = or_as other (but r (subst (λ (l : List (List ℕ)). Contains (row l 0) r) bare.same.levels leaf))

-- the next page has parted in two
module _ (old new : TreeView) (due due' : List ℕ) (p keep : ℕ) (able : IsSplittable old p keep) (h : IsSplitNext old new due due' p keep) where
  abbrev q : ℕ
  q = h.right

  was_leaf : (r : ℕ) → Contains (row new.levels 0) r → Contains (row old.levels 0) r ⊎ (r ≡ q)
  was_leaf r leaf = by (cases_eq 0 able.level)
    where
      parted : List (List ℕ)
      parted = level_parted old.levels able.level p q

      there : Contains (row parted 0) r
      there = subst (λ (l : List (List ℕ)). Contains (row l 0) r) (h.split.levels able.level able.within able.in_level) leaf

      or_new : Contains (row old.levels able.level) r ⊎ ((r ≡ q) × Contains (row old.levels able.level) p) → able.level ≡ 0 → Contains (row old.levels 0) r ⊎ (r ≡ q)
      or_new (inl has) lowest = inl (subst (λ n. Contains (row old.levels n) r) lowest has)
      or_new (inr new_one) lowest = inr new_one.0

      by : (0 ≡ able.level) ⊎ (0 ≡ able.level → ⊥) → Contains (row old.levels 0) r ⊎ (r ≡ q)
      by (inl lowest) =
          or_new (had p q r (row old.levels able.level)
          (subst (λ (l : List ℕ). Contains l r) (get_or-set_same old.levels able.level (put_behind p q (row old.levels able.level)) [] able.within) (subst (λ n. Contains (row parted n) r) lowest there))) (sym lowest)
      by (inr raised) = inl (subst (λ (l : List ℕ). Contains l r) (get_or-set_other old.levels able.level 0 (put_behind p q (row old.levels able.level)) [] raised) there)

  due_still : (r : ℕ) → Contains due r → Contains due' r
  due_still r has = subst (λ (l : List ℕ). Contains l r) (sym h.is) (by (Contains-push_cases h.rest p r (subst (λ (l : List ℕ). Contains l r) h.was has)))
    where
      by : Contains h.rest r ⊎ (p ≡ r) → Contains (h.rest ++ q ∷ p ∷ []) r
      by (inl before) = Contains-append_left h.rest (q ∷ p ∷ []) r before
      by (inr same) = Contains-append_right h.rest (q ∷ p ∷ []) r (1, omega arith, same)

  due_new : Contains due' q
  due_new = subst (λ (l : List ℕ). Contains l q) (sym h.is) (Contains-append_right h.rest (q ∷ p ∷ []) q (0, omega arith, refl))

  due_page : Contains due' p
  due_page = subst (λ (l : List ℕ). Contains l p) (sym h.is) (Contains-append_right h.rest (q ∷ p ∷ []) p (1, omega arith, refl))

  pub within_split : KeepsWithin old new due due'
  within_split limits but r leaf = by (cases_eq r p) (cases_eq r q)
    where
      or_as : (r ≡ p → ⊥) → (r ≡ q → ⊥) → Contains due r ⊎ IsWithin limits (slot_at old.slots r) → Contains due' r ⊎ IsWithin limits (slot_at new.slots r)
      or_as other other' (inl has) = inl (due_still r has)
      or_as other other' (inr within) = inr (subst (IsWithin limits) (sym (h.split.parted.others r other other')) within)

      old_one : (r ≡ p → ⊥) → (r ≡ q → ⊥) → Contains (row old.levels 0) r ⊎ (r ≡ q) → Contains due' r ⊎ IsWithin limits (slot_at new.slots r)
      old_one other other' (inl was) = or_as other other' (but r was)
      old_one other other' (inr same) = absurd (other' same)

      by : (r ≡ p) ⊎ (r ≡ p → ⊥) → (r ≡ q) ⊎ (r ≡ q → ⊥) → Contains due' r ⊎ IsWithin limits (slot_at new.slots r)
      by (inl same) its = inl (subst (Contains due') (sym same) due_page)
      by (inr other) (inl same) = inl (subst (Contains due') (sym same) due_new)
      by (inr other) (inr other') = old_one other other' (was_leaf r leaf)

  pub split_due : length due' ≡ length due + 1
  split_due = omega (arith, ap length h.was, ap length h.is, length-append h.rest (p ∷ []), length-append h.rest (q ∷ p ∷ []))

-- an inner page names one page more
child_within : (limits : LimitsView) (sep : KeyBytes) (child : ℕ) (s : PageState) → IsWithin limits (Live s) → IsWithin limits (Live (state_with_child sep child s))
child_within limits sep child s = by s.body
  where
    by : (b : Body) → (length (body_writes b) ≤ limits.chain_max) × (length (body_pairs b) ≤ limits.page_max) →
        (length (body_writes (body_with_child sep child b)) ≤ limits.chain_max) × (length (body_pairs (body_with_child sep child b)) ≤ limits.page_max)
    by (Pairs pairs writes) within = within
    by (Children level children) within = within

pub within_named : (old new : TreeView) (due : List ℕ) (parent : ℕ) (sep : KeyBytes) (child : ℕ) → IsNamed old new parent sep child → KeepsWithin old new due due
within_named old new due parent sep child h limits but r leaf = by (cases_eq r parent) (but r (subst (λ (l : List (List ℕ)). Contains (row l 0) r) h.levels leaf))
  where
    by : (r ≡ parent) ⊎ (r ≡ parent → ⊥) → Contains due r ⊎ IsWithin limits (slot_at old.slots r) → Contains due r ⊎ IsWithin limits (slot_at new.slots r)
    by which (inl has) = inl has
    by (inr other) (inr within) = inr (subst (IsWithin limits) (sym (h.named.others r other)) within)
    by (inl same) (inr within) =
        inr (subst (IsWithin limits) (sym (ap (slot_at new.slots) same ∙ h.named.now))
        (child_within limits sep child h.named.was (subst (IsWithin limits) (ap (slot_at old.slots) same ∙ h.named.is) within)))

children_within : (limits : LimitsView) (es : List (KeyBytes × ℕ)) (s : PageState) → IsWithin limits (Live s) → IsWithin limits (Live (state_with_children es s))
children_within limits [] s within = within
children_within limits (e ∷ es) s within = children_within limits es (state_with_child e.0 e.1 s) (child_within limits e.0 e.1 s within)

-- or several pages more
within_all_named : (old new : TreeView) (due : List ℕ) (parent : ℕ) (es : List (KeyBytes × ℕ)) → AreNamed old new parent es → KeepsWithin old new due due
within_all_named old new due parent es h limits but r leaf = by (cases_eq r parent) (but r (subst (λ (l : List (List ℕ)). Contains (row l 0) r) h.levels leaf))
  where
    by : (r ≡ parent) ⊎ (r ≡ parent → ⊥) → Contains due r ⊎ IsWithin limits (slot_at old.slots r) → Contains due r ⊎ IsWithin limits (slot_at new.slots r)
    by which (inl has) = inl has
    by (inr other) (inr within) = inr (subst (IsWithin limits) (sym (h.named.others r other)) within)
    by (inl same) (inr within) =
        inr (subst (IsWithin limits) (sym (ap (slot_at new.slots) same ∙ h.named.now))
        (children_within limits es h.named.was (subst (IsWithin limits) (ap (slot_at old.slots) same ∙ h.named.is) within)))

-- the root grows
row_grown : (levels : List (List ℕ)) (t r : ℕ) → Contains (row (levels_grown levels t) 0) r → Contains (row levels 0) r ⊎ (r ≡ t)
row_grown [] t r (zero, lt, at) = inr (sym at)
row_grown [] t r (suc i, lt, at) = absurd (omega (arith, lt))
row_grown (ps ∷ levels) t r has = inl has

pub within_root : (old new : TreeView) (due : List ℕ) (t : ℕ) → HasNewRoot old new t → KeepsWithin old new due due
within_root old new due t h limits but r leaf = by (cases_eq r t) (row_grown old.levels t r (subst (λ (l : List (List ℕ)). Contains (row l 0) r) h.levels leaf))
  where
    or_as : (r ≡ t → ⊥) → Contains due r ⊎ IsWithin limits (slot_at old.slots r) → Contains due r ⊎ IsWithin limits (slot_at new.slots r)
    or_as other (inl has) = inl has
    or_as other (inr within) = inr (subst (IsWithin limits) (sym (h.grown.others r other)) within)

    by : (r ≡ t) ⊎ (r ≡ t → ⊥) → Contains (row old.levels 0) r ⊎ (r ≡ t) → Contains due r ⊎ IsWithin limits (slot_at new.slots r)
    by (inl same) was = inr (subst (IsWithin limits) (sym (ap (slot_at new.slots) same ∙ h.grown.top)) (omega arith, omega arith))
    by (inr other) (inr same) = absurd (other same)
    by (inr other) (inl was) = or_as other (but r was)

-- there are no more pairs than entries
pub few_pairs : (slot : Slot) → length (pairs_under slot) ≤ slot_entries slot
few_pairs (Live s) = by s.body
  where
    by : (b : Body) → length (body_pairs b) ≤ slot_entries (Live (record s { body = b }))
    by (Pairs pairs writes) = omega arith
    by (Children level children) = omega arith
few_pairs (Gone l) = omega arith
few_pairs Free = omega arith

-- a page with few writes and few entries is within the limits
pub few_within : (limits : LimitsView) (slot : Slot) → length (writes_over slot) ≤ limits.chain_max → slot_entries slot ≤ limits.page_max → IsWithin limits slot
few_within limits slot writes entries = (writes, omega (arith, few_pairs slot, entries))

-- more pages are due
pub within_more : (limits : LimitsView) (tree : TreeView) (due due' : List ℕ) → ((p : ℕ) → Contains due p → Contains due' p) → AreWithinBut limits tree due → AreWithinBut limits tree due'
within_more limits tree due due' kept but r leaf = by (but r leaf)
  where
    by : Contains due r ⊎ IsWithin limits (slot_at tree.slots r) → Contains due' r ⊎ IsWithin limits (slot_at tree.slots r)
    by (inl has) = inl (kept r has)
    by (inr within) = inr within

-- what a step that finishes a split keeps, whatever became of it
pub record KeepsTidy (old new : TreeView) : Type 0 where
  pub holds : HoldsAll old new
  pub within : (due : List ℕ) → KeepsWithin old new due due

pub tidy_still : (old new : TreeView) → old.staged ≡ None → new ≡ old → KeepsTidy old new
tidy_still old new none is = subst (KeepsTidy old) (sym is) (record { holds = holds_itself old none; within = λ due limits but. but })

tidy_rebased : (old new : TreeView) (p : ℕ) → old.staged ≡ None → IsRebased old new p → KeepsTidy old new
tidy_rebased old new p none h = subst (KeepsTidy old) (sym h.view) (record {
  holds = record { contents = refl; next = refl; records = omega arith; leaves = λ same. refl; staged = none };
  within = λ due limits but. but;
})

pub tidy_same : (IsOne : ℕ → Type 0) (old new : TreeView) → old.staged ≡ None → IsSameOver IsOne old new → KeepsTidy old new
tidy_same IsOne old new none (inl is) = tidy_still old new none is
tidy_same IsOne old new none (inr page) = tidy_rebased old new page.0 none page.1.1

-- identifiers that are given back are of no leaf
pub tidy_freed : (old new : TreeView) → AreFreed old new → KeepsTidy old new
tidy_freed old new h = record {
  holds = record { contents = held_at old new h.next h.contents; next = h.next; records = omega (arith, h.records); leaves = λ same. freed_leaves old new h; staged = h.staged };
  within = λ due limits but r leaf. by due limits r (cases_free (slot_at new.slots r)) (but r (subst (λ (l : List (List ℕ)). Contains (row l 0) r) h.levels leaf));
}
  where
    by : (due : List ℕ) (limits : LimitsView) (r : ℕ) → (slot_at new.slots r ≡ Free) ⊎ (slot_at new.slots r ≡ Free → ⊥) → Contains due r ⊎ IsWithin limits (slot_at old.slots r) → Contains due r ⊎ IsWithin limits (slot_at new.slots r)
    by due limits r which (inl has) = inl has
    by due limits r (inl free) (inr within) = inr (free_within limits (slot_at new.slots r) free)
    by due limits r (inr taken) (inr within) = inr (subst (IsWithin limits) (sym (h.others r taken)) within)

pub tidy_named : (old new : TreeView) (p parent : ℕ) → IsFinished old new p parent → KeepsTidy old new
tidy_named old new p parent h = record {
  holds = holds_named old new parent h.sep h.side h.named;
  within = λ due. within_named old new due parent h.sep h.side h.named;
}

pub tidy_all_named : (old new : TreeView) (p parent : ℕ) → AreFinished old new p parent → KeepsTidy old new
tidy_all_named old new p parent h = record {
  holds = record {
    contents = held_at old new h.named.next h.named.contents;
    next = h.named.next;
    records = omega (arith, h.named.records);
    leaves = λ same. absurd (omega (arith, same, h.named.records, h.some));
    staged = h.named.staged;
  };
  within = λ due. within_all_named old new due parent h.entries h.named;
}

pub tidy_root : (old new : TreeView) (root : ℕ) (did : Did) → AreLevels old.slots root old.levels → old.staged ≡ None → IsRootStep old new did → KeepsTidy old new
tidy_root old new root Done lawful none h = record {
  holds = holds_root old new root h.0 lawful h.1;
  within = λ due. within_root old new due h.0 h.1;
}
tidy_root old new root NotNeeded lawful none h = tidy_still old new none h.0

-- a root that grows where nothing was left to be named
pub tidy_after : (old mid new : TreeView) (root : ℕ) (did : Did) → AreLevels mid.slots root mid.levels → old.staged ≡ None → mid ≡ old → IsRootStep mid new did → KeepsTidy old new
tidy_after old mid new root did lawful none is step = subst (λ (v : TreeView). KeepsTidy v new) is (tidy_root mid new root did lawful (ap (λ (v : TreeView). v.staged) is ∙ none) step)

-- a page that was consolidated
pub bare_lost : (old new : TreeView) (p : ℕ) → old.staged ≡ None → HasLostChain old new p → IsBare old new p
bare_lost old new p none lost =
    let at = chain_plain old new p none lost in
    record { same = at.same; plain = at.plain; others = by (cases_lt 0 lost.level) }
  where
    by : (0 < lost.level) ⊎ (lost.level ≤ 0) → (q : ℕ) → (q ≡ p → ⊥) → slot_at new.slots q ≡ slot_at old.slots q
    by (inl raised) q other = ap (λ (v : TreeView). slot_at v.slots q) (lost.inner raised).view
    by (inr lowest) q other = (lost.leaf (omega (arith, lowest))).others q other

-- a page that had no record
pub bare_still : (tree : TreeView) (p : ℕ) → tree.staged ≡ None → slice_index tree.heads p < 2 ^ 32 → IsBare tree tree p
bare_still tree p none plain =
    let at = still_plain tree tree p none refl plain in
    record { same = at.same; plain = at.plain; others = λ q other. refl }

-- a leaf stands on a level
pub leaf_level : (levels : List (List ℕ)) (p : ℕ) → Contains (row levels 0) p → IsInLevels levels p
leaf_level [] p has = absurd (omega (arith, has.1))
leaf_level (ps ∷ levels) p has = record { level = 0; within = omega arith; in_level = has }

pub tidy_finish : (old new : TreeView) (p : ℕ) (did : Did) → old.staged ≡ None → IsFinishStep old new p did → KeepsTidy old new
tidy_finish old new p Done none h = tidy_named old new p h.0 h.1
tidy_finish old new p NotNeeded none h = tidy_still old new none h.0
