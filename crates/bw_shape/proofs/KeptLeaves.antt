-- Which steps keep the leaves of a tree, with their ranges.
use Rattle.std.proofs.Common.{inl, inr, ◌⊎◌, ◌≡◌, ℕ, zero, suc, ◌-◌, ◌<◌, true, false, List, [], ◌∷◌, length, map, take, Option, refl, sym, ap, ◌∙◌, subst, arith}
use Rattle.std.proofs.lemmas.Bool.{cases_eq}
use Rattle.std.specs.List.{Contains}
use Rattle.bw_key.specs.Order.{KeyBytes}
use Rattle.bw_level.specs.Before.{low_of}
use Rattle.bw_level.specs.Levels.{AreLevels, BeginsWith, row}
use Rattle.bw_level.specs.Roots.{levels_grown}
use Rattle.bw_level.specs.Scans.{high_of}
use Rattle.bw_level.specs.Slots.{Slot, Body, Pairs, Children, Free, body_is_leaf, children_of, is_leaf, slot_at}
use Rattle.bw_tree.specs.TreeMerges.{IsLowered}
use Rattle.bw_tree.specs.TreeRoots.{HasNewRoot}
use Rattle.bw_look.specs.View.{TreeView}
use Rattle.bw_look.proofs.PageLemmas.{lowest_leaf}
use Rattle.bw_steps.specs.Releasing.{AreFreed, FreesUnreached}
use Rattle.bw_steps.proofs.TakenLemmas.{cases_free}
use Rattle.bw_shape.specs.LeafRanges.{LeafRange, leaf_range, leaf_ranges}
use Rattle.bw_shape.specs.Sweeps.{HaveSameBoundsTaken}

-- a page has the range that it had
pub record HasSameRange (old new : Slot) : Type 0 where
  pub low : low_of new ≡ low_of old
  pub high : high_of new ≡ high_of old

pub same_page : (old new : Slot) → new ≡ old → HasSameRange old new
same_page old new is = record { low = ap low_of is; high = ap high_of is }

map_same : (f g : ℕ → LeafRange) (ps : List ℕ) → ((p : ℕ) → Contains ps p → f p ≡ g p) → map f ps ≡ map g ps
map_same f g [] same = refl
map_same f g (p ∷ ps) same =
    ap (λ (x : LeafRange). x ∷ map f ps) (same p (0, omega arith, refl))
    ∙ ap (λ (xs : List LeafRange). g p ∷ xs) (map_same f g ps (λ q has. same q (suc has.0, omega (arith, has.1), has.2)))

same_range : (old new : List Slot) (p : ℕ) → HasSameRange (slot_at old p) (slot_at new p) → leaf_range new p ≡ leaf_range old p
same_range old new p same =
    ap (λ (k : KeyBytes). record { page = p; low = k; high = high_of (slot_at new p) }) same.low
    ∙ ap (λ (h : Option KeyBytes). record { page = p; low = low_of (slot_at old p); high = h }) same.high

-- where the same leaves have their ranges
pub same_leaves : (old new : TreeView) → row new.levels 0 ≡ row old.levels 0 → ((p : ℕ) → Contains (row old.levels 0) p → HasSameRange (slot_at old.slots p) (slot_at new.slots p)) → leaf_ranges new ≡ leaf_ranges old
same_leaves old new leaves same =
    ap (map (leaf_range new.slots)) leaves
    ∙ map_same (leaf_range new.slots) (leaf_range old.slots) (row old.levels 0) (λ p has. same_range old.slots new.slots p (same p has))

pub same_row : (old new : TreeView) → new.levels ≡ old.levels → row new.levels 0 ≡ row old.levels 0
same_row old new levels = ap (λ (l : List (List ℕ)). row l 0) levels

-- there is a level on which a leaf stands
some_level : (levels : List (List ℕ)) (p : ℕ) → Contains (row levels 0) p → 0 < length levels
some_level [] p has = absurd (omega (arith, has.1))
some_level (ps ∷ levels) p has = omega arith

-- where identifiers that are given back are of no leaf
pub taken_leaves : (old new : TreeView) → new.levels ≡ old.levels → FreesUnreached old new → ((p : ℕ) → (slot_at new.slots p ≡ Free → ⊥) → HasSameRange (slot_at old.slots p) (slot_at new.slots p)) → leaf_ranges new ≡ leaf_ranges old
taken_leaves old new levels freed same = same_leaves old new (same_row old new levels) (λ p has. by p has (cases_free (slot_at new.slots p)))
  where
    or_free : (p : ℕ) → Contains (row old.levels 0) p → slot_at new.slots p ≡ Free → HasSameRange (slot_at old.slots p) (slot_at new.slots p)
    or_free p has free = elim (freed p free) [
      | inl was ↦ same_page (slot_at old.slots p) (slot_at new.slots p) (free ∙ sym was)
      | inr unreached ↦
          let leaf : Contains (row new.levels 0) p = subst (λ (l : List ℕ). Contains l p) (sym (same_row old new levels)) has in
          absurd (unreached.stands (record { level = 0; within = some_level new.levels p leaf; in_level = leaf }))
    ]

    by : (p : ℕ) → Contains (row old.levels 0) p → (slot_at new.slots p ≡ Free) ⊎ (slot_at new.slots p ≡ Free → ⊥) → HasSameRange (slot_at old.slots p) (slot_at new.slots p)
    by p has (inl free) = or_free p has free
    by p has (inr taken) = same p taken

pub freed_leaves : (old new : TreeView) → AreFreed old new → leaf_ranges new ≡ leaf_ranges old
freed_leaves old new h = taken_leaves old new h.levels h.freed (λ p taken. same_page (slot_at old.slots p) (slot_at new.slots p) (h.others p taken))

pub swept_leaves : (old new : TreeView) → new.levels ≡ old.levels → HaveSameBoundsTaken old new → FreesUnreached old new → leaf_ranges new ≡ leaf_ranges old
swept_leaves old new levels bounds freed = taken_leaves old new levels freed (λ p taken. record { low = (bounds p taken).low; high = (bounds p taken).high })

module _ (old new : TreeView) (root : ℕ) (lawful : AreLevels old.slots root old.levels) where
  leaf_at : (p : ℕ) → Contains (row old.levels 0) p → is_leaf (slot_at old.slots p) ≡ true
  leaf_at p has = lowest_leaf old root lawful p (lawful.some, has)

  -- a new root is no leaf
  row_grown : (levels : List (List ℕ)) (t : ℕ) → 0 < length levels → row (levels_grown levels t) 0 ≡ row levels 0
  row_grown [] t some = absurd (omega (arith, some))
  row_grown (ps ∷ levels) t some = refl

  pub grown_leaves : (t : ℕ) → HasNewRoot old new t → leaf_ranges new ≡ leaf_ranges old
  grown_leaves t h = same_leaves old new (same_row_of ∙ row_grown old.levels t lawful.some) (λ p has. same_page (slot_at old.slots p) (slot_at new.slots p) (h.grown.others p (other p has)))
    where
      same_row_of : row new.levels 0 ≡ row (levels_grown old.levels t) 0
      same_row_of = ap (λ (l : List (List ℕ)). row l 0) h.levels

      different : false ≡ true → ⊥
      different e = cc

      other : (p : ℕ) → Contains (row old.levels 0) p → p ≡ t → ⊥
      other p has same = different (ap is_leaf (sym h.grown.free) ∙ ap (λ q. is_leaf (slot_at old.slots q)) (sym same) ∙ leaf_at p has)

  -- nor is a root that goes
  row_taken : (levels : List (List ℕ)) (n : ℕ) → 0 < n → row (take n levels) 0 ≡ row levels 0
  row_taken levels zero some = absurd (omega (arith, some))
  row_taken [] (suc n) some = refl
  row_taken (ps ∷ levels) (suc n) some = refl

  begins : (ps : List ℕ) → BeginsWith ps root → Contains ps root
  begins [] first = absurd first
  begins (p ∷ ps) first = (0, omega arith, first)

  one_child : (b : Body) (e : KeyBytes × ℕ) → children_of b ≡ e ∷ [] → body_is_leaf b ≡ true → ⊥
  one_child (Pairs pairs writes) e only leaf = no_child only
    where
      no_child : {x : KeyBytes × ℕ} → [] ≡ x ∷ [] → ⊥
      no_child e = cc
  one_child (Children level children) e only leaf = different leaf
    where
      different : false ≡ true → ⊥
      different e = cc

  pub lowered_leaves : root ≡ old.root → (child : ℕ) → IsLowered old new child → leaf_ranges new ≡ leaf_ranges old
  lowered_leaves is child h =
      same_leaves old new (ap (λ (l : List (List ℕ)). row l 0) h.levels ∙ row_taken old.levels (length old.levels - 1) raised)
      (λ p has. same_page (slot_at old.slots p) (slot_at new.slots p) (h.removed.others p (λ same. low_root (subst (Contains (row old.levels 0)) same has))))
    where
      low_root : Contains (row old.levels 0) old.root → ⊥
      low_root has = one_child h.removed.one.state.body (h.removed.one.key, child) h.removed.one.only (ap is_leaf (sym h.removed.one.is) ∙ leaf_at old.root has)

      raised : 0 < length old.levels - 1
      raised = elim (cases_eq (length old.levels - 1) 0) [
        | inl low ↦
            let top : Contains (row old.levels 0) root = subst (λ n. Contains (row old.levels n) root) low (begins (row old.levels (length old.levels - 1)) lawful.top) in
            absurd (low_root (subst (Contains (row old.levels 0)) is top))
        | inr high ↦ omega (arith, high)
      ]
