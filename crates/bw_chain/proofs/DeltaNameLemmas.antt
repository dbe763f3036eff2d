-- What a delta of a page's chain names, the page's side link or one of its index entries names.
use Rattle.std.proofs.Common.{inl, inr, ◌⊎◌, ◌≡◌, ℕ, zero, suc, true, false, List, [], ◌∷◌, length, Option, Some, None, refl, sym, ap, ◌∙◌, subst, arith}
use Rattle.std.specs.FinMap.{put}
use Rattle.std.specs.List.{Contains}
use Rattle.bw_key.specs.Order.{KeyBytes}
use Rattle.bw_page.specs.declared.pages.RemovedPage.{RemovedPage}
use Rattle.bw_delta.specs.Writes.{WriteView}
use Rattle.bw_delta.specs.declared.deltas.Delta.{Delta}
use Rattle.bw_delta.specs.declared.deltas.Delta.TheVariants.{Put, Split, Absorb, Removed, AddChild, DropChild}
use Rattle.bw_level.specs.Changes.{Bases, body_below, body_with_child, body_written, change, page_changed}
use Rattle.bw_level.specs.Slots.{Slot, PageState, Body, Pairs, Children, Free, Gone, Live, body_is_leaf, children_of, is_leaf, side_of_slot}
use Rattle.bw_level.proofs.ChildLemmas.{put_there}
use Rattle.bw_chain.specs.Chains.{IsShaped, changed}
use Rattle.bw_chain.specs.DeltaNames.{page_named}

-- the page's side link or one of its index entries names this page
abbrev pub Names : PageState → ℕ → Type 0
Names s p = (s.side ≡ Some p) ⊎ ((k : KeyBytes) × Contains (children_of s.body) (k, p))

no_page : {s : PageState} → Free ≡ Live s → ⊥
no_page e = cc

not_removed : {s : PageState} {l : RemovedPage} → Gone l ≡ Live s → ⊥
not_removed e = cc

one_state : {s t : PageState} → Live s ≡ Live t → s ≡ t
one_state e = cc

none : {p : ℕ} → ◌≡◌ {A = Option ℕ} None (Some p) → ⊥
none e = cc

different : true ≡ false → ⊥
different e = cc

in_rest : (x d : Delta) (ds : List Delta) → Contains (x ∷ ds) d → (x ≡ d) ⊎ Contains ds d
in_rest x d ds (zero, lt, at) = inl at
in_rest x d ds (suc i, lt, at) = inr (i, omega (arith, lt), at)

-- the one delta of a list
only : (x d : Delta) (ds : List Delta) → ds ≡ [] → Contains (x ∷ ds) d → x ≡ d
only x d ds last has = by (in_rest x d ds has)
  where
    by : (x ≡ d) ⊎ Contains ds d → x ≡ d
    by (inl same) = same
    by (inr more) = absurd (omega (arith, more.1, ap length last))

-- a write over a page leaves what it names
module _ (w : WriteView) (p : ℕ) where
  same_children : (b : Body) → children_of (body_written w b) ≡ children_of b
  same_children (Pairs pairs writes) = refl
  same_children (Children level children) = refl

  abbrev written : PageState → PageState
  written s = record s { body = body_written w s.body }

  still_names : (s : PageState) → Names s p → Names (written s) p
  still_names s (inl side) = inl side
  still_names s (inr child) = inr (child.0, subst (λ (l : List (KeyBytes × ℕ)). Contains l (child.0, p)) (sym (same_children s.body)) child.1)

  under_write : (slot : Slot) (t : PageState) → page_changed written slot ≡ Live t → ((s : PageState) → slot ≡ Live s → Names s p) → Names t p
  under_write Free t is names = absurd (no_page is)
  under_write (Gone l) t is names = absurd (not_removed is)
  under_write (Live s) t is names = subst (λ u. Names u p) (one_state is) (still_names s (names s refl))

-- a split names the page's right neighbour
split_side : (k : KeyBytes) (to : ℕ) (slot : Slot) (t : PageState) → page_changed (λ s. record s { high = Some k; side = Some to; body = body_below k s.body }) slot ≡ Live t → t.side ≡ Some to
split_side k to Free t is = absurd (no_page is)
split_side k to (Gone l) t is = absurd (not_removed is)
split_side k to (Live s) t is = sym (ap (λ (u : PageState). u.side) (one_state is))

-- an inner page that got a child names it
with_child : (k : KeyBytes) (child : ℕ) (b : Body) → body_is_leaf b ≡ false → Contains (children_of (body_with_child k child b)) (k, child)
with_child k child (Pairs pairs writes) inner = absurd (different inner)
with_child k child (Children level children) inner = put_there k child children

child_named : (k : KeyBytes) (child : ℕ) (slot : Slot) (t : PageState) → is_leaf slot ≡ false → page_changed (λ s. record s { body = body_with_child k child s.body }) slot ≡ Live t → Contains (children_of t.body) (k, child)
child_named k child Free t inner is = absurd (no_page is)
child_named k child (Gone l) t inner is = absurd (not_removed is)
child_named k child (Live s) t inner is = subst (λ (u : PageState). Contains (children_of u.body) (k, child)) (one_state is) (with_child k child s.body inner)

pub delta_named : (bases : Bases) (base : Slot) (ds : List Delta) (d : Delta) (p : ℕ) (t : PageState) → IsShaped base ds → Contains ds d → page_named d ≡ Some p → changed bases ds base ≡ Live t → Names t p
delta_named bases base [] d p t shaped has names is = absurd (omega (arith, has.1))
delta_named bases base (Put w ∷ ds) d p t shaped has names is =
    by (in_rest (Put w) d ds has) (λ more s at. delta_named bases base ds d p s shaped more names at)
  where
    by : (Put w ≡ d) ⊎ Contains ds d → (Contains ds d → (s : PageState) → changed bases ds base ≡ Live s → Names s p) → Names t p
    by (inl same) rest = absurd (none (ap page_named same ∙ names))
    by (inr more) rest = under_write w p (changed bases ds base) t is (rest more)
delta_named bases base (Split k to ∷ ds) d p t shaped has names is =
    inl (split_side k to (changed bases ds base) t is ∙ ap page_named (only (Split k to) d ds shaped has) ∙ names)
delta_named bases base (Absorb number side ∷ ds) d p t shaped has names is =
    let base_is : base ≡ Live t = subst (λ (l : List Delta). changed bases l base ≡ Live t) shaped.0 is in
    inl (sym (ap side_of_slot base_is) ∙ sym shaped.1 ∙ ap page_named (only (Absorb number side) d ds shaped.0 has) ∙ names)
delta_named bases base (Removed left ∷ ds) d p t shaped has names is = absurd shaped
delta_named bases base (AddChild k child ∷ ds) d p t shaped has names is =
    let added : change bases (AddChild k child) base ≡ Live t = subst (λ (l : List Delta). change bases (AddChild k child) (changed bases l base) ≡ Live t) shaped.0 is in
    let same : Some child ≡ Some p = ap page_named (only (AddChild k child) d ds shaped.0 has) ∙ names in
    inr (k, subst (λ n. Contains (children_of t.body) (k, n)) (one same) (child_named k child base t shaped.1 added))
  where
    one : {x y : ℕ} → Some x ≡ Some y → x ≡ y
    one e = cc
delta_named bases base (DropChild k ∷ ds) d p t shaped has names is = absurd (none (ap page_named (only (DropChild k) d ds shaped has) ∙ names))
