-- The leaves that were consolidated take the places of their chains, one after another.
use Rattle.std.proofs.Common.{inl, inr, ◌⊎◌, ◌≡◌, ℕ, zero, suc, ◌<◌, Bool, true, false, List, [], ◌∷◌, ◌++◌, length, map, Option, None, Some, is_some, get_or, take, refl, sym, ap, ◌∙◌, subst, arith}
use Rattle.std.proofs.lemmas.Bool.{cases_eq}
use Rattle.std.proofs.lemmas.List.Elements.{Contains-append_cases, Contains-append_right}
use Rattle.std.specs.List.{AllByRecursion, Contains}
use Rattle.bw_key.specs.Order.{KeyBytes}
use Rattle.bw_model.specs.Contents.{Contents, pairs_of_range}
use Rattle.bw_model.specs.Values.{ValueBytes}
use Rattle.bw_page.specs.Leaves.{LeafView}
use Rattle.bw_level.specs.Before.{low_of}
use Rattle.bw_level.specs.Levels.{row}
use Rattle.bw_level.specs.Scans.{high_of}
use Rattle.bw_level.specs.Slots.{side_of_slot, slot_at}
use Rattle.bw_tree.specs.Consolidation.{IsConsolidated}
use Rattle.bw_tree.specs.Making.{leaf_slot}
use Rattle.bw_look.specs.PageStates.{leaf_as_of}
use Rattle.bw_look.specs.View.{TreeView, contents_at}
use Rattle.bw_shape.specs.Limits.{AreWithinBut, IsWithin, LimitsView}
use Rattle.bw_shape.specs.Sweeps.{HoldsSame}
use Rattle.bw_shape.specs.Tidying.{AreAmong}
use Rattle.bw_shape.proofs.TidyLemmas.{among_longer}
use Rattle.bw_tidy.specs.Findings.{AreListed, ArePut, FitsAt, IsLeafAt, IsFinding, IsListed, IsPutBy}
use Rattle.bw_tidy.specs.declared.findings.Finding.{Finding}

different : true ≡ false → ⊥
different e = cc

abbrev leaf_with : Contents ValueBytes → KeyBytes → Option KeyBytes → Option ℕ → LeafView ValueBytes
leaf_with m low high side = record { low = low; high = high; side = side; pairs = pairs_of_range m low high }

-- what a chain makes of a leaf, where the tree holds the same
pub same_leaf : (old new : TreeView) → HoldsSame old new → (p : ℕ) → leaf_as_of new p new.next ≡ leaf_as_of old p old.next
same_leaf old new same p =
    let bounds = same.bounds p in
    ap (λ (m : Contents ValueBytes). leaf_with m (low_of (slot_at new.slots p)) (high_of (slot_at new.slots p)) (side_of_slot (slot_at new.slots p))) same.contents
    ∙ ap (λ (k : KeyBytes). leaf_with (contents_at old old.next) k (high_of (slot_at new.slots p)) (side_of_slot (slot_at new.slots p))) bounds.low
    ∙ ap (λ (h : Option KeyBytes). leaf_with (contents_at old old.next) (low_of (slot_at old.slots p)) h (side_of_slot (slot_at new.slots p))) bounds.high
    ∙ ap (λ (s : Option ℕ). leaf_with (contents_at old old.next) (low_of (slot_at old.slots p)) (high_of (slot_at old.slots p)) s) bounds.side

-- so a leaf that was consolidated may take the place of its chain still
pub leaf_still : (old new : TreeView) → HoldsSame old new → (p : ℕ) (o : Option (LeafView ValueBytes)) → IsLeafAt old old.next p o → IsLeafAt new new.next p o
leaf_still old new same p None at = tt
leaf_still old new same p (Some leaf) at = (subst (λ (l : List (List ℕ)). Contains (row l 0) p) (sym same.levels) at.0, at.1 ∙ sym (same_leaf old new same p))

-- no leaf
pub put_none : (tree : TreeView) → ArePut tree tree []
put_none tree = record { put = λ p at. absurd at; others = λ p not. refl }

-- one finding, which has no leaf
pub put_still : (tree : TreeView) (finding : Finding) → finding.leaf ≡ None → ArePut tree tree (finding ∷ [])
put_still tree finding none = record {
  put = λ p at. absurd (by p at);
  others = λ p not. refl;
}
  where
    by : (p : ℕ) → IsPutBy (finding ∷ []) p → ⊥
    by p (inl (here, some)) = different (sym some ∙ ap is_some none)
    by p (inr none_at) = none_at

-- one finding, whose leaf takes the place of its chain
pub put_one : (old new : TreeView) (finding : Finding) → is_some finding.leaf ≡ true → IsConsolidated old new finding.page → ArePut old new (finding ∷ [])
put_one old new finding some k = record { put = put; others = λ p not. k.others p (λ same. not (inl (sym same, some))) }
  where
    put : (p : ℕ) → IsPutBy (finding ∷ []) p → slot_at new.slots p ≡ leaf_slot (leaf_as_of old p old.next)
    put p (inl (here, is)) = subst (λ q. slot_at new.slots q ≡ leaf_slot (leaf_as_of old q old.next)) here k.page
    put p (inr none_at) = absurd none_at

put_left : (findings more : List Finding) (p : ℕ) → IsPutBy findings p → IsPutBy (findings ++ more) p
put_left [] more p at = absurd at
put_left (finding ∷ findings) more p (inl here) = inl here
put_left (finding ∷ findings) more p (inr at) = inr (put_left findings more p at)

put_right : (findings more : List Finding) (p : ℕ) → IsPutBy more p → IsPutBy (findings ++ more) p
put_right [] more p at = at
put_right (finding ∷ findings) more p at = inr (put_right findings more p at)

put_either : (findings more : List Finding) (p : ℕ) → IsPutBy (findings ++ more) p → IsPutBy findings p ⊎ IsPutBy more p
put_either [] more p at = inr at
put_either (finding ∷ findings) more p (inl here) = inl (inl here)
put_either (finding ∷ findings) more p (inr at) = elim (put_either findings more p at) [
  | inl before ↦ inl (inr before)
  | inr behind ↦ inr behind
]

cases_some : (o : Option (LeafView ValueBytes)) → (is_some o ≡ true) ⊎ (o ≡ None)
cases_some None = inr refl
cases_some (Some leaf) = inl refl

-- whether a leaf of a page was consolidated
pub cases_put : (findings : List Finding) (p : ℕ) → IsPutBy findings p ⊎ (IsPutBy findings p → ⊥)
cases_put [] p = inr (λ at. at)
cases_put (finding ∷ findings) p = elim (cases_put findings p) [
  | inl at ↦ inl (inr at)
  | inr not ↦ elim (cases_eq finding.page p) [
    | inr other ↦ inr (λ at. elim at [ inl here ↦ other here.0 | inr there ↦ not there ])
    | inl here ↦ elim (cases_some finding.leaf) [
      | inl some ↦ inl (inl (here, some))
      | inr none ↦ inr (λ at. elim at [ inl has ↦ different (sym has.1 ∙ ap is_some none) | inr there ↦ not there ])
    ]
  ]
]

-- one finding more
pub put_more : (first old new : TreeView) (findings more : List Finding) → HoldsSame first old → ArePut first old findings → ArePut old new more → ArePut first new (findings ++ more)
put_more first old new findings more same before now = record { put = put; others = others }
  where
    by : (p : ℕ) → IsPutBy findings p ⊎ IsPutBy more p → IsPutBy more p ⊎ (IsPutBy more p → ⊥) → slot_at new.slots p ≡ leaf_slot (leaf_as_of first p first.next)
    by p either (inl at) = now.put p at ∙ ap leaf_slot (same_leaf first old same p)
    by p (inl at) (inr not) = now.others p not ∙ before.put p at
    by p (inr at) (inr not) = absurd (not at)

    put : (p : ℕ) → IsPutBy (findings ++ more) p → slot_at new.slots p ≡ leaf_slot (leaf_as_of first p first.next)
    put p at = by p (put_either findings more p at) (cases_put more p)

    others : (p : ℕ) → (IsPutBy (findings ++ more) p → ⊥) → slot_at new.slots p ≡ slot_at first.slots p
    others p not = now.others p (λ at. not (put_right findings more p at)) ∙ before.others p (λ at. not (put_left findings more p at))

-- a finding at the page whose leaf was consolidated
put_by : (findings : List Finding) (p : ℕ) → IsPutBy findings p → (finding : Finding) × Contains findings finding × (finding.page ≡ p) × (is_some finding.leaf ≡ true)
put_by [] p at = absurd at
put_by (finding ∷ findings) p (inl here) = (finding, (0, omega arith, refl), here.0, here.1)
put_by (finding ∷ findings) p (inr at) =
    let rest = put_by findings p at in
    (rest.0, (suc rest.1.0, omega (arith, rest.1.1), rest.1.2), rest.2, rest.3)

-- a finding at the page without such a leaf
not_put_by : (findings : List Finding) (p : ℕ) → (IsPutBy findings p → ⊥) → Contains (map (λ finding. finding.page) findings) p → (finding : Finding) × Contains findings finding × (finding.page ≡ p) × (finding.leaf ≡ None)
not_put_by [] p not has = absurd (omega (arith, has.1))
not_put_by (finding ∷ findings) p not (zero, lt, here) = elim (cases_some finding.leaf) [
  | inl some ↦ absurd (not (inl (here, some)))
  | inr none ↦ (finding, (0, omega arith, refl), here, none)
]
not_put_by (finding ∷ findings) p not (suc n, lt, there) =
    let rest = not_put_by findings p (λ at. not (inr at)) (n, omega (arith, lt), there) in
    (rest.0, (suc rest.1.0, omega (arith, rest.1.1), rest.1.2), rest.2, rest.3)

each_of : (P : Finding → Type 0) (findings : List Finding) (finding : Finding) → AllByRecursion P findings → Contains findings finding → P finding
each_of P [] finding all has = absurd (omega (arith, has.1))
each_of P (x ∷ xs) finding all (zero, lt, here) = subst P here all.0
each_of P (x ∷ xs) finding all (suc n, lt, there) = each_of P xs finding all.1 (n, omega (arith, lt), there)

-- what holds at each place of a list
pub all_each : (P : Finding → Type 0) (findings : List Finding) → ((i : ℕ) (d : Finding) → i < length findings → P (get_or findings i d)) → AllByRecursion P findings
all_each P [] each = tt
all_each P (x ∷ xs) each = (each 0 x (omega arith), all_each P xs (λ i d lt. each (suc i) d (omega (arith, lt))))

-- findings at the same pages, one after another
pub same_pages : (xs ys : List Finding) → length ys ≡ length xs → ((i : ℕ) (d : Finding) → i < length xs → (get_or ys i d).page ≡ (get_or xs i d).page) → map (λ finding. finding.page) ys ≡ map (λ finding. finding.page) xs
same_pages [] [] len at = refl
same_pages [] (y ∷ ys) len at = absurd (omega (arith, len))
same_pages (x ∷ xs) [] len at = absurd (omega (arith, len))
same_pages (x ∷ xs) (y ∷ ys) len at =
    ap (λ p. p ∷ map (λ finding. finding.page) ys) (at 0 x (omega arith))
    ∙ ap (λ ps. x.page ∷ ps) (same_pages xs ys (omega (arith, len)) (λ i d lt. at (suc i) d (omega (arith, lt))))

-- what holds of the first findings, and of the next one
pub all_next : (P : Finding → Type 0) (findings : List Finding) (i : ℕ) (d : Finding) → i < length findings → AllByRecursion P (take i findings) → P (get_or findings i d) → AllByRecursion P (take (suc i) findings)
all_next P [] i d lt all next = absurd (omega (arith, lt))
all_next P (x ∷ xs) zero d lt all next = (next, tt)
all_next P (x ∷ xs) (suc i) d lt all next = (all.0, all_next P xs i d (omega (arith, lt)) all.1 next)

-- a page that is added to both lists
pub among_both : (begun pages : List ℕ) (page : ℕ) → AreAmong begun pages → AreAmong (begun ++ page ∷ []) (pages ++ page ∷ [])
among_both begun pages page among p has = elim (Contains-append_cases begun (page ∷ []) p has) [
  | inl before ↦ among_longer begun pages page among p before
  | inr last ↦ Contains-append_right pages (page ∷ []) p last
]

-- longer lists have the pages that are due, too
pub still_listed : (pages begun pages' begun' : List ℕ) (findings : List Finding) → AreAmong pages pages' → AreAmong begun begun' → AreListed pages begun findings → AreListed pages' begun' findings
still_listed pages begun pages' begun' [] more more' listed = tt
still_listed pages begun pages' begun' (x ∷ xs) more more' listed =
    (record { due = λ due. more x.page (listed.0.due due); leaf = λ due leaf. more' x.page (listed.0.leaf due leaf) }, still_listed pages begun pages' begun' xs more more' listed.1)

module _ (limits : LimitsView) (old new : TreeView) (findings : List Finding) (due due' : List ℕ)
    (of_due : map (λ finding. finding.page) findings ≡ due) (looked : AllByRecursion (IsFinding old limits old.next) findings)
    (begun : List ℕ) (listed : AreListed due' begun findings)
    (same : HoldsSame old new) (put : ArePut old new findings) (but : AreWithinBut limits old due) where
  consolidated : (p : ℕ) → Contains (row old.levels 0) p → IsPutBy findings p → Contains due' p ⊎ IsWithin limits (slot_at new.slots p)
  consolidated p leaf at =
      let found = put_by findings p at in
      let finding : Finding = found.0 in
      let is : IsFinding old limits old.next finding = each_of (IsFinding old limits old.next) findings finding looked found.1 in
      by finding.leaf (subst (λ q. IsLeafAt old old.next q finding.leaf) found.2 is.leaf) (λ none. subst (λ q. FitsAt old limits q finding.leaf) found.2 (is.fits none)) found.3 (λ more. subst (Contains due') found.2 ((each_of (IsListed due' begun) findings finding listed found.1).due more)) (cases_bool finding.is_due)
    where
      cases_bool : (b : Bool) → (b ≡ true) ⊎ (b ≡ false)
      cases_bool true = inl refl
      cases_bool false = inr refl

      by : {b : Bool} (o : Option (LeafView ValueBytes)) → IsLeafAt old old.next p o → (b ≡ false → FitsAt old limits p o) → is_some o ≡ true → (b ≡ true → Contains due' p) → (b ≡ true) ⊎ (b ≡ false) → Contains due' p ⊎ IsWithin limits (slot_at new.slots p)
      by o is fits some listed (inl due) = inl (listed due)
      by None is fits some listed (inr none) = absurd (different (sym some))
      by (Some l) is fits some listed (inr none) =
          inr (subst (IsWithin limits) (sym (put.put p at ∙ ap leaf_slot (sym is.1))) (omega arith, fits none))

  still : (p : ℕ) → Contains (row old.levels 0) p → (IsPutBy findings p → ⊥) → Contains due' p ⊎ IsWithin limits (slot_at new.slots p)
  still p leaf not = elim (but p leaf) [
    | inr within ↦ inr (subst (IsWithin limits) (sym (put.others p not)) within)
    | inl has ↦
        let found = not_put_by findings p not (subst (λ (l : List ℕ). Contains l p) (sym of_due) has) in
        let finding : Finding = found.0 in
        let is : IsFinding old limits old.next finding = each_of (IsFinding old limits old.next) findings finding looked found.1 in
        by finding.is_due finding.leaf found.3 (λ more. subst (Contains due') found.2 ((each_of (IsListed due' begun) findings finding listed found.1).due more)) (λ none. subst (λ q. FitsAt old limits q finding.leaf) found.2 (is.fits none))
  ]
    where
      by : (b : Bool) (o : Option (LeafView ValueBytes)) → o ≡ None → (b ≡ true → Contains due' p) → (b ≡ false → FitsAt old limits p o) → Contains due' p ⊎ IsWithin limits (slot_at new.slots p)
      by true o none listed fits = inl (listed refl)
      by false o none listed fits = inr (subst (IsWithin limits) (sym (put.others p not)) (subst (FitsAt old limits p) none (fits refl) leaf))

  -- each leaf that is not due any more is within the limits
  pub put_within : AreWithinBut limits new due'
  put_within p leaf =
      let was : Contains (row old.levels 0) p = subst (λ (l : List (List ℕ)). Contains (row l 0) p) same.levels leaf in
      elim (cases_put findings p) [
        | inl at ↦ consolidated p was at
        | inr not ↦ still p was not
      ]
