-- Index entries of inner pages.
use Rattle.std.proofs.Common.{inl, inr, ◌⊎◌, ◌≡◌, ℕ, zero, suc, Bool, true, false, not, T, List, [], ◌∷◌, Option, Some, None, nat_eq, refl, sym, ap, ◌∙◌, subst, Decides, arith}
use Rattle.std.proofs.lemmas.Bool.Decides.{nat_tests}
use Rattle.std.specs.Borrow.{Bor}
use Rattle.std.specs.FinMap.{is_sorted, put}
use Rattle.std.specs.FinMap.Entries.{below_all, is_sorted-put}
use Rattle.std.specs.List.{Contains}
use Rattle.std.specs.Ordering.{is_eq, is_lt}
use Rattle.bw_key.specs.Order.{KeyBytes, key_cmp, key_cmp_total, key_eq, key_ties}
use Rattle.bw_page.specs.Inners.{InnerView, IsUpto}
use Rattle.bw_page.proofs.KeyLemmas.{below_self, cmp_self, neither_below}
use Rattle.bw_page.proofs.Search.{same_keys}
use Rattle.bw_page.proofs.Truths.{holds, holds_not, left_of, not_holds, right_of}
use Rattle.bw_page.specs.Pages.{below}
use Rattle.bw_delta.proofs.Filters.{kept, was_there}
use Rattle.bw_delta.specs.declared.deltas.Delta.{Delta}
use Rattle.bw_delta.specs.declared.deltas.Delta.TheVariants.{Put, Split, Absorb, Removed, AddChild, DropChild}
use Rattle.bw_level.specs.Changes.{Bases, change}
use Rattle.bw_level.specs.Children.{HasChildAt}
use Rattle.bw_level.specs.Searches.{plain_inner}
use Rattle.bw_level.specs.Slots.{Slot, Body, Pairs, Children, Free, Gone, Live, children_of}
use Rattle.bw_level.specs.Targets.{IsLastEntry}
use Rattle.bw_level.specs.Turns.{IsNoWrite, IsOther, StartsUpto, body_without_writes, over, slot_without_writes}
use Rattle.bw_level.proofs.ChildLemmas.{put_keeps, put_there, put_was}

different : true ≡ false → ⊥
different e = cc

eq_self : (key : KeyBytes) → key_eq key key ≡ true
eq_self key = key_ties key key ∙ ap is_eq (cmp_self key)

-- an entry at the key is among these
abbrev HasAmong : KeyBytes → List (KeyBytes × ℕ) → Type 0
HasAmong key es = (child : ℕ) × Contains es (key, child)

-- where one is, it is the last one whose key isn't above
last_decides : (key : KeyBytes) (es : List (KeyBytes × ℕ)) (e : KeyBytes × ℕ) → IsLastEntry key es e → Decides (key_eq e.0 key) (HasAmong key es)
last_decides key es e last = (yes, no)
  where
    yes : key_eq e.0 key ≡ true → HasAmong key es
    yes same = (e.1, subst (λ (k : KeyBytes). Contains es (k, e.1)) (same_keys e.0 key same) last.named)

    no : HasAmong key es → key_eq e.0 key ≡ true
    no has =
        let upto : IsUpto key e.0 = last.greatest (key, has.0) has.1 (not_holds _ (below_self key)) in
        ap (λ (k : KeyBytes). key_eq k key) (neither_below e.0 key (holds_not _ upto) (holds_not _ last.not_above)) ∙ eq_self key

pub not_false : (b : Bool) → not b ≡ false → b ≡ true
not_false true e = refl
not_false false e = absurd (different e)

pub not_true : (b : Bool) → not b ≡ true → b ≡ false
not_true true e = absurd (different (sym e))
not_true false e = refl

-- a key has one child
pub behind_first : (first : KeyBytes) (es : List (KeyBytes × ℕ)) (x : KeyBytes × ℕ) → T (below_all key_cmp first es) → Contains es x → is_lt (key_cmp first x.0) ≡ true
behind_first first [] x above has = absurd (omega (arith, has.1))
behind_first first (e ∷ es) x above (zero, lt, at) = ap (λ (y : KeyBytes × ℕ). is_lt (key_cmp first y.0)) (sym at) ∙ holds _ (left_of _ _ above)
behind_first first (e ∷ es) x above (suc i, lt, at) = behind_first first es x (right_of _ _ above) (i, omega (arith, lt), at)

pub one_child : (es : List (KeyBytes × ℕ)) (key : KeyBytes) (a b : ℕ) → T (is_sorted key_cmp es) → Contains es (key, a) → Contains es (key, b) → a ≡ b
one_child [] key a b sorted has other = absurd (omega (arith, has.1))
one_child (e ∷ es) key a b sorted (zero, lt, at) (zero, lt2, at2) = ap (λ (y : KeyBytes × ℕ). y.1) (sym at ∙ at2)
one_child (e ∷ es) key a b sorted (zero, lt, at) (suc j, lt2, at2) =
    absurd (different (sym (behind_first e.0 es (key, b) (left_of _ _ sorted) (j, omega (arith, lt2), at2)) ∙ ap (λ (y : KeyBytes × ℕ). is_lt (key_cmp y.0 key)) at ∙ below_self key))
one_child (e ∷ es) key a b sorted (suc i, lt, at) (zero, lt2, at2) =
    absurd (different (sym (behind_first e.0 es (key, a) (left_of _ _ sorted) (i, omega (arith, lt), at)) ∙ ap (λ (y : KeyBytes × ℕ). is_lt (key_cmp y.0 key)) at2 ∙ below_self key))
one_child (e ∷ es) key a b sorted (suc i, lt, at) (suc j, lt2, at2) = one_child es key a b (right_of _ _ sorted) (i, omega (arith, lt), at) (j, omega (arith, lt2), at2)

-- the child at a key is that of the last entry which isn't above it, if that one is at the key
pub last_child : (key : KeyBytes) (es : List (KeyBytes × ℕ)) (e : KeyBytes × ℕ) (child : ℕ) → T (is_sorted key_cmp es) → IsLastEntry key es e → key_eq e.0 key ≡ true → Decides (nat_eq e.1 child) (Contains es (key, child))
last_child key es e child sorted last same = (yes, no)
  where
    there : Contains es (key, e.1)
    there = subst (λ (k : KeyBytes). Contains es (k, e.1)) (same_keys e.0 key same) last.named

    yes : nat_eq e.1 child ≡ true → Contains es (key, child)
    yes is = subst (λ n. Contains es (key, n)) (grind (arith, nat_tests)) there

    no : Contains es (key, child) → nat_eq e.1 child ≡ true
    no has = let one : e.1 ≡ child = one_child es key e.1 child sorted there has in grind (arith, nat_tests)

pub no_child : (key : KeyBytes) (es : List (KeyBytes × ℕ)) (e : KeyBytes × ℕ) (child : ℕ) → IsLastEntry key es e → key_eq e.0 key ≡ false → Decides false (Contains es (key, child))
no_child key es e child last other = (λ yes. absurd (different (sym yes)), λ has. absurd (different (sym ((last_decides key es e last).1 (child, has)) ∙ other)))

-- a split takes the children from its key on
pub split_child : (key sep : KeyBytes) (es : List (KeyBytes × ℕ)) (child : ℕ) (r : Bool) → is_lt (key_cmp key sep) ≡ true → Decides r (Contains es (key, child)) → Decides r (Contains (below sep es) (key, child))
split_child key sep es child r less decides = (
  λ yes. kept (λ (x : KeyBytes × ℕ). is_lt (key_cmp x.0 sep)) es (key, child) (decides.0 yes) less,
  λ has. decides.1 (was_there (λ (x : KeyBytes × ℕ). is_lt (key_cmp x.0 sep)) es (key, child) has).0,
)

pub split_no_child : (key sep : KeyBytes) (es : List (KeyBytes × ℕ)) (child : ℕ) → is_lt (key_cmp key sep) ≡ false → Decides false (Contains (below sep es) (key, child))
split_no_child key sep es child not_less =
    (λ yes. absurd (different (sym yes)), λ has. absurd (different (sym (was_there (λ (x : KeyBytes × ℕ). is_lt (key_cmp x.0 sep)) es (key, child) has).1 ∙ not_less)))

-- an added child is the one at its key, and leaves those at others
pub added_child : (key sep : KeyBytes) (added child : ℕ) (es : List (KeyBytes × ℕ)) → T (is_sorted key_cmp es) → key_eq key sep ≡ true → Decides (nat_eq added child) (Contains (put key_cmp sep added es) (key, child))
added_child key sep added child es sorted same = (yes, no)
  where
    there : Contains (put key_cmp sep added es) (key, added)
    there = subst (λ (k : KeyBytes). Contains (put key_cmp sep added es) (k, added)) (sym (same_keys key sep same)) (put_there sep added es)

    yes : nat_eq added child ≡ true → Contains (put key_cmp sep added es) (key, child)
    yes is = subst (λ n. Contains (put key_cmp sep added es) (key, n)) (grind (arith, nat_tests)) there

    no : Contains (put key_cmp sep added es) (key, child) → nat_eq added child ≡ true
    no has = let one : added ≡ child = one_child (put key_cmp sep added es) key added child (is_sorted-put key_cmp key_cmp_total sep added es sorted) there has in grind (arith, nat_tests)

pub other_child : (key sep : KeyBytes) (added child : ℕ) (es : List (KeyBytes × ℕ)) (r : Bool) → key_eq key sep ≡ false → Decides r (Contains es (key, child)) → Decides r (Contains (put key_cmp sep added es) (key, child))
other_child key sep added child es r other decides = (λ e. by (put_keeps sep added es (key, child) (decides.0 e)), λ has. back (put_was sep added es (key, child) has))
  where
    not_same : key ≡ sep → ⊥
    not_same same = different (sym (ap (λ (k : KeyBytes). key_eq k sep) same ∙ eq_self sep) ∙ other)

    by : Contains (put key_cmp sep added es) (key, child) ⊎ (key ≡ sep) → Contains (put key_cmp sep added es) (key, child)
    by (inl there) = there
    by (inr same) = absurd (not_same same)

    back : Contains es (key, child) ⊎ ◌≡◌ {A = KeyBytes × ℕ} (key, child) (sep, added) → r ≡ true
    back (inl was) = decides.1 was
    back (inr new) = absurd (not_same (ap (λ (x : KeyBytes × ℕ). x.0) new))

-- writes are nothing to children
pub children_alike : (key : KeyBytes) (child : ℕ) (slot other : Slot) (r : Bool) → slot_without_writes slot ≡ slot_without_writes other → Decides r (HasChildAt other key child) → Decides r (HasChildAt slot key child)
children_alike key child slot other r same decides = (
  λ yes. back slot (subst (λ (o : Slot). HasChildAt o key child) (sym same) (bare other (decides.0 yes))),
  λ has. decides.1 (back other (subst (λ (o : Slot). HasChildAt o key child) same (bare slot has))),
)
  where
    bare : (slot : Slot) → HasChildAt slot key child → HasChildAt (slot_without_writes slot) key child
    bare Free h = h
    bare (Gone l) h = h
    bare (Live s) h = by s.body h
      where
        by : (b : Body) → Contains (children_of b) (key, child) → Contains (children_of (body_without_writes b)) (key, child)
        by (Pairs pairs writes) h = h
        by (Children level children) h = h

    back : (slot : Slot) → HasChildAt (slot_without_writes slot) key child → HasChildAt slot key child
    back Free h = h
    back (Gone l) h = h
    back (Live s) h = by s.body h
      where
        by : (b : Body) → Contains (children_of (body_without_writes b)) (key, child) → Contains (children_of b) (key, child)
        by (Pairs pairs writes) h = h
        by (Children level children) h = h

pub over_child : (key : KeyBytes) (child : ℕ) (bases : Bases) (o : Option (Bor Delta)) (at : Bor Delta) (delta : Delta) (slot : Slot) (r : Bool) → o ≡ Some at → at.now ≡ delta → Decides r (HasChildAt (change bases delta slot) key child) → Decides r (HasChildAt (over bases o slot) key child)
over_child key child bases o at delta slot r some is decides =
    subst (λ (x : Option (Bor Delta)). Decides r (HasChildAt (over bases x slot) key child)) (sym some)
    (subst (λ (d : Delta). Decides r (HasChildAt (change bases d slot) key child)) (sym is) decides)

-- nor to where a page begins
pub starts_alike : (key : KeyBytes) (slot other : Slot) → slot_without_writes slot ≡ slot_without_writes other → StartsUpto slot key → StartsUpto other key
starts_alike key slot other same starts = has_bare_start other (subst (λ (o : Slot). StartsUpto o key) same (bare_start slot starts))
  where
    bare_start : (slot : Slot) → StartsUpto slot key → StartsUpto (slot_without_writes slot) key
    bare_start Free h = h
    bare_start (Gone l) h = h
    bare_start (Live s) h = h

    has_bare_start : (slot : Slot) → StartsUpto (slot_without_writes slot) key → StartsUpto slot key
    has_bare_start Free h = h
    has_bare_start (Gone l) h = h
    has_bare_start (Live s) h = h

-- and a change under writes leaves where an inner page begins
pub starts_under : (key : KeyBytes) (bases : Bases) (d : Option (Bor Delta)) (inner : InnerView) → IsNoWrite d → StartsUpto (over bases d (plain_inner inner)) key → IsUpto inner.low key
starts_under key bases None inner none starts = starts
starts_under key bases (Some d) inner none starts = by d.now none starts
  where
    by : (d : Delta) → IsOther d → StartsUpto (change bases d (plain_inner inner)) key → IsUpto inner.low key
    by (Put w) h starts = absurd h
    by (Split k to) h starts = starts
    by (Absorb base side) h starts = starts
    by (Removed left) h starts = absurd h
    by (AddChild k child) h starts = starts
    by (DropChild k) h starts = starts
