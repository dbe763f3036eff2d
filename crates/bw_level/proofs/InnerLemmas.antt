-- Inner pages as they stand.
use Rattle.std.proofs.Common.{◌≡◌, ℕ, ◌<◌, Bool, true, false, not, T, List, [], ◌∷◌, length, Option, Some, None, is_some, refl, sym, ap, subst, arith}
use Rattle.std.specs.Borrow.{Bor}
use Rattle.std.specs.FinMap.{put}
use Rattle.std.specs.FinMap.Entries.{by_order}
use Rattle.std.specs.List.{list_all}
use Rattle.std.specs.Option.{option_map}
use Rattle.std.specs.declared.cmp.Ordering.{Ordering}
use Rattle.std.specs.declared.cmp.Ordering.TheVariants.{Less, Equal, Greater}
use Rattle.bw_delta.specs.declared.deltas.Delta.{Delta}
use Rattle.bw_delta.specs.declared.deltas.Delta.TheVariants.{Put, Split, Absorb, Removed, AddChild, DropChild}
use Rattle.bw_key.specs.Order.{KeyBytes, key_cmp}
use Rattle.bw_model.specs.Contents.{is_in_range, is_pair_in_range}
use Rattle.bw_page.proofs.KeyLemmas.{keys_tie}
use Rattle.bw_page.proofs.Truths.{left_of, right_of}
use Rattle.bw_page.specs.Inners.{InnerView, IsInner}
use Rattle.bw_page.specs.Pages.{BeginsAt}
use Rattle.bw_level.specs.Changes.{Bases, change}
use Rattle.bw_level.specs.Slots.{Slot, Body, Pairs, Children, Free, Gone, Live, IsSoundBody, IsSoundInner, body_is_leaf}
use Rattle.bw_level.specs.Searches.{plain_inner}
use Rattle.bw_level.specs.Turns.{IsNoWrite, IsOther, body_without_writes, over, slot_without_writes}

abbrev pub is_inner : Slot → Bool
is_inner Free = false
is_inner (Gone l) = false
is_inner (Live s) = not (body_is_leaf s.body)

pub inner_is : {slot : Slot} (inner : InnerView) → slot ≡ plain_inner inner → is_inner slot ≡ true
inner_is inner is = ap is_inner is

-- nothing comes of nothing
pub none_mapped : {X Y : Type 0} (f : X → Y) (o : Option X) → false ≡ is_some o → option_map f o ≡ None
none_mapped f None none = refl
none_mapped f (Some x) none = absurd (different none)
  where
    different : false ≡ true → ⊥
    different e = cc

-- an inner page has a child
pub some_child : (inner : InnerView) → IsInner inner.level inner.low inner.high inner.side inner.children → 0 < length inner.children
some_child inner rules = by inner.children rules.begins
  where
    by : (children : List (KeyBytes × ℕ)) → BeginsAt inner.low children → 0 < length children
    by [] begins = absurd begins
    by (child ∷ children) begins = omega arith

no_leaf : true ≡ false → ⊥
no_leaf e = cc

-- writes are nothing to an inner page
pub bare_inner : (slot : Slot) → IsSoundInner slot → IsSoundInner (slot_without_writes slot)
bare_inner Free h = h
bare_inner (Gone l) h = h
bare_inner (Live s) h = by s.body h
  where
    by : (b : Body) → (body_is_leaf b ≡ false) × IsSoundBody s.low s.high s.side b → (body_is_leaf (body_without_writes b) ≡ false) × IsSoundBody s.low s.high s.side (body_without_writes b)
    by (Pairs pairs writes) h = absurd (no_leaf h.0)
    by (Children level children) h = h

pub inner_bare : (slot : Slot) → IsSoundInner (slot_without_writes slot) → IsSoundInner slot
inner_bare Free h = h
inner_bare (Gone l) h = h
inner_bare (Live s) h = by s.body h
  where
    by : (b : Body) → (body_is_leaf (body_without_writes b) ≡ false) × IsSoundBody s.low s.high s.side (body_without_writes b) → (body_is_leaf b ≡ false) × IsSoundBody s.low s.high s.side b
    by (Pairs pairs writes) h = absurd (no_leaf h.0)
    by (Children level children) h = h

-- a change that may lie under the writes is one whatever the other base pages are
pub over_any : (bases other : Bases) (d : Option (Bor Delta)) (slot : Slot) → IsNoWrite d → over bases d slot ≡ over other d slot
over_any bases other None slot none = refl
over_any bases other (Some d) slot none = by d.now none
  where
    by : (d : Delta) → IsOther d → change bases d slot ≡ change other d slot
    by (Put w) h = absurd h
    by (Split k to) h = refl
    by (Absorb base side) h = refl
    by (Removed left) h = absurd h
    by (AddChild k child) h = refl
    by (DropChild k) h = refl

-- what was put among entries of a range lies in it
pub put_in_range : {X : Type 0} (low : KeyBytes) (high : Option KeyBytes) (k : KeyBytes) (v : X) (es : List (KeyBytes × X)) → T (list_all (is_pair_in_range low high) (put key_cmp k v es)) → T (is_in_range low high k)
put_in_range low high k v [] h = left_of _ _ h
put_in_range low high k v (e ∷ es) h = by (key_cmp k e.0) refl h (put_in_range low high k v es)
  where
    by : (o : Ordering) → key_cmp k e.0 ≡ o → T (list_all (is_pair_in_range low high) (by_order o ((k, v) ∷ e ∷ es) ((e.0, v) ∷ es) (e ∷ put key_cmp k v es))) → (T (list_all (is_pair_in_range low high) (put key_cmp k v es)) → T (is_in_range low high k)) → T (is_in_range low high k)
    by Less is h more = left_of _ _ h
    by Equal is h more = subst (λ (x : KeyBytes). T (is_in_range low high x)) (sym (keys_tie k e.0 is)) (left_of _ _ h)
    by Greater is h more = more (right_of _ _ h)
