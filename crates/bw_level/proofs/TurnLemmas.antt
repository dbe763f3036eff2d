-- Where a search goes on from a page.
use Rattle.std.proofs.Common.{inl, inr, ◌⊎◌, ◌≡◌, ℕ, Bool, true, false, not, List, [], Option, Some, None, MatchOption, refl, sym, ap, ◌∙◌, subst}
use Rattle.std.specs.List.{Contains}
use Rattle.std.specs.Ordering.{is_lt}
use Rattle.bw_key.specs.Order.{KeyBytes, key_cmp}
use Rattle.bw_model.specs.Contents.{is_below_end}
use Rattle.bw_page.specs.Inners.{IsLastUpto, is_upto}
use Rattle.bw_page.proofs.Truths.{holds}
use Rattle.bw_page.proofs.KeyLemmas.{below_upto, upto_below}
use Rattle.bw_page.specs.Pages.{below}
use Rattle.bw_page.specs.declared.pages.RemovedPage.{RemovedPage}
use Rattle.bw_delta.proofs.Filters.{kept, was_there}
use Rattle.bw_delta.specs.declared.deltas.Delta.{Delta}
use Rattle.bw_delta.specs.declared.deltas.Delta.TheVariants.{Split, Absorb, AddChild, DropChild}
use Rattle.bw_level.specs.declared.turns.Turn.{Turn}
use Rattle.bw_level.specs.declared.turns.Turn.TheVariants.{Here, Right, Down, Left}
use Rattle.bw_level.specs.declared.target.Target.{Target}
use Rattle.bw_level.specs.Slots.{Slot, PageState, Body, Pairs, Children, Free, Gone, Live, level_of, children_of, side_of_slot}
use Rattle.bw_level.specs.Changes.{Bases, change, body_below}
use Rattle.bw_level.specs.Scans.{high_of}
use Rattle.bw_level.specs.Turns.{IsTurn, IsWithin, slot_without_writes, body_without_writes}
use Rattle.bw_level.specs.Targets.{IsLinked, IsTurnFor, IsWithinFor, SeparatorsAgree, StandsFor, StandsOn, lies_from, lies_past}
use Rattle.bw_level.proofs.ChangeLemmas.{as_it_is}
use Rattle.bw_level.proofs.TargetLemmas.{holds_not, lies_no_more}

different : false ≡ true → ⊥
different e = cc

no_next : {q : ℕ} → None ≡ Some q → ⊥
no_next e = cc

-- a turn depends on what lies under the writes
turn_bare : (slot : Slot) (key : KeyBytes) (t : Turn) → IsTurn (slot_without_writes slot) key t → IsTurn slot key t
turn_bare Free key t h = h
turn_bare (Gone l) key t h = by t h
  where
    by : (t : Turn) → IsTurn (Gone l) key t → IsTurn (Gone l) key t
    by t h = h
turn_bare (Live s) key Here h = (h.0, by s.body h.1)
  where
    by : (b : Body) → level_of (body_without_writes b) ≡ 0 → level_of b ≡ 0
    by (Pairs pairs writes) e = e
    by (Children level children) e = e
turn_bare (Live s) key (Right q) h = h
turn_bare (Live s) key (Down c) h = (h.0, by s.body h.1)
  where
    by : (b : Body) → IsLastUpto key (children_of (body_without_writes b)) c → IsLastUpto key (children_of b) c
    by (Pairs pairs writes) e = e
    by (Children level children) e = e
turn_bare (Live s) key (Left l) h = h

bare_turn : (slot : Slot) (key : KeyBytes) (t : Turn) → IsTurn slot key t → IsTurn (slot_without_writes slot) key t
bare_turn Free key t h = h
bare_turn (Gone l) key t h = h
bare_turn (Live s) key Here h = (h.0, by s.body h.1)
  where
    by : (b : Body) → level_of b ≡ 0 → level_of (body_without_writes b) ≡ 0
    by (Pairs pairs writes) e = e
    by (Children level children) e = e
bare_turn (Live s) key (Right q) h = h
bare_turn (Live s) key (Down c) h = (h.0, by s.body h.1)
  where
    by : (b : Body) → IsLastUpto key (children_of b) c → IsLastUpto key (children_of (body_without_writes b)) c
    by (Pairs pairs writes) e = e
    by (Children level children) e = e
bare_turn (Live s) key (Left l) h = h

-- and so does whether a key stands for what is sought
bare_children : (b : Body) → children_of (body_without_writes b) ≡ children_of b
bare_children (Pairs pairs writes) = refl
bare_children (Children level children) = refl

stands_bare : (target : Target) (slot : Slot) (key : KeyBytes) → StandsOn target key slot → StandsOn target key (slot_without_writes slot)
stands_bare target Free key h = h
stands_bare target (Gone l) key h = h
stands_bare target (Live s) key h = subst (λ (cs : List (KeyBytes × ℕ)). StandsFor target key s.high cs) (sym (bare_children s.body)) h

bare_stands : (target : Target) (slot : Slot) (key : KeyBytes) → StandsOn target key (slot_without_writes slot) → StandsOn target key slot
bare_stands target Free key h = h
bare_stands target (Gone l) key h = h
bare_stands target (Live s) key h = subst (λ (cs : List (KeyBytes × ℕ)). StandsFor target key s.high cs) (bare_children s.body) h

-- pages that are alike but for the writes have the same turns
pub turns_alike : (target : Target) (slot other : Slot) (t : Turn) → slot_without_writes slot ≡ slot_without_writes other → IsTurnFor target other t → IsTurnFor target slot t
turns_alike target slot other t same turned = λ key stands.
    turn_bare slot key t (subst (λ (o : Slot). IsTurn o key t) (sym same)
    (bare_turn other key t (turned key (bare_stands target other key (subst (λ (o : Slot). StandsOn target key o) same (stands_bare target slot key stands))))))

gone_turn : (l : RemovedPage) (key : KeyBytes) (t : Turn) → IsWithin (Gone l) key t → IsTurn (Gone l) key t
gone_turn l key Here h = absurd h
gone_turn l key (Right q) h = absurd h
gone_turn l key (Down c) h = absurd h
gone_turn l key (Left m) h = h

whole : (s : PageState) (key : KeyBytes) (t : Turn) → is_below_end s.high key ≡ true → IsWithin (Live s) key t → IsTurn (Live s) key t
whole s key Here under h = (under, h)
whole s key (Right q) under h = absurd h
whole s key (Down c) under h = (under, h)
whole s key (Left l) under h = absurd h

-- a key that stands for what is sought is past a page's end where that is
not_past : (b : Bool) → not b ≡ false → b ≡ true
not_past true e = refl
not_past false e = absurd (different (sym e))

-- where what is sought isn't past a page's range, the turn is one within it
pub stays : (target : Target) (slot : Slot) (t : Turn) → lies_past target (high_of slot) ≡ false → IsWithinFor target slot t → IsTurnFor target slot t
stays target Free t inside within = λ key stands. absurd (within key tt)
stays target (Gone l) t inside within = λ key stands. gone_turn l key t (within key tt)
stays target (Live s) t inside within = λ key stands. whole s key t (not_past _ (sym stands.end ∙ inside)) (within key stands.separators)

-- and where it is, the turn is to the right neighbour
pub passes : (target : Target) (slot : Slot) (q : ℕ) → lies_past target (high_of slot) ≡ true → side_of_slot slot ≡ Some q → IsTurnFor target slot (Right q)
passes target Free q past side = absurd (no_next side)
passes target (Gone l) q past side = absurd (no_next side)
passes target (Live s) q past side = λ key stands. (holds_not _ (sym stands.end ∙ past), side)

child_below : (k key : KeyBytes) (cs : List (KeyBytes × ℕ)) (c : ℕ) → is_lt (key_cmp key k) ≡ true → IsLastUpto key cs c → IsLastUpto key (below k cs) c
child_below k key cs c lt h = record {
  separator = h.separator;
  named = kept (λ x. is_lt (key_cmp x.0 k)) cs (h.separator, c) h.named (upto_below h.separator key k (holds_not _ (holds _ h.not_above)) lt);
  not_above = h.not_above;
  greatest = λ other has upto. h.greatest other (was_there (λ x. is_lt (key_cmp x.0 k)) cs other has).0 upto;
}

split_inside : (bases : Bases) (slot : Slot) (k key : KeyBytes) (to : ℕ) (t : Turn) → is_lt (key_cmp key k) ≡ true → IsWithin slot key t → IsTurn (change bases (Split k to) slot) key t
split_inside bases Free k key to t before h = absurd h
split_inside bases (Gone l) k key to t before h = h
split_inside bases (Live s) k key to Here before h = (before, by s.body h)
  where
    by : (b : Body) → level_of b ≡ 0 → level_of (body_below k b) ≡ 0
    by (Pairs pairs writes) e = e
    by (Children level children) e = e
split_inside bases (Live s) k key to (Right q) before h = absurd h
split_inside bases (Live s) k key to (Down c) before h = (before, by s.body h)
  where
    by : (b : Body) → IsLastUpto key (children_of b) c → IsLastUpto key (children_of (body_below k b)) c
    by (Pairs pairs writes) e = e
    by (Children level children) e = child_below k key children c before e
split_inside bases (Live s) k key to (Left l) before h = absurd h

children_below : (b : Body) (sep : KeyBytes) (c : KeyBytes × ℕ) → Contains (children_of b) c → is_lt (key_cmp c.0 sep) ≡ true → Contains (children_of (body_below sep b)) c
children_below (Pairs pairs writes) sep c has below = has
children_below (Children level children) sep c has below = kept (λ x. is_lt (key_cmp x.0 sep)) children c has below

-- both are before the separators from a split on
agree_past : (target : Target) (b : Body) (sep key : KeyBytes) → lies_from target sep ≡ false → is_lt (key_cmp key sep) ≡ true → SeparatorsAgree target key (children_of (body_below sep b)) → SeparatorsAgree target key (children_of b)
agree_past target b sep key inside before agree c has = by (is_lt (key_cmp c.0 sep)) refl
  where
    by : (t : Bool) → is_lt (key_cmp c.0 sep) ≡ t → lies_from target c.0 ≡ is_upto c.0 key
    by true e = agree c (children_below b sep c has e)
    by false e = lies_no_more target sep c.0 inside e ∙ sym (ap not (below_upto key sep c.0 before e))

-- where what is sought is before a split, the turn is one within the page as it was
pub stays_split : (target : Target) (bases : Bases) (slot : Slot) (sep : KeyBytes) (to : ℕ) (t : Turn) → lies_from target sep ≡ false → IsWithinFor target slot t → IsTurnFor target (change bases (Split sep to) slot) t
stays_split target bases Free sep to t inside within = λ key stands. absurd (within key tt)
stays_split target bases (Gone l) sep to t inside within = λ key stands. gone_turn l key t (within key tt)
stays_split target bases (Live s) sep to t inside within = λ key stands.
    let before = not_past _ (sym stands.end ∙ inside) in
    split_inside bases (Live s) sep key to t before (within key (agree_past target s.body sep key inside before stands.separators))

-- else it is to the page that was split off
pub passes_split : (target : Target) (bases : Bases) (slot : Slot) (s : PageState) (sep : KeyBytes) (to q : ℕ) → slot ≡ Live s → lies_from target sep ≡ true → Some to ≡ Some q → IsTurnFor target (change bases (Split sep to) slot) (Right q)
passes_split target bases slot s sep to q is past side =
    subst (λ (o : Slot). IsTurnFor target (change bases (Split sep to) o) (Right q)) (sym is) (λ key stands. (holds_not _ (sym stands.end ∙ past), side))

-- a page that was given a child is linked as it was
pub linked_before : (bases : Bases) (sep : KeyBytes) (child : ℕ) (slot : Slot) → IsLinked (change bases (AddChild sep child) slot) → IsLinked slot
linked_before bases sep child Free h = h
linked_before bases sep child (Gone l) h = h
linked_before bases sep child (Live s) h = h

-- so is one under any change but a write, a split and a removal
pub linked_under : (d : Delta) (slot : Slot) →
    ((sep : KeyBytes) × (child : ℕ) × (d ≡ AddChild sep child)) ⊎ (((base : ℕ) × (side : Option ℕ) × (d ≡ Absorb base side)) ⊎ ((sep : KeyBytes) × (d ≡ DropChild sep))) →
    IsLinked (change [] d slot) → IsLinked slot
linked_under d slot (inl added) linked = linked_before [] added.0 added.1 slot (subst (λ (e : Delta). IsLinked (change [] e slot)) added.2 linked)
linked_under d slot (inr noted) linked = subst IsLinked (as_it_is [] d slot noted) linked

-- what is known where there is no right neighbour to go on at, or one
pub none_there : {X : Type 0} (P : Type 0) (Q : X → Type 0) (o m : Option X) → m ≡ None → m ≡ o → MatchOption o P Q → P
none_there P Q None m none is h = h
none_there P Q (Some x) m none is h = absurd (unlike (sym none ∙ is))
  where
    unlike : None ≡ Some x → ⊥
    unlike e = cc

pub one_there : {X : Type 0} (P : Type 0) (Q : X → Type 0) (o m : Option X) (x : X) → m ≡ Some x → m ≡ o → MatchOption o P Q → Q x
one_there P Q None m x one is h = absurd (unlike (sym is ∙ one))
  where
    unlike : None ≡ Some x → ⊥
    unlike e = cc
one_there P Q (Some y) m x one is h = subst Q (same (sym is ∙ one)) h
  where
    same : Some y ≡ Some x → y ≡ x
    same e = cc
