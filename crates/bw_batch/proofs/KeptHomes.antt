-- The homes of a batch stay where pages keep their ranges.
use Rattle.std.proofs.Common.{inl, inr, ◌⊎◌, ◌≡◌, ℕ, zero, suc, ◌<◌, T, Bool, true, false, List, [], ◌∷◌, length, set, Option, refl, sym, ap, ◌∙◌, subst}
use Rattle.std.specs.List.{AllByRecursion}
use Rattle.std.specs.Ordering.{is_lt}
use Rattle.bw_key.specs.Order.{KeyBytes, key_cmp}
use Rattle.bw_model.specs.Contents.{is_below_end}
use Rattle.bw_model.specs.declared.operations.Op.{Op}
use Rattle.bw_page.specs.Inners.{IsUpto}
use Rattle.bw_level.specs.Before.{low_of}
use Rattle.bw_level.specs.Levels.{AreLevels, IsHome, IsOneHome}
use Rattle.bw_level.specs.Scans.{high_of}
use Rattle.bw_level.specs.Slots.{Slot, PageState, Free, Gone, Live, is_leaf, slot_at}
use Rattle.bw_level.specs.Turns.{slot_without_writes}
use Rattle.bw_look.specs.Folding.{put_each}
use Rattle.bw_look.specs.View.{TreeView}
use Rattle.bw_look.specs.declared.folded.Folded.{Folded}
use Rattle.bw_look.proofs.PageLemmas.{lowest_leaf}
use Rattle.bw_tree.specs.Beside.{AreFolded, folded_tree}
use Rattle.bw_tree.specs.Making.{leaf_slot}
use Rattle.bw_group.specs.Homes.{AreHomes, AreInKeyOrder, BeginsBelow, HomesView, IsTouched}
use Rattle.bw_group.proofs.ListParts.{all_same}

abbrev pub in_use : Slot → Bool
in_use (Live s) = true
in_use (Gone l) = false
in_use Free = false

-- both are pages in use or neither is, and they begin and end alike
pub record IsAsWide (old new : Slot) : Type 0 where
  pub used : in_use new ≡ in_use old
  pub low : low_of new ≡ low_of old
  pub high : high_of new ≡ high_of old

itself : (slot : Slot) → IsAsWide slot slot
itself slot = record { used = refl; low = refl; high = refl }

backwards : (old new : Slot) → IsAsWide old new → IsAsWide new old
backwards old new wide = record { used = sym wide.used; low = sym wide.low; high = sym wide.high }

in_turn : (old between new : Slot) → IsAsWide old between → IsAsWide between new → IsAsWide old new
in_turn old between new first second = record { used = second.used ∙ first.used; low = second.low ∙ first.low; high = second.high ∙ first.high }

-- pages that differ in writes alone
bare_wide : (slot : Slot) → IsAsWide (slot_without_writes slot) slot
bare_wide (Live s) = record { used = refl; low = refl; high = refl }
bare_wide (Gone l) = itself (Gone l)
bare_wide Free = itself Free

pub without_writes : (old new : Slot) → slot_without_writes new ≡ slot_without_writes old → IsAsWide old new
without_writes old new same =
    in_turn old (slot_without_writes old) new (backwards (slot_without_writes old) old (bare_wide old))
    (subst (λ (s : Slot). IsAsWide s new) same (bare_wide new))

-- where another slot stands once one is put into a list
pub put_at : (slots : List Slot) (q p : ℕ) (slot : Slot) → ((p ≡ q) × (slot_at (set slots q slot) p ≡ slot)) ⊎ (slot_at (set slots q slot) p ≡ slot_at slots p)
put_at [] q p slot = inr refl
put_at (s ∷ slots) zero zero slot = inl (refl, refl)
put_at (s ∷ slots) zero (suc p) slot = inr refl
put_at (s ∷ slots) (suc q) zero slot = inr refl
put_at (s ∷ slots) (suc q) (suc p) slot = elim (put_at slots q p slot) [
  | inl here ↦ inl (ap suc here.0, here.1)
  | inr there ↦ inr there
]

-- leaves that are as wide as the pages in whose places they come
put_wide : (slots now : List Slot) (leaves : List Folded) → AllByRecursion (λ f. IsAsWide (slot_at slots f.page) (leaf_slot f.leaf)) leaves → ((p : ℕ) → IsAsWide (slot_at slots p) (slot_at now p)) →
    (p : ℕ) → IsAsWide (slot_at slots p) (slot_at (put_each (λ f. leaf_slot f.leaf) now leaves) p)
put_wide slots now [] wide same p = same p
put_wide slots now (f ∷ leaves) wide same p = put_wide slots (set now f.page (leaf_slot f.leaf)) leaves wide.1 one p
  where
    one : (q : ℕ) → IsAsWide (slot_at slots q) (slot_at (set now f.page (leaf_slot f.leaf)) q)
    one q = elim (put_at now f.page q (leaf_slot f.leaf)) [
      | inl here ↦ subst (IsAsWide (slot_at slots q)) (sym here.1) (subst (λ (r : ℕ). IsAsWide (slot_at slots r) (leaf_slot f.leaf)) (sym here.0) wide.0)
      | inr there ↦ subst (IsAsWide (slot_at slots q)) (sym there) (same q)
    ]

-- what a leaf's chain makes of it is as wide as the leaf
pub folded_wide : (tree : TreeView) (leaves : List Folded) → AreLevels tree.slots tree.root tree.levels → AreFolded tree leaves → (p : ℕ) → IsAsWide (slot_at tree.slots p) (slot_at (folded_tree tree leaves).slots p)
folded_wide tree leaves lawful are p = put_wide tree.slots tree.slots leaves (each leaves are) (λ q. itself (slot_at tree.slots q)) p
  where
    used : (slot : Slot) → is_leaf slot ≡ true → true ≡ in_use slot
    used (Live s) leaf = refl
    used (Gone l) leaf = absurd (cc)
    used Free leaf = absurd (cc)

    each : (fs : List Folded) → AreFolded tree fs → AllByRecursion (λ f. IsAsWide (slot_at tree.slots f.page) (leaf_slot f.leaf)) fs
    each [] are' = tt
    each (f ∷ fs) are' = (
      record {
        used = used (slot_at tree.slots f.page) (lowest_leaf tree tree.root lawful f.page (lawful.some, are'.0.0));
        low = ap (λ l. low_of (leaf_slot l)) are'.0.1;
        high = ap (λ l. high_of (leaf_slot l)) are'.0.1;
      },
      each fs are'.1,
    )

-- the state of a page that is as wide as one in use
pub record HasRangeOf (s : PageState) (slot : Slot) : Type 0 where
  pub state : PageState
  pub is : slot ≡ Live state
  pub low : state.low ≡ s.low
  pub high : state.high ≡ s.high

range_of : (s : PageState) (slot : Slot) → IsAsWide (Live s) slot → HasRangeOf s slot
range_of s (Live t) wide = record { state = t; is = refl; low = wide.low; high = wide.high }
range_of s (Gone l) wide = absurd (different wide.used)
  where
    different : false ≡ true → ⊥
    different e = cc
range_of s Free wide = absurd (different wide.used)
  where
    different : false ≡ true → ⊥
    different e = cc

module _ (old new : TreeView) (levels : new.levels ≡ old.levels) (wide : (p : ℕ) → IsAsWide (slot_at old.slots p) (slot_at new.slots p)) where
  home_in : (from to : List Slot) (rows : List (List ℕ)) → ((p : ℕ) → IsAsWide (slot_at from p) (slot_at to p)) → (key : KeyBytes) (p : ℕ) → IsHome from rows key p → IsHome to rows key p
  home_in from to rows same key p home =
      let range = range_of home.reached.state (slot_at to p) (subst (λ (s : Slot). IsAsWide s (slot_at to p)) home.reached.is (same p)) in
      record {
        reached = record {
          within = home.reached.within;
          in_level = home.reached.in_level;
          state = range.state;
          is = range.is;
          from_low = subst (λ (k : KeyBytes). IsUpto k key) (sym range.low) home.reached.from_low;
        };
        ends_above = subst (λ (h : Option KeyBytes). T (is_below_end h key)) (sym range.high) home.ends_above;
      }

  one_stays : (key : KeyBytes) (p : ℕ) → IsOneHome old.slots old.levels key p → IsOneHome new.slots new.levels key p
  one_stays key p one = subst (λ (l : List (List ℕ)). IsOneHome new.slots l key p) (sym levels)
      (home_in old.slots new.slots old.levels wide key p one.0, λ q home. one.1 q (home_in new.slots old.slots old.levels (λ r. backwards (slot_at old.slots r) (slot_at new.slots r) (wide r)) key q home))

  order_stays : (ps : List ℕ) → AreInKeyOrder old.slots ps → AreInKeyOrder new.slots ps
  order_stays [] order = tt
  order_stays (p ∷ ps) order = (
    all_same (BeginsBelow old.slots p) (BeginsBelow new.slots p)
        (λ q below. ap (λ (k : KeyBytes). is_lt (key_cmp k (low_of (slot_at new.slots q)))) (wide p).low ∙ ap (λ (k : KeyBytes). is_lt (key_cmp (low_of (slot_at old.slots p)) k)) (wide q).low ∙ below) ps order.0,
    order_stays ps order.1,
  )

  pub homes_stay : (ops : List Op) (homes : HomesView) → length new.heads ≡ length old.heads → AreHomes old ops homes → AreHomes new ops homes
  homes_stay ops homes heads are = record {
    pages = record {
      once = are.pages.once;
      there = subst (λ (n : ℕ). AllByRecursion (λ p. p < n) homes.pages) (sym heads) are.pages.there;
    };
    order = order_stays homes.pages are.order;
    touched = all_same (IsTouched old ops) (IsTouched new ops)
        (λ p t. record { place = t.place; key = t.key; entry = t.entry; one = one_stays t.key p t.one }) homes.pages are.touched;
    count = are.count;
    each = λ place key entry.
        let h = are.each place key entry in
        record { number = h.number; at = h.at; home = record { page = h.home.page; is = h.home.is; one = one_stays key h.home.page h.home.one } };
  }

-- an adopted batch's pages are as wide as before it
pub adopted_wide : (old new : TreeView) (leaves : List Folded) → AreLevels old.slots old.root old.levels → AreFolded old leaves → ((p : ℕ) → slot_without_writes (slot_at new.slots p) ≡ slot_without_writes (slot_at (folded_tree old leaves).slots p)) →
    (p : ℕ) → IsAsWide (slot_at old.slots p) (slot_at new.slots p)
adopted_wide old new leaves lawful are pages p =
    in_turn (slot_at old.slots p) (slot_at (folded_tree old leaves).slots p) (slot_at new.slots p) (folded_wide old leaves lawful are p)
    (without_writes (slot_at (folded_tree old leaves).slots p) (slot_at new.slots p) (pages p))
