-- What is the same of pages that differ in writes alone.
use Rattle.std.proofs.Common.{◌≡◌, ℕ, not, ◌&&◌, Option, Some, None, refl, sym, ap, ◌∙◌}
use Rattle.std.specs.Borrow.{Bor}
use Rattle.std.specs.Prelude.{IfSome}
use Rattle.bw_key.specs.Order.{KeyBytes}
use Rattle.bw_page.specs.declared.pages.Page.{Page}
use Rattle.bw_delta.specs.declared.deltas.Delta.{Delta}
use Rattle.bw_level.specs.declared.target.Target.{Target}
use Rattle.bw_level.specs.Changes.{Bases, change, plain}
use Rattle.bw_level.specs.LeafEnds.{ends_at}
use Rattle.bw_level.specs.Roots.{IsNeighbour}
use Rattle.bw_level.specs.Scans.{high_of}
use Rattle.bw_level.specs.Slots.{Slot, Body, Pairs, Children, Free, Gone, Live, body_is_leaf, level_of, side_of_slot, slot_level}
use Rattle.bw_level.specs.Splits.{entry_count, slot_entries}
use Rattle.bw_level.specs.Targets.{lies_past}
use Rattle.bw_level.specs.Turns.{body_without_writes, over, plain_at, slot_without_writes}

-- what lies under the writes, where a change lies over a base page
pub under_change : (bases : Bases) (slot : Slot) (o : Option (Bor Delta)) (p : Option (Bor Page)) (d : Bor Delta) (b : Bor Page) → slot_without_writes slot ≡ slot_without_writes (over bases o (plain_at p)) → o ≡ Some d → p ≡ Some b →
    slot_without_writes slot ≡ slot_without_writes (change bases d.now (plain b.now))
under_change bases slot o p d b same some there =
    same
    ∙ ap (λ (x : Option (Bor Delta)). slot_without_writes (over bases x (plain_at p))) some
    ∙ ap (λ (x : Option (Bor Page)). slot_without_writes (over bases (Some d) (plain_at x))) there

same_of : {X : Type 0} (f : Slot → X) → ((slot : Slot) → f (slot_without_writes slot) ≡ f slot) → (slot other : Slot) → slot_without_writes slot ≡ slot_without_writes other → f slot ≡ f other
same_of f bare slot other same = sym (bare slot) ∙ ap f same ∙ bare other

pub same_side : (slot other : Slot) → slot_without_writes slot ≡ slot_without_writes other → side_of_slot slot ≡ side_of_slot other
same_side = same_of side_of_slot bare
  where
    bare : (slot : Slot) → side_of_slot (slot_without_writes slot) ≡ side_of_slot slot
    bare Free = refl
    bare (Gone l) = refl
    bare (Live s) = refl

pub same_high : (slot other : Slot) → slot_without_writes slot ≡ slot_without_writes other → high_of slot ≡ high_of other
same_high = same_of high_of bare
  where
    bare : (slot : Slot) → high_of (slot_without_writes slot) ≡ high_of slot
    bare Free = refl
    bare (Gone l) = refl
    bare (Live s) = refl

same_level : (slot other : Slot) → slot_without_writes slot ≡ slot_without_writes other → slot_level slot ≡ slot_level other
same_level = same_of slot_level bare
  where
    of_body : (b : Body) → level_of (body_without_writes b) ≡ level_of b
    of_body (Pairs pairs writes) = refl
    of_body (Children level children) = refl

    bare : (slot : Slot) → slot_level (slot_without_writes slot) ≡ slot_level slot
    bare Free = refl
    bare (Gone l) = refl
    bare (Live s) = of_body s.body

pub same_entries : (slot other : Slot) → slot_without_writes slot ≡ slot_without_writes other → slot_entries slot ≡ slot_entries other
same_entries = same_of slot_entries bare
  where
    of_body : (b : Body) → entry_count (body_without_writes b) ≡ entry_count b
    of_body (Pairs pairs writes) = refl
    of_body (Children level children) = refl

    bare : (slot : Slot) → slot_entries (slot_without_writes slot) ≡ slot_entries slot
    bare Free = refl
    bare (Gone l) = refl
    bare (Live s) = of_body s.body

pub same_end : (target : Target) (slot other : Slot) → slot_without_writes slot ≡ slot_without_writes other → ends_at target slot ≡ ends_at target other
same_end target = same_of (ends_at target) bare
  where
    of_body : (b : Body) → body_is_leaf (body_without_writes b) ≡ body_is_leaf b
    of_body (Pairs pairs writes) = refl
    of_body (Children level children) = refl

    bare : (slot : Slot) → ends_at target (slot_without_writes slot) ≡ ends_at target slot
    bare Free = refl
    bare (Gone l) = refl
    bare (Live s) = ap (λ b. b && not (lies_past target s.high)) (of_body s.body)

pub same_neighbour : (slot other : Slot) → slot_without_writes slot ≡ slot_without_writes other → (level : ℕ) (high : KeyBytes) (side : ℕ) → IsNeighbour other level high side → IsNeighbour slot level high side
same_neighbour slot other same level high side n =
    record { at_level = same_level slot other same ∙ n.at_level; ends = same_high slot other same ∙ n.ends; linked = same_side slot other same ∙ n.linked }

-- what holds of an answer that is there holds in another form
pub if_all : {X : Type 0} (P Q : X → Type 0) (o : Option X) → ((x : X) → P x → Q x) → IfSome o P → IfSome o Q
if_all P Q None to h = h
if_all P Q (Some x) to h = to x h
