-- What a tree holds at a key, from the page where the key is at home.
use Rattle.std.proofs.Common.{◌≡◌, ℕ, ◌<◌, true, List, length, get_or, Option, sym, ap, ◌∙◌, subst, arith}
use Rattle.std.specs.Prelude.{Result, Ok, Err, IfOk}
use Rattle.std.specs.FinMap.{get}
use Rattle.std.proofs.lemmas.List.{length-map}
use Rattle.bw_key.specs.Order.{KeyBytes}
use Rattle.bw_model.specs.Values.{ValueBytes}
use Rattle.bw_delta.specs.Writes.{WriteView}
use Rattle.bw_delta.specs.Batches.{writes_to}
use Rattle.bw_delta.specs.History.{history, action_at, HasDistinctStamps}
use Rattle.bw_level.specs.Slots.{Slot, slot_at, is_leaf}
use Rattle.bw_level.specs.Levels.{IsHome, levels_under}
use Rattle.bw_level.specs.Reading.{EndsAbove, base_of, writes_over, value_in}
use Rattle.bw_level.specs.Changes.{Bases}
use Rattle.bw_chain.specs.Chains.{Records, Ends, slot_of_word, slots_of}
use Rattle.bw_level.proofs.HomeLemmas.{home_distinct, home_value}
use Rattle.bw_look.specs.View.{TreeView, contents_at}
use Rattle.bw_look.specs.Trees.{IsStanding, StageWords, view_of}
use Rattle.bw_chain.proofs.ReadingLemmas.{read_is, slot_of_head}
use Rattle.bw_level.proofs.RouteLemmas.{home_leaf}

-- what is known of the mapping word of a key's home
pub record FoundAt (tree : TreeView) (bases : Bases) (records : Records) (key : KeyBytes) (p head : ℕ) : Type 0 where
  pub slot : slot_at tree.slots p ≡ slot_of_word bases records head
  pub ends : Ends bases records head
  pub leaf : is_leaf (slot_of_word bases records head) ≡ true
  pub above : EndsAbove (slot_of_word bases records head) key

pub found_at : (heads : List ℕ) (bases : Bases) (records : Records) (root next bound : ℕ) (staged : Option StageWords) (tree : TreeView) (key : KeyBytes) (p head : ℕ) → view_of heads bases records root next staged ≡ tree → IsStanding heads bases records root bound → IsHome tree.slots tree.levels key p → head ≡ get_or heads p head → FoundAt tree bases records key p head
found_at heads bases records root next bound staged tree key p head is t home read =
    subst (λ (v : TreeView). FoundAt v bases records key p head) is (at (subst (λ (v : TreeView). IsHome v.slots v.levels key p) (sym is) home))
  where
    at : IsHome (slots_of heads bases records) (levels_under (slots_of heads bases records) root) key p → FoundAt (view_of heads bases records root next staged) bases records key p head
    at home =
        let slots = slots_of heads bases records in
        let h = home_leaf slots root (levels_under slots root) t.lawful key p home in
        let there : p < length heads = omega (arith, h.0, length-map heads (slot_of_word bases records)) in
        let slot : slot_at slots p ≡ slot_of_word bases records head = slot_of_head bases records heads p head there ∙ ap (slot_of_word bases records) (sym read) in
        record {
          slot = slot;
          ends = t.ends p head (read_is heads p head there read);
          leaf = sym (ap is_leaf slot) ∙ h.1;
          above = subst (λ (o : Slot). EndsAbove o key) slot h.2;
        }

-- and so, what is read there
pub found_distinct : (heads : List ℕ) (bases : Bases) (records : Records) (root next bound : ℕ) (staged : Option StageWords) (tree : TreeView) (key : KeyBytes) (p head : ℕ) (found : List WriteView) → view_of heads bases records root next staged ≡ tree → IsStanding heads bases records root bound → IsHome tree.slots tree.levels key p → head ≡ get_or heads p head →
    found ≡ writes_to key (writes_over (slot_of_word bases records head)) → HasDistinctStamps found
found_distinct heads bases records root next bound staged tree key p head found is t home read all =
    let slots = slots_of heads bases records in
    let at = found_at heads bases records root next bound staged tree key p head is t home read in
    let slot : slot_at slots p ≡ slot_of_word bases records head = ap (λ (v : TreeView). slot_at v.slots p) is ∙ at.slot in
    subst HasDistinctStamps (ap (λ (o : Slot). writes_to key (writes_over o)) slot ∙ sym all)
    (home_distinct slots root (levels_under slots root) t.lawful t.distinct key p (subst (λ (v : TreeView). IsHome v.slots v.levels key p) (sym is) home))

pub found_value : (heads : List ℕ) (bases : Bases) (records : Records) (root next bound : ℕ) (staged : Option StageWords) (tree : TreeView) (key : KeyBytes) (p head stamp : ℕ) (start : Option ValueBytes) (found : List WriteView) → view_of heads bases records root next staged ≡ tree → IsStanding heads bases records root bound → IsHome tree.slots tree.levels key p → head ≡ get_or heads p head →
    found ≡ writes_to key (writes_over (slot_of_word bases records head)) → start ≡ base_of (slot_of_word bases records head) key → history start (action_at found) stamp ≡ get (contents_at tree stamp) key
found_value heads bases records root next bound staged tree key p head stamp start found is t home read all base =
    let slots = slots_of heads bases records in
    let at = found_at heads bases records root next bound staged tree key p head is t home read in
    let slot : slot_at slots p ≡ slot_of_word bases records head = ap (λ (v : TreeView). slot_at v.slots p) is ∙ at.slot in
    ap (λ o. history o (action_at found) stamp) base
    ∙ ap (λ (l : List WriteView). history (base_of (slot_of_word bases records head) key) (action_at l) stamp) all
    ∙ ap (λ (o : Slot). value_in o key stamp) (sym slot)
    ∙ sym (home_value slots root (levels_under slots root) t.lawful t.distinct key p stamp (subst (λ (v : TreeView). IsHome v.slots v.levels key p) (sym is) home))
    ∙ ap (λ (v : TreeView). get (contents_at v stamp) key) is

-- an answer that is there is this one, and so that one
pub if_same : {X E : Type 0} (r : Result X E) (v w : X) → v ≡ w → IfOk r (λ x. x ≡ v) → IfOk r (λ x. x ≡ w)
if_same (Ok x) v w e h = h ∙ e
if_same (Err x) v w e h = h
