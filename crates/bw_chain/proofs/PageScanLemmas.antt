-- The pairs of a leaf's chain as of a stamp.
use Rattle.std.proofs.Common.{◌≡◌, ℕ, ◌<◌, Bool, true, false, cond, not, ◌&&◌, T, List, [], ◌∷◌, ◌++◌, length, Option, Some, None, refl, sym, ap, ◌∙◌, subst}
use Rattle.std.specs.Borrow.{Bor}
use Rattle.std.specs.Option.{option_or}
use Rattle.std.specs.Ordering.{is_lt}
use Rattle.std.specs.FinMap.{find}
use Rattle.bw_key.specs.Order.{KeyBytes, key_cmp}
use Rattle.bw_model.specs.Contents.{is_below_end}
use Rattle.bw_model.specs.Values.{ValueBytes}
use Rattle.bw_page.specs.Leaves.{LeafView}
use Rattle.bw_page.specs.declared.pages.Page.{Page}
use Rattle.bw_page.specs.declared.pages.Page.TheVariants.{Leaf as LeafPage}
use Rattle.bw_page.proofs.Truths.{holds}
use Rattle.bw_delta.specs.Writes.{WriteView}
use Rattle.bw_delta.specs.Batches.{writes_to}
use Rattle.bw_delta.specs.History.{history, action_at, pointed_to}
use Rattle.bw_delta.specs.PagePairs.{ArePairsAsOf, value_in_parts}
use Rattle.bw_delta.specs.Replays.{ReplayView, IsReplayOf}
use Rattle.bw_delta.specs.declared.deltas.Delta.{Delta}
use Rattle.bw_delta.specs.declared.deltas.Delta.TheVariants.{Put}
use Rattle.bw_level.specs.Slots.{Slot, Free, Gone, Live, is_leaf}
use Rattle.bw_level.specs.Walk.{walked}
use Rattle.bw_level.specs.Changes.{Bases, change, plain}
use Rattle.bw_chain.specs.Chains.{Records, Ends, record_at, link_of, slot_of_word}
use Rattle.bw_level.specs.Turns.{slot_without_writes, over, plain_at, IsNoWrite}
use Rattle.bw_level.specs.Reading.{EndsAbove, base_of, writes_over, value_in}
use Rattle.bw_level.specs.Scans.{IsLeafReplay, ArePairsOn, high_of}
use Rattle.bw_chain.proofs.ChainLemmas.{Below, under, bare_put}
use Rattle.bw_chain.proofs.ReadingLemmas.{leaf_put, writes_put, base_through}

-- what a loop that collects all writes has when it has passed one
pub record PassedWrite (bases : Bases) (records : Records) (word under_it : ℕ) (w : WriteView) : Type 0 where
  pub ends : Ends bases records under_it
  pub leaf : is_leaf (slot_of_word bases records under_it) ≡ true
  pub same : slot_without_writes (slot_of_word bases records word) ≡ slot_without_writes (slot_of_word bases records under_it)
  pub writes : writes_over (slot_of_word bases records word) ≡ w ∷ writes_over (slot_of_word bases records under_it)
  pub less : length (walked (link_of records) (length records) under_it) < length (walked (link_of records) (length records) word)

pub passed_write : (bases : Bases) (records : Records) (word under_it : ℕ) (d : Delta) (w : WriteView) → Ends bases records word → is_leaf (slot_of_word bases records word) ≡ true → record_at records word ≡ Some (d, under_it) → d ≡ Put w → PassedWrite bases records word under_it w
passed_write bases records word under_it d w ends leaf at put =
    let u = under bases records word (d, under_it) ends at in
    let below = slot_of_word bases records under_it in
    let state : slot_of_word bases records word ≡ change bases (Put w) below = u.state ∙ ap (λ d. change bases d below) put in
    let leaf_under : is_leaf below ≡ true = sym (leaf_put bases w below) ∙ sym (ap is_leaf state) ∙ leaf in
    record {
      ends = subst (λ d. Below bases records d under_it) put u.ends;
      leaf = leaf_under;
      same = ap slot_without_writes state ∙ bare_put bases w below;
      writes = ap writes_over state ∙ writes_put bases w below leaf_under;
      less = u.less;
    }

pointed_push : (found : List (Bor WriteView)) (b : Bor WriteView) (rest : List WriteView) → pointed_to (found ++ b ∷ []) ++ rest ≡ pointed_to found ++ (b.now ∷ rest)
pointed_push [] b rest = refl
pointed_push (x ∷ found) b rest = ap (λ (l : List WriteView). x.now ∷ l) (pointed_push found b rest)

-- a write that was passed is the next one found
pub write_found : (found new : List (Bor WriteView)) (b : Bor WriteView) (below here all : List WriteView) → here ≡ b.now ∷ below → new ≡ found ++ b ∷ [] →
    pointed_to found ++ here ≡ all → pointed_to new ++ below ≡ all
write_found found new b below here all step pushed so_far =
    ap (λ (l : List (Bor WriteView)). pointed_to l ++ below) pushed ∙ pointed_push found b below
    ∙ sym (ap (λ (l : List WriteView). pointed_to found ++ l) step) ∙ so_far

nil_right : (l : List WriteView) → l ++ [] ≡ l
nil_right [] = refl
nil_right (x ∷ l) = ap (λ (m : List WriteView). x ∷ m) (nil_right l)

-- where no writes are left all were found
pub writes_found : (found : List (Bor WriteView)) (here all : List WriteView) → here ≡ [] → pointed_to found ++ here ≡ all → pointed_to found ≡ all
writes_found found here all nothing so_far = sym (nil_right (pointed_to found)) ∙ sym (ap (λ (l : List WriteView). pointed_to found ++ l) nothing) ∙ so_far

-- a key that isn't past a page's end
ends_above : (slot : Slot) (key : KeyBytes) → is_below_end (high_of slot) key ≡ true → EndsAbove slot key
ends_above Free key e = tt
ends_above (Gone l) key e = tt
ends_above (Live s) key e = subst T (sym e) tt

first_part : {V : Type 0} (o : Option V) → option_or o None ≡ o
first_part None = refl
first_part (Some v) = refl

-- the pairs of the base leaf under all writes are those of the page
pub pairs_on : (slot : Slot) (leaf : LeafView ValueBytes) (writes : List WriteView) (low : KeyBytes) (high end : Option KeyBytes) (stamp : ℕ) (pairs : List (KeyBytes × ValueBytes)) → writes ≡ writes_over slot →
    ((key : KeyBytes) → is_below_end end key ≡ (is_below_end (high_of slot) key && is_below_end high key)) → ((key : KeyBytes) → EndsAbove slot key → base_of slot key ≡ find key_cmp key leaf.pairs) →
    ArePairsAsOf (leaf ∷ []) low end writes stamp pairs → ArePairsOn slot low high stamp pairs
pairs_on slot leaf writes low high end stamp pairs all ends base so = record {
  sorted = so.sorted;
  values = λ key. so.values key ∙ ap (λ b. cond (not (is_lt (key_cmp key low)) && b) (history (option_or (find key_cmp key leaf.pairs) None) (action_at (writes_to key writes)) stamp) None) (ends key)
      ∙ at key (not (is_lt (key_cmp key low))) (is_below_end high key) (is_below_end (high_of slot) key) refl;
}
  where
    value : (key : KeyBytes) → is_below_end (high_of slot) key ≡ true → history (option_or (find key_cmp key leaf.pairs) None) (action_at (writes_to key writes)) stamp ≡ value_in slot key stamp
    value key below =
        ap (λ o. history o (action_at (writes_to key writes)) stamp) (first_part (find key_cmp key leaf.pairs) ∙ sym (base key (ends_above slot key below)))
        ∙ ap (λ (l : List WriteView). history (base_of slot key) (action_at (writes_to key l)) stamp) all

    at : (key : KeyBytes) (a b c : Bool) → is_below_end (high_of slot) key ≡ c →
        cond (a && (c && b)) (history (option_or (find key_cmp key leaf.pairs) None) (action_at (writes_to key writes)) stamp) None ≡ cond ((a && b) && c) (value_in slot key stamp) None
    at key false b c e = refl
    at key true true true e = value key e
    at key true false true e = refl
    at key true true false e = refl
    at key true false false e = refl

-- the base leaf under all writes is replayed as the page
pub replayed_leaf : (slot : Slot) (leaf : LeafView ValueBytes) (writes : List WriteView) (end : Option KeyBytes) (replay : ReplayView) → writes ≡ writes_over slot → end ≡ high_of slot →
    ((key : KeyBytes) → EndsAbove slot key → base_of slot key ≡ find key_cmp key leaf.pairs) → IsReplayOf (value_in_parts (leaf ∷ [])) end writes replay → IsLeafReplay slot replay
replayed_leaf slot leaf writes end replay all ends base so = record {
  rising = so.rising;
  values = λ key stamp below le.
      so.values key stamp (subst (λ (o : Option KeyBytes). T (is_below_end o key)) (sym ends) below) le
      ∙ ap (λ o. history o (action_at (writes_to key writes)) stamp) (first_part (find key_cmp key leaf.pairs) ∙ sym (base key (ends_above slot key (holds _ below))))
      ∙ ap (λ (l : List WriteView). history (base_of slot key) (action_at (writes_to key l)) stamp) all;
}

-- what lies under the writes of a chain over a base leaf
pub base_on : (bases : Bases) (slot : Slot) (o : Option (Bor Delta)) (page : Option (Bor Page)) (b : Bor Page) (leaf : LeafView ValueBytes) → page ≡ Some b → b.now ≡ LeafPage leaf → slot_without_writes slot ≡ slot_without_writes (over bases o (plain_at page)) → IsNoWrite o →
    (key : KeyBytes) → EndsAbove slot key → base_of slot key ≡ find key_cmp key leaf.pairs
base_on bases slot o page b leaf is is_leaf_page same other key above =
    base_through bases slot o page key same other above ∙ ap (λ (p : Option (Bor Page)). base_of (plain_at p) key) is ∙ ap (λ (p : Page). base_of (plain p) key) is_leaf_page
