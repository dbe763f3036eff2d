-- Values and writes under the changes of a chain.
use Rattle.std.proofs.Common.{◌≡◌, ℕ, zero, suc, ◌<◌, true, false, cond, List, [], ◌∷◌, ◌++◌, length, get_or, map, Option, Some, None, refl, sym, ap, ◌∙◌, subst, arith}
use Rattle.std.specs.Prelude.{slice_get}
use Rattle.std.specs.Borrow.{Bor}
use Rattle.std.specs.Ordering.{is_lt}
use Rattle.std.specs.FinMap.{find}
use Rattle.std.specs.FinMap.Entries.{find-where_key}
use Rattle.bw_key.specs.Order.{KeyBytes, key_cmp, key_eq}
use Rattle.bw_model.specs.Values.{ValueBytes}
use Rattle.bw_page.proofs.KeyLemmas.{keys_tie}
use Rattle.bw_page.specs.declared.pages.Page.{Page}
use Rattle.bw_page.specs.declared.pages.Page.TheVariants.{Leaf as LeafPage, Inner as InnerPage, Gone as GonePage}
use Rattle.bw_page.proofs.Truths.{holds}
use Rattle.bw_delta.specs.Writes.{WriteView}
use Rattle.bw_delta.specs.Batches.{writes_to}
use Rattle.bw_delta.specs.History.{pointed_to}
use Rattle.bw_delta.specs.declared.deltas.Delta.{Delta}
use Rattle.bw_delta.specs.declared.deltas.Delta.TheVariants.{Put, Split, Absorb, Removed, AddChild, DropChild}
use Rattle.bw_level.specs.Slots.{Slot, slot_at, Body, Pairs, Children, Free, Gone, Live, is_leaf, body_is_leaf}
use Rattle.bw_level.specs.Walk.{walked}
use Rattle.bw_level.specs.Changes.{Bases, change, body_written, body_below, body_with_child, based}
use Rattle.bw_chain.specs.Chains.{Records, Ends, record_at, link_of, slot_of_word}
use Rattle.bw_level.specs.Turns.{slot_without_writes, body_without_writes, over, plain_at, IsNoWrite, IsOther}
use Rattle.bw_level.specs.Reading.{EndsAbove, HasPairsUnder, base_of, body_pairs, writes_over, body_writes}
use Rattle.bw_chain.proofs.ChainLemmas.{Below, under, under_other, on_base}

pub leaf_put : (bases : Bases) (w : WriteView) (slot : Slot) → is_leaf (change bases (Put w) slot) ≡ is_leaf slot
leaf_put bases w Free = refl
leaf_put bases w (Gone l) = refl
leaf_put bases w (Live s) = by s.body
  where
    by : (b : Body) → body_is_leaf (body_written w b) ≡ body_is_leaf b
    by (Pairs pairs writes) = refl
    by (Children level children) = refl

no : false ≡ true → ⊥
no e = cc

-- a write over a leaf is the newest
pub writes_put : (bases : Bases) (w : WriteView) (slot : Slot) → is_leaf slot ≡ true → writes_over (change bases (Put w) slot) ≡ w ∷ writes_over slot
writes_put bases w Free leaf = absurd (no leaf)
writes_put bases w (Gone l) leaf = absurd (no leaf)
writes_put bases w (Live s) leaf = by s.body leaf
  where
    by : (b : Body) → body_is_leaf b ≡ true → body_writes (body_written w b) ≡ w ∷ body_writes b
    by (Pairs pairs writes) leaf = refl
    by (Children level children) leaf = absurd (no leaf)

pub no_writes_on_base : (o : Option (Option Page)) → writes_over (based o) ≡ []
no_writes_on_base None = refl
no_writes_on_base (Some None) = refl
no_writes_on_base (Some (Some (LeafPage l))) = refl
no_writes_on_base (Some (Some (InnerPage p))) = refl
no_writes_on_base (Some (Some (GonePage left))) = refl

-- a change that may lie under the writes brings none
other_writes : (bases : Bases) (d : Delta) (slot : Slot) → IsOther d → writes_over slot ≡ [] → writes_over (change bases d slot) ≡ []
other_writes bases (Put w) slot other none = absurd other
other_writes bases (Split k to) Free other none = refl
other_writes bases (Split k to) (Gone l) other none = refl
other_writes bases (Split k to) (Live s) other none = by s.body none
  where
    by : (b : Body) → body_writes b ≡ [] → body_writes (body_below k b) ≡ []
    by (Pairs pairs writes) none = none
    by (Children level children) none = refl
other_writes bases (Absorb base side) slot other none = none
other_writes bases (Removed left) slot other none = absurd other
other_writes bases (AddChild k child) Free other none = refl
other_writes bases (AddChild k child) (Gone l) other none = refl
other_writes bases (AddChild k child) (Live s) other none = by s.body none
  where
    by : (b : Body) → body_writes b ≡ [] → body_writes (body_with_child k child b) ≡ []
    by (Pairs pairs writes) none = none
    by (Children level children) none = refl
other_writes bases (DropChild k) slot other none = none

-- What a loop that collects the writes to a key has when it has passed a write.
pub record Passed (bases : Bases) (records : Records) (word under_it : ℕ) (key : KeyBytes) (w : WriteView) : Type 0 where
  pub ends : Ends bases records under_it
  pub leaf : is_leaf (slot_of_word bases records under_it) ≡ true
  pub writes : writes_to key (writes_over (slot_of_word bases records word)) ≡ writes_to key (w ∷ writes_over (slot_of_word bases records under_it))
  pub less : length (walked (link_of records) (length records) under_it) < length (walked (link_of records) (length records) word)

pub passed : (bases : Bases) (records : Records) (word under_it : ℕ) (d : Delta) (key : KeyBytes) (w : WriteView) → Ends bases records word → is_leaf (slot_of_word bases records word) ≡ true → record_at records word ≡ Some (d, under_it) → d ≡ Put w → Passed bases records word under_it key w
passed bases records word under_it d key w ends leaf at put =
    let u = under bases records word (d, under_it) ends at in
    let below = slot_of_word bases records under_it in
    let state : slot_of_word bases records word ≡ change bases (Put w) below = u.state ∙ ap (λ d. change bases d below) put in
    let leaf_under : is_leaf below ≡ true = sym (leaf_put bases w below) ∙ sym (ap is_leaf state) ∙ leaf in
    record {
      ends = subst (λ d. Below bases records d under_it) put u.ends;
      leaf = leaf_under;
      writes = ap (λ (o : Slot). writes_to key (writes_over o)) state ∙ ap (writes_to key) (writes_put bases w below leaf_under);
      less = u.less;
    }

-- no writes lie at another change, nor on a base page
pub none_at_other : (bases : Bases) (records : Records) (word under_it : ℕ) (d : Delta) → Ends bases records word → record_at records word ≡ Some (d, under_it) → ((w : WriteView) → d ≡ Put w → ⊥) → writes_over (slot_of_word bases records word) ≡ []
none_at_other bases records word under_it d ends at not_put =
    let u = under_other bases records word under_it d ends at not_put in
    ap writes_over u.0 ∙ other_writes bases d (based (slice_get bases under_it)) u.1 (no_writes_on_base (slice_get bases under_it))

pub none_at_base : (bases : Bases) (records : Records) (word : ℕ) → Ends bases records word → record_at records word ≡ None → writes_over (slot_of_word bases records word) ≡ []
none_at_base bases records word ends none = ap writes_over (on_base bases records word ends none) ∙ no_writes_on_base (slice_get bases word)

-- what is under the writes depends on the bare page
base_bare : (slot : Slot) (key : KeyBytes) → base_of (slot_without_writes slot) key ≡ base_of slot key
base_bare Free key = refl
base_bare (Gone l) key = refl
base_bare (Live s) key = by s.body
  where
    by : (b : Body) → find key_cmp key (body_pairs (body_without_writes b)) ≡ find key_cmp key (body_pairs b)
    by (Pairs pairs writes) = refl
    by (Children level children) = refl

-- a look-up below a split's key is not changed by it
base_split : (bases : Bases) (slot : Slot) (k key : KeyBytes) (to : ℕ) → EndsAbove (change bases (Split k to) slot) key → base_of (change bases (Split k to) slot) key ≡ base_of slot key
base_split bases Free k key to above = refl
base_split bases (Gone l) k key to above = refl
base_split bases (Live s) k key to above = by s.body
  where
    lower : is_lt (key_cmp key k) ≡ true
    lower = holds (is_lt (key_cmp key k)) above

    by : (b : Body) → find key_cmp key (body_pairs (body_below k b)) ≡ find key_cmp key (body_pairs b)
    by (Pairs pairs writes) =
        find-where_key key_cmp (λ x. is_lt (key_cmp x k)) key (λ x tie. ap (λ (z : KeyBytes). is_lt (key_cmp z k)) (sym (keys_tie key x tie))) pairs
        ∙ ap (λ b. cond b (find key_cmp key pairs) None) lower
    by (Children level children) = refl

-- nor is one by an added child
base_added : (bases : Bases) (slot : Slot) (k key : KeyBytes) (child : ℕ) → base_of (change bases (AddChild k child) slot) key ≡ base_of slot key
base_added bases Free k key child = refl
base_added bases (Gone l) k key child = refl
base_added bases (Live s) k key child = by s.body
  where
    by : (b : Body) → find key_cmp key (body_pairs (body_with_child k child b)) ≡ find key_cmp key (body_pairs b)
    by (Pairs pairs writes) = refl
    by (Children level children) = refl

pointed_push : (found : List (Bor WriteView)) (b : Bor WriteView) (rest : List WriteView) → pointed_to (found ++ b ∷ []) ++ rest ≡ pointed_to found ++ (b.now ∷ rest)
pointed_push [] b rest = refl
pointed_push (x ∷ found) b rest = ap (λ (l : List WriteView). x.now ∷ l) (pointed_push found b rest)

-- a write to the key that was passed is the next one found
pub found_next : (found new : List (Bor WriteView)) (b : Bor WriteView) (key : KeyBytes) (below here all : List WriteView) → here ≡ writes_to key (b.now ∷ below) → key_eq key b.now.key ≡ true → new ≡ found ++ b ∷ [] →
    pointed_to found ++ here ≡ all → pointed_to new ++ writes_to key below ≡ all
found_next found new b key below here all step same pushed so_far =
    ap (λ (l : List (Bor WriteView)). pointed_to l ++ writes_to key below) pushed ∙ pointed_push found b (writes_to key below)
    ∙ sym (ap (λ (l : List WriteView). pointed_to found ++ l) (step ∙ ap (λ t. cond t (b.now ∷ writes_to key below) (writes_to key below)) same)) ∙ so_far

-- and one to another key isn't
pub found_same : (found : List (Bor WriteView)) (w : WriteView) (key : KeyBytes) (below here all : List WriteView) → here ≡ writes_to key (w ∷ below) → key_eq key w.key ≡ false →
    pointed_to found ++ here ≡ all → pointed_to found ++ writes_to key below ≡ all
found_same found w key below here all step other so_far =
    sym (ap (λ (l : List WriteView). pointed_to found ++ l) (step ∙ ap (λ t. cond t (w ∷ writes_to key below) (writes_to key below)) other)) ∙ so_far

nil_right : (l : List WriteView) → l ++ [] ≡ l
nil_right [] = refl
nil_right (x ∷ l) = ap (λ (m : List WriteView). x ∷ m) (nil_right l)

-- at the end of the writes all were found
pub found_all : (found : List (Bor WriteView)) (key : KeyBytes) (here all : List WriteView) → here ≡ [] → pointed_to found ++ writes_to key here ≡ all → pointed_to found ≡ all
found_all found key here all nothing so_far = sym (nil_right (pointed_to found)) ∙ sym (ap (λ (l : List WriteView). pointed_to found ++ writes_to key l) nothing) ∙ so_far

ends_bare : (slot : Slot) (key : KeyBytes) → EndsAbove slot key → EndsAbove (slot_without_writes slot) key
ends_bare Free key h = h
ends_bare (Gone l) key h = h
ends_bare (Live s) key h = h

ends_back : (slot : Slot) (key : KeyBytes) → EndsAbove (slot_without_writes slot) key → EndsAbove slot key
ends_back Free key h = h
ends_back (Gone l) key h = h
ends_back (Live s) key h = h

-- pages that are alike but for the writes end alike
ends_alike : (slot other : Slot) (key : KeyBytes) → slot_without_writes slot ≡ slot_without_writes other → EndsAbove slot key → EndsAbove other key
ends_alike slot other key same above = ends_back other key (subst (λ (s : Slot). EndsAbove s key) same (ends_bare slot key above))

-- and have the same value under them
value_alike : (slot other : Slot) (key : KeyBytes) → slot_without_writes slot ≡ slot_without_writes other → base_of slot key ≡ base_of other key
value_alike slot other key same = sym (base_bare slot key) ∙ ap (λ (s : Slot). base_of s key) same ∙ base_bare other key

-- so pairs that are under the writes of one are under those of the other
pub base_alike : (slot other : Slot) (pairs : List (KeyBytes × ValueBytes)) → slot_without_writes slot ≡ slot_without_writes other → HasPairsUnder other pairs → HasPairsUnder slot pairs
base_alike slot other pairs same values = λ key above. value_alike slot other key same ∙ values key (ends_alike slot other key same above)

-- the value under a chain's writes, from its base page
pub base_through : (bases : Bases) (slot : Slot) (o : Option (Bor Delta)) (page : Option (Bor Page)) (key : KeyBytes) → slot_without_writes slot ≡ slot_without_writes (over bases o (plain_at page)) → IsNoWrite o → EndsAbove slot key → base_of slot key ≡ base_of (plain_at page) key
base_through bases slot o page key same other above =
    value_alike slot (over bases o (plain_at page)) key same ∙ by o other (ends_alike slot (over bases o (plain_at page)) key same above)
  where
    by : (o : Option (Bor Delta)) → IsNoWrite o → EndsAbove (over bases o (plain_at page)) key → base_of (over bases o (plain_at page)) key ≡ base_of (plain_at page) key
    by None other h = refl
    by (Some d) other h = at d.now other h
      where
        at : (d : Delta) → IsOther d → EndsAbove (change bases d (plain_at page)) key → base_of (change bases d (plain_at page)) key ≡ base_of (plain_at page) key
        at (Put w) other h = absurd other
        at (Split k to) other h = base_split bases (plain_at page) k key to h
        at (Absorb base side) other h = refl
        at (Removed left) other h = absurd other
        at (AddChild k child) other h = base_added bases (plain_at page) k key child
        at (DropChild k) other h = refl

-- the page of an identifier is what its mapping word leads to
pub slot_of_head : (bases : Bases) (records : Records) (heads : List ℕ) (p d : ℕ) → p < length heads → slot_at (map (slot_of_word bases records) heads) p ≡ slot_of_word bases records (get_or heads p d)
slot_of_head bases records [] p d lt = absurd (omega arith)
slot_of_head bases records (h ∷ heads) zero d lt = refl
slot_of_head bases records (h ∷ heads) (suc p) d lt = slot_of_head bases records heads p d (omega arith)

-- an element that was read is the one there
pub read_is : {X : Type 0} (xs : List X) (i : ℕ) (x : X) → i < length xs → x ≡ get_or xs i x → slice_get xs i ≡ Some x
read_is [] i x lt is = absurd (omega arith)
read_is (y ∷ ys) zero x lt is = ap Some (sym is)
read_is (y ∷ ys) (suc i) x lt is = read_is ys i x (omega arith) is
