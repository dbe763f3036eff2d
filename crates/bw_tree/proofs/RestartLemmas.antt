-- Records and stamps that start over.
use Rattle.std.proofs.Common.{inl, inr, ◌⊎◌, ◌≡◌, ℕ, zero, suc, ◌<◌, ◌≤◌, ◌^◌, List, [], ◌∷◌, ◌++◌, length, take, Option, Some, None, refl, sym, ap, ◌∙◌, subst, arith}
use Rattle.std.proofs.lemmas.Bool.{cases_lt}
use Rattle.std.proofs.lemmas.Option.{slice_get-get_or}
use Rattle.std.specs.FinMap.{from_entries}
use Rattle.std.specs.List.{AllByRecursion}
use Rattle.std.specs.Prelude.{slice_get, slice_index}
use Rattle.bw_key.specs.Order.{key_cmp}
use Rattle.bw_delta.specs.ContentsAsOf.{contents_as_of}
use Rattle.bw_delta.specs.History.{HasDistinctStamps}
use Rattle.bw_delta.specs.Writes.{WriteView}
use Rattle.bw_level.specs.Searches.{AllStand}
use Rattle.bw_level.specs.Changes.{Bases}
use Rattle.bw_chain.specs.Chains.{Records, Ends, EndsAt, link_of, slot_of_word, slots_of}
use Rattle.bw_level.specs.Entries.{AreExact}
use Rattle.bw_level.specs.Levels.{AreLevels, row, levels_under}
use Rattle.bw_level.specs.Reading.{row_pairs, row_writes, writes_over}
use Rattle.bw_level.specs.Slots.{Slot, slot_at}
use Rattle.bw_level.specs.Walk.{Leads}
use Rattle.bw_chain.proofs.ChainLemmas.{no_link, no_next, no_record, on_base, same_next}
use Rattle.bw_chain.proofs.GrowthLemmas.{same_map}
use Rattle.bw_chain.proofs.InPlaceLemmas.{under_plain}
use Rattle.bw_look.specs.Trees.{IsStanding, IsTree, StageWords, leaf_writes, view_of}
use Rattle.bw_look.specs.View.{StageView, TreeView, contents_at}
use Rattle.bw_look.proofs.RoutingLemmas.{none_on, slot_past}
use Rattle.bw_tree.proofs.OverLemmas.{unwritten}

abbrev pub ArePlain : List ℕ → Type 0
ArePlain heads = AllByRecursion (λ w. w < 2 ^ 32) heads

each_plain : (heads : List ℕ) (p word : ℕ) → ArePlain heads → slice_get heads p ≡ Some word → word < 2 ^ 32
each_plain [] p word plain at = absurd (no_next at)
each_plain (x ∷ heads) zero word plain at = subst (λ n. n < 2 ^ 32) (same_next at) plain.0
each_plain (x ∷ heads) (suc p) word plain at = each_plain heads p word plain.1 at

-- a word that names a base page leads nowhere else
alone : (records : Records) (word : ℕ) → word < 2 ^ 32 → Leads (link_of records) word [] word
alone records word low = (refl, sym (no_link records word low))

still_based : (bases : Bases) (records : Records) (word : ℕ) → word < 2 ^ 32 → Ends bases records word → Ends bases [] word
still_based bases records word low ends = by ends.0 ends.1.0 ends.1.1
  where
    by : (ws : List ℕ) (e : ℕ) → EndsAt bases records word ws e → Ends bases [] word
    by [] e h = ([], (word, record { way = alone [] word low; short = omega arith; within = omega (arith, h.within, h.way.0); limit = low; shaped = tt }))
    by (w ∷ ws) e h = absurd (no_next (no_link records word low ∙ h.way.1.1))

module _ (heads : List ℕ) (bases : Bases) (records : Records) (root next : ℕ) (t : IsStanding heads bases records root next) (plain : ArePlain heads) where
  abbrev old : List Slot
  old = slots_of heads bases records

  abbrev leaves : List ℕ
  leaves = row (levels_under old root) 0

  same_slots : slots_of heads bases [] ≡ old
  same_slots = same_map (slot_of_word bases records) (slot_of_word bases []) heads (λ p word at.
      let low = each_plain heads p word plain at in
      on_base bases [] word (still_based bases records word low (t.ends p word at)) (no_record [] word low)
      ∙ sym (on_base bases records word (t.ends p word at) (no_record records word low)))

  none_over : (p : ℕ) → writes_over (slot_at old p) ≡ []
  none_over p = by (cases_lt p (length heads))
    where
      by : (p < length heads) ⊎ (length heads ≤ p) → writes_over (slot_at old p) ≡ []
      by (inl lt) = none_on heads bases records root next t p (each_plain heads p (slice_index heads p) plain (slice_get-get_or heads p 0 lt))
      by (inr ge) = ap writes_over (slot_past (slot_of_word bases records) heads p ge)

  none_new : (p : ℕ) → writes_over (slot_at (slots_of heads bases []) p) ≡ []
  none_new p = ap (λ (s : List Slot). writes_over (slot_at s p)) same_slots ∙ none_over p

  none_in : (ps : List ℕ) → row_writes old ps ≡ []
  none_in [] = refl
  none_in (p ∷ ps) = ap (λ (l : List WriteView). l ++ row_writes old ps) (none_over p) ∙ none_in ps

  no_writes : leaf_writes old root ≡ []
  no_writes = none_in leaves

  standing : IsStanding heads bases [] root 0
  standing = record {
    ends = λ p word at. still_based bases records word (each_plain heads p word plain at) (t.ends p word at);
    own = record {
      count = t.own.count;
      number = λ p word at.
          let low = each_plain heads p word plain at in
          under_plain [] word low ∙ sym (under_plain records word low) ∙ t.own.number p word at;
    };
    lawful = subst (λ (s : List Slot). AreLevels s root (levels_under s root)) (sym same_slots) t.lawful;
    exact = subst (λ (s : List Slot). AreExact s (levels_under s root)) (sym same_slots) t.exact;
    stand = subst (λ (s : List Slot). AllStand s (levels_under s root)) (sym same_slots) t.stand;
    distinct = subst (λ (s : List Slot). HasDistinctStamps (leaf_writes s root)) (sym same_slots) t.distinct;
    past = subst (λ (s : List Slot). AllByRecursion (λ w. w.stamp < 0) (leaf_writes s root)) (sym same_slots) (subst (λ (l : List WriteView). AllByRecursion (λ w. w.stamp < 0) l) (sym no_writes) tt);
    placed = λ p lt high. absurd (omega (arith, high, each_plain heads p (slice_index heads p) plain (slice_get-get_or heads p 0 lt)));
    fits = omega arith;
    few_records = omega arith;
    few_pages = t.few_pages;
    few_bases = t.few_bases;
  }

  -- without writes all stamps are one
  held : (stamp : ℕ) → contents_at (view_of heads bases records root next None) stamp ≡ from_entries (row_pairs old leaves)
  held stamp =
      ap (λ (ws : List WriteView). contents_as_of (from_entries {R = key_cmp} (row_pairs old leaves)) ws stamp) no_writes
      ∙ unwritten (from_entries (row_pairs old leaves)) stamp

  abbrev viewed : List Slot → TreeView
  viewed slots = record { slots = slots; root = root; levels = levels_under slots root; heads = heads; records = 0; next = 0; staged = None }

  same_view : view_of heads bases [] root 0 None ≡ record (view_of heads bases records root next None) { records = 0; next = 0 }
  same_view = ap viewed same_slots

  same_contents : (stamp : ℕ) → contents_at (view_of heads bases [] root 0 None) stamp ≡ contents_at (view_of heads bases records root next None) next
  same_contents stamp = ap (λ (v : TreeView). contents_at v stamp) same_view ∙ held stamp ∙ sym (held next)

-- a tree that was started over: it is lawful, is what it was asked to be, and holds what it held
pub record IsRestarted (heads : List ℕ) (bases : Bases) (records : Records) (root : ℕ) (staged : Option StageWords) (tree : TreeView) : Type 0 where
  pub tree_is : IsTree heads bases records root 0 staged
  pub view : view_of heads bases records root 0 staged ≡ record tree { records = 0; next = 0 }
  pub contents : (stamp : ℕ) → contents_at (view_of heads bases records root 0 staged) stamp ≡ contents_at tree tree.next
  pub bare : (p : ℕ) → writes_over (slot_at (slots_of heads bases records) p) ≡ []

none_taken : {X : Type 0} (xs : List X) → take 0 xs ≡ []
none_taken [] = refl
none_taken (x ∷ xs) = refl

pub restart_on : (heads : List ℕ) (bases : Bases) (records : Records) (root next : ℕ) (staged : Option StageWords) (tree : TreeView) → IsTree heads bases records root next staged → view_of heads bases records root next staged ≡ tree → tree.staged ≡ None → ArePlain tree.heads →
    (bases' : Bases) (records' : Records) → bases' ≡ bases → records' ≡ take 0 records → IsRestarted heads bases' records' root staged tree
restart_on heads bases records root next None tree t is none plain bases' records' same_bases cut =
    let plain_here : ArePlain heads = subst (λ (v : TreeView). ArePlain v.heads) (sym is) plain in
    let here : IsRestarted heads bases [] root None (view_of heads bases records root next None) = record {
      tree_is = record { now = standing heads bases records root next t.now plain_here; stage = tt };
      view = same_view heads bases records root next t.now plain_here;
      contents = same_contents heads bases records root next t.now plain_here;
      bare = none_new heads bases records root next t.now plain_here;
    } in
    subst (λ (v : TreeView). IsRestarted heads bases' records' root None v) is
    (subst (λ (b : Bases). IsRestarted heads b records' root None (view_of heads bases records root next None)) (sym same_bases)
    (subst (λ (r : Records). IsRestarted heads bases r root None (view_of heads bases records root next None)) (sym (cut ∙ none_taken records)) here))
restart_on heads bases records root next (Some stage) tree t is none plain bases' records' same_bases cut = absurd (different (ap (λ (v : TreeView). v.staged) is ∙ none))
  where
    different : {s : StageView} → Some s ≡ None → ⊥
    different e = cc
