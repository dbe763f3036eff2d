-- Staging a batch.
use Rattle.std.proofs.Common.{◌≡◌, ℕ, ◌+◌, ◌-◌, ◌≤◌, ◌^◌, false, List, [], ◌++◌, length, map, take, drop, Option, Some, None, refl, sym, ap, ◌∙◌, subst, arith, length-append}
use Rattle.std.specs.FinMap.{from_entries}
use Rattle.std.proofs.lemmas.List.{append-nil, length-map}
use Rattle.std.proofs.lemmas.List.Sorted.{IsPermutation-refl, length_permutation}
use Rattle.std.specs.List.Sorted.{IsPermutation}
use Rattle.bw_model.specs.Model.{contents_after}
use Rattle.bw_model.specs.declared.operations.Op.{Op}
use Rattle.bw_delta.specs.Writes.{WriteView}
use Rattle.bw_delta.specs.Batches.{writes_of}
use Rattle.bw_delta.specs.History.{HasDistinctStamps}
use Rattle.bw_delta.specs.declared.deltas.Delta.TheVariants.{Put}
use Rattle.bw_delta.proofs.Stagings.{AreBelow, below_all}
use Rattle.bw_level.specs.Searches.{AllStand}
use Rattle.bw_level.specs.Slots.{Slot}
use Rattle.bw_level.specs.Entries.{AreExact}
use Rattle.bw_level.specs.Levels.{AreLevels, row, levels_under}
use Rattle.bw_level.specs.Changes.{Bases}
use Rattle.bw_chain.specs.Chains.{Records, slot_of_word, slots_of}
use Rattle.bw_chain.proofs.RecordLemmas.{unlinked_put, writes_unlinked}
use Rattle.bw_look.specs.Trees.{ArePlaced, IsStanding, IsTree, StageWords, view_of}
use Rattle.bw_chain.specs.Records.{unlinked, writes_in}
use Rattle.bw_tree.specs.Stages.{staged_with}
use Rattle.bw_tree.proofs.StampedLemmas.{batch_stamped, permuted_below, permuted_read}
use Rattle.bw_look.specs.View.{TreeView, StageView, contents_at, contents_with}
use Rattle.bw_level.specs.Reading.{row_pairs, row_writes}
use Rattle.bw_chain.proofs.SupportLemmas.{still_rests}
use Rattle.bw_chain.proofs.GrowthLemmas.{Extends, append_extends, drop_front, same_map, still_ends, take_front}

-- the same pages, with room for later stamps
pub stands_on : (heads : List ℕ) (bases : Bases) (old new : Records) (root bound later : ℕ) → IsStanding heads bases old root bound → Extends old new → length old ≤ length new → bound ≤ later → later ≤ 2 ^ 40 → length new ≤ 2 ^ 32 →
    (slots_of heads bases new ≡ slots_of heads bases old) × IsStanding heads bases new root later
stands_on heads bases old new root bound later t kept more le fits few = (
  same,
  record {
    ends = λ p word e. (still_ends bases old new word kept more (t.ends p word e)).0;
    own = record {
      count = t.own.count;
      number = λ p word at. still_rests bases old new word kept more (t.ends p word at) ∙ t.own.number p word at;
    };
    lawful = subst (λ (s : List Slot). AreLevels s root (levels_under s root)) (sym same) t.lawful;
    exact = subst (λ (s : List Slot). AreExact s (levels_under s root)) (sym same) t.exact;
    stand = subst (λ (s : List Slot). AllStand s (levels_under s root)) (sym same) t.stand;
    distinct = subst (λ (s : List Slot). HasDistinctStamps (row_writes s (row (levels_under s root) 0))) (sym same) t.distinct;
    past = subst (λ (s : List Slot). AreBelow later (row_writes s (row (levels_under s root) 0))) (sym same) (below_all bound later (row_writes (slots_of heads bases old) (row (levels_under (slots_of heads bases old) root) 0)) le t.past);
    placed = subst (λ (s : List Slot). ArePlaced heads (levels_under s root)) (sym same) t.placed;
    fits = fits;
    few_records = few;
    few_pages = t.few_pages;
    few_bases = t.few_bases;
  },
)
  where
    same : slots_of heads bases new ≡ slots_of heads bases old
    same = same_map (slot_of_word bases old) (slot_of_word bases new) heads (λ p word e. (still_ends bases old new word kept more (t.ends p word e)).1)

-- there are as many records more as a batch has writes
pub staged_count : (old new : Records) (batch ws : List WriteView) (n m : ℕ) → IsPermutation batch ws → new ≡ old ++ unlinked ws → n ≡ length old → m ≡ length new → m - n ≡ length batch
staged_count old new batch ws n m same grown n_is m_is =
    let added : length (unlinked ws) ≡ length ws = length-map ws (λ w. (Put w, 0)) in
    omega (arith, n_is, m_is, ap (λ (r : Records). length r) grown ∙ length-append old (unlinked ws), added, length_permutation batch ws same)

-- a batch that was staged with these writes, for each stamp of its first operation: the tree is lawful, is what it was asked to
-- be, and is read in turn
pub record IsStagedOn (heads : List ℕ) (bases : Bases) (records : Records) (root next : ℕ) (staged : Option StageWords) (tree : TreeView) (ops : List Op) (batch : ℕ → List WriteView) : Type 0 where
  pub tree_is : IsTree heads bases records root next staged
  pub view : view_of heads bases records root next staged ≡ staged_with tree (length ops) (batch tree.next)
  pub reads : (i : ℕ) → contents_with (view_of heads bases records root next staged) (tree.next + i) ≡ contents_after (take i ops) (contents_at tree tree.next)

module _ (ops : List Op) (batch : ℕ → List WriteView) (all : (base : ℕ) → IsPermutation (writes_of base ops) (batch base)) where
  module _ (heads : List ℕ) (bases : Bases) (records : Records) (root next : ℕ) (t : IsStanding heads bases records root next) (fits : next + length ops ≤ 2 ^ 40) (few : length (records ++ unlinked (batch next)) ≤ 2 ^ 32) where
    abbrev writes : List WriteView
    writes = batch next

    abbrev more : Records
    more = records ++ unlinked writes

    abbrev words : StageWords
    words = record { records = length records; ops = length ops; before = None }

    longer : length more ≡ length records + length writes
    longer = length-append records (unlinked writes) ∙ ap (λ n. length records + n) (length-map writes (λ w. (Put w, 0)))

    grown : (slots_of heads bases more ≡ slots_of heads bases records) × IsStanding heads bases more root (next + length ops)
    grown = stands_on heads bases records more root next (next + length ops) t (append_extends records (unlinked writes)) (omega (arith, longer)) (omega arith) fits few

    first_part : take (length records) more ≡ records
    first_part = take_front records (unlinked writes)

    staged_tree : IsTree heads bases more root next (Some words)
    staged_tree = record {
      now = grown.1;
      stage = record {
        writes = writes;
        links = map (λ w. 0) writes;
        parts = ap (λ (r : Records). r ++ unlinked writes) (sym first_part) ∙ ap (λ (r : Records). take (length records) more ++ r) (unlinked_put writes);
        linked = length-map writes (λ w. 0);
        earlier = omega (arith, longer);
        stamped = batch_stamped next ops writes (all next);
        below = permuted_below next ops writes (all next) (next + length ops) (omega arith);
        before = subst (λ (r : Records). IsStanding heads bases r root next) (sym first_part) t;
        same = ap (λ (r : Records). levels_under (slots_of heads bases r) root) first_part ∙ ap (λ (s : List Slot). levels_under s root) (sym grown.0);
      };
    }

    abbrev viewed : List Slot → ℕ → Records → List WriteView → TreeView
    viewed slots count before ws =
        let was = slots_of heads bases before in
        record {
          slots = slots;
          root = root;
          levels = levels_under slots root;
          heads = heads;
          records = count;
          next = next;
          staged = Some (record { slots = was; levels = levels_under was root; heads = heads; records = length records; ops = length ops; writes = ws; adopted = false });
        }

    staged_view : view_of heads bases more root next (Some words) ≡ staged_with (view_of heads bases records root next None) (length ops) writes
    staged_view =
        ap (λ s. viewed s (length more) (take (length records) more) (writes_in (drop (length records) more))) grown.0
        ∙ ap (λ n. viewed (slots_of heads bases records) n (take (length records) more) (writes_in (drop (length records) more))) longer
        ∙ ap (λ r. viewed (slots_of heads bases records) (length records + length writes) r (writes_in (drop (length records) more))) first_part
        ∙ ap (λ w. viewed (slots_of heads bases records) (length records + length writes) records w) (ap writes_in (drop_front records (unlinked writes)) ∙ writes_unlinked writes)

    staged_reads : (i : ℕ) → contents_with (view_of heads bases more root next (Some words)) (next + i) ≡ contents_after (take i ops) (contents_at (view_of heads bases records root next None) next)
    staged_reads i =
        let slots = slots_of heads bases records in
        let ps = row (levels_under slots root) 0 in
        ap (λ (v : TreeView). contents_with v (next + i)) staged_view
        ∙ permuted_read next ops writes (all next) (row_writes slots ps) t.distinct t.past (from_entries (row_pairs slots ps)) i

    pub stage_all : IsStagedOn heads bases more root next (Some words) (view_of heads bases records root next None) ops batch
    stage_all = record { tree_is = staged_tree; view = staged_view; reads = staged_reads }

  pub stage_on : (heads : List ℕ) (bases : Bases) (records : Records) (root next : ℕ) (staged : Option StageWords) (tree : TreeView) → IsTree heads bases records root next staged → view_of heads bases records root next staged ≡ tree → tree.staged ≡ None → tree.next + length ops ≤ 2 ^ 40 →
      (bases' : Bases) (records' : Records) (staged' : Option StageWords) (n m : ℕ) → bases' ≡ bases → records' ≡ records ++ unlinked (batch next) → length records' ≤ 2 ^ 32 → staged' ≡ Some (record { records = n; ops = m; before = None }) → n ≡ length records → m ≡ length ops →
      IsStagedOn heads bases' records' root next staged' tree ops batch
  stage_on heads bases records root next None tree t is none fits bases' records' staged' n m same_bases grown few replaced count length_is =
      let fits_here : next + length ops ≤ 2 ^ 40 = subst (λ (v : TreeView). v.next + length ops ≤ 2 ^ 40) (sym is) fits in
      let few_here = subst (λ (r : Records). length r ≤ 2 ^ 32) grown few in
      let made = stage_all heads bases records root next t.now fits_here few_here in
      subst (λ (v : TreeView). IsStagedOn heads bases' records' root next staged' v ops batch) is
      (subst (λ (b : Bases). IsStagedOn heads b records' root next staged' (view_of heads bases records root next None) ops batch) (sym same_bases)
      (subst (λ (r : Records). IsStagedOn heads bases r root next staged' (view_of heads bases records root next None) ops batch) (sym grown)
      (subst (λ (s : Option StageWords). IsStagedOn heads bases (records ++ unlinked (batch next)) root next s (view_of heads bases records root next None) ops batch)
      (sym (replaced ∙ ap (λ k. Some (record { records = k; ops = m; before = None })) count ∙ ap (λ k. Some (record { records = length records; ops = k; before = None })) length_is)) made)))
  stage_on heads bases records root next (Some s) tree t is none fits bases' records' staged' n m same_bases grown few replaced count length_is = absurd (different (ap (λ (v : TreeView). v.staged) is ∙ none))
    where
      different : {x : StageView} → Some x ≡ None → ⊥
      different e = cc

-- the same of a batch that only reads, which has no record
pub stage_reads_on : (heads : List ℕ) (bases : Bases) (records : Records) (root next : ℕ) (staged : Option StageWords) (tree : TreeView) (ops : List Op) → IsTree heads bases records root next staged → view_of heads bases records root next staged ≡ tree → tree.staged ≡ None → tree.next + length ops ≤ 2 ^ 40 → writes_of tree.next ops ≡ [] →
    (staged' : Option StageWords) (n m : ℕ) → staged' ≡ Some (record { records = n; ops = m; before = None }) → n ≡ length records → m ≡ length ops →
    IsStagedOn heads bases records root next staged' tree ops (λ base. writes_of base ops)
stage_reads_on heads bases records root next staged tree ops t is none fits reads staged' n m replaced count length_is =
    stage_on ops (λ base. writes_of base ops) (λ base. IsPermutation-refl (writes_of base ops)) heads bases records root next staged tree t is none fits bases records staged' n m refl
    (sym (ap (λ (v : TreeView). records ++ unlinked (writes_of v.next ops)) is ∙ ap (λ ws. records ++ unlinked ws) reads ∙ append-nil records)) t.now.few_records replaced count length_is
