-- A page takes the place of the chain that makes the same.
use Rattle.std.proofs.Common.{set, ◌≡◌, ℕ, ◌<◌, ◌^◌, List, length, Option, Some, None, sym, ap, ◌∙◌, subst, arith}
use Rattle.std.proofs.lemmas.Option.{slice_get-get_or}
use Rattle.std.proofs.lemmas.List.{get_or-set_same, length-set}
use Rattle.std.specs.List.{AllByRecursion}
use Rattle.std.specs.Prelude.{slice_get, slice_index}
use Rattle.bw_page.specs.declared.pages.Page.{Page}
use Rattle.bw_delta.specs.History.{HasDistinctStamps}
use Rattle.bw_level.specs.Searches.{AllStand}
use Rattle.bw_level.specs.Changes.{Bases, plain}
use Rattle.bw_chain.specs.Chains.{Records, slots_of}
use Rattle.bw_level.specs.Entries.{AreExact}
use Rattle.bw_level.specs.Levels.{AreLevels, levels_under}
use Rattle.bw_level.specs.Slots.{Slot, slot_at}
use Rattle.bw_chain.specs.Supports.{base_under}
use Rattle.bw_chain.proofs.BaseLemmas.{all_end, low, own_after, same_slots}
use Rattle.bw_chain.proofs.ReadingLemmas.{slot_of_head}
use Rattle.bw_tree.specs.Consolidation.{IsRebased}
use Rattle.bw_look.specs.Trees.{ArePlaced, IsStanding, IsTree, StageWords, leaf_writes, view_of}
use Rattle.bw_look.specs.View.{StageView, TreeView}
use Rattle.bw_tree.proofs.StandingLemmas.{placed_set}

-- Pages stand where one took the place of a chain and the levels are the same, if these levels, their index entries and
-- the writes are lawful.
module _ (heads : List ℕ) (bases : Bases) (records : Records) (root next : ℕ) (t : IsStanding heads bases records root next) (p word : ℕ) (within : p < length heads) (at : slice_get heads p ≡ Some word) (page : Page) where
  abbrev heads_with : List ℕ
  heads_with = set heads p (base_under records word)

  abbrev bases_with : Bases
  bases_with = set bases (base_under records word) (Some page)

  abbrev slots_with : List Slot
  slots_with = slots_of heads_with bases_with records

  pub stands_with : AreLevels slots_with root (levels_under slots_with root) → AreExact slots_with (levels_under slots_with root) → AllStand slots_with (levels_under slots_with root) → HasDistinctStamps (leaf_writes slots_with root) → AllByRecursion (λ w. w.stamp < next) (leaf_writes slots_with root) → levels_under slots_with root ≡ levels_under (slots_of heads bases records) root → IsStanding heads_with bases_with records root next
  stands_with lawful exact stand distinct past same = record {
    ends = all_end heads bases records t.ends t.own p word at page;
    own = own_after heads bases records t.ends t.own p word at page;
    lawful = lawful;
    exact = exact;
    stand = stand;
    distinct = distinct;
    past = past;
    placed = subst (ArePlaced heads_with) (sym same)
        (placed_set heads (levels_under (slots_of heads bases records) root) p (base_under records word) within
        (λ high. absurd (omega (arith, high, low heads bases records t.ends t.own p word at page))) t.placed);
    fits = t.fits;
    few_records = t.few_records;
    few_pages = omega (arith, t.few_pages, length-set heads p (base_under records word));
    few_bases = omega (arith, t.few_bases, length-set bases (base_under records word) (Some page));
  }

-- what holds of a tree in which a page took the place of a chain
pub put_on : (IsMade : List ℕ → Bases → Records → Type 0) (heads : List ℕ) (bases : Bases) (records : Records) (p under : ℕ) (page : Page) → IsMade (set heads p under) (set bases under (Some page)) records →
    (heads' : List ℕ) (bases' : Bases) (records' : Records) (base : ℕ) → base ≡ under → heads' ≡ set heads p base → bases' ≡ set bases base (Some page) → records' ≡ records → IsMade heads' bases' records'
put_on IsMade heads bases records p under page made heads' bases' records' base based placed put same =
    subst (λ (r : Records). IsMade heads' bases' r) (sym same)
    (subst (λ (b : Bases). IsMade heads' b records) (sym put)
    (subst (λ (h : List ℕ). IsMade h (set bases base (Some page)) records) (sym placed)
    (subst (λ n. IsMade (set heads p n) (set bases n (Some page)) records) (sym based) made)))

module _ (heads : List ℕ) (bases : Bases) (records : Records) (root next : ℕ) (t : IsStanding heads bases records root next) (p : ℕ) (within : p < length heads) (page : Page) (made : slot_at (slots_of heads bases records) p ≡ plain page) where
  abbrev word : ℕ
  word = slice_index heads p

  at_p : slice_get heads p ≡ Some word
  at_p = slice_get-get_or heads p 0 within

  abbrev base : ℕ
  base = base_under records word

  abbrev heads' : List ℕ
  heads' = set heads p base

  abbrev bases' : Bases
  bases' = set bases base (Some page)

  kept : slots_of heads' bases' records ≡ slots_of heads bases records
  kept = same_slots heads bases records t.ends t.own p word at_p page (sym (slot_of_head bases records heads p 0 within) ∙ made)

  standing : IsStanding heads' bases' records root next
  standing = stands_with heads bases records root next t p word within at_p page
      (subst (λ (s : List Slot). AreLevels s root (levels_under s root)) (sym kept) t.lawful)
      (subst (λ (s : List Slot). AreExact s (levels_under s root)) (sym kept) t.exact)
      (subst (λ (s : List Slot). AllStand s (levels_under s root)) (sym kept) t.stand)
      (subst (λ (s : List Slot). HasDistinctStamps (leaf_writes s root)) (sym kept) t.distinct)
      (subst (λ (s : List Slot). AllByRecursion (λ w. w.stamp < next) (leaf_writes s root)) (sym kept) t.past)
      (ap (λ (s : List Slot). levels_under s root) kept)

  abbrev viewed : List Slot → List ℕ → TreeView
  viewed slots words = record { slots = slots; root = root; levels = levels_under slots root; heads = words; records = length records; next = next; staged = None }

  placed : slice_index heads' p ≡ base
  placed = get_or-set_same heads p base 0 within

  rebased : IsRebased (view_of heads bases records root next None) (view_of heads' bases' records root next None) p
  rebased = record {
    view = ap (λ (s : List Slot). viewed s heads') kept ∙ ap (λ n. viewed (slots_of heads bases records) (set heads p n)) (sym placed);
    plain = subst (λ n. n < 2 ^ 32) (sym placed) (low heads bases records t.ends t.own p word at_p page);
  }

-- a page has a mapping word
pub heads_there : (heads : List ℕ) (bases : Bases) (records : Records) (root next : ℕ) (staged : Option StageWords) (tree : TreeView) (p : ℕ) → view_of heads bases records root next staged ≡ tree → p < length tree.heads → p < length heads
heads_there heads bases records root next staged tree p is there = subst (λ (v : TreeView). p < length v.heads) (sym is) there

-- so does a tree that was given the page in the place of the base page
pub rebased_on : (heads : List ℕ) (bases : Bases) (records : Records) (root next : ℕ) (staged : Option StageWords) (tree : TreeView) (p : ℕ) (page : Page) → IsTree heads bases records root next staged → view_of heads bases records root next staged ≡ tree → tree.staged ≡ None → p < length tree.heads → slot_at tree.slots p ≡ plain page →
    (heads' : List ℕ) (bases' : Bases) (records' : Records) (base : ℕ) → base ≡ base_under records (slice_index heads p) → heads' ≡ set heads p base → bases' ≡ set bases base (Some page) → records' ≡ records →
    IsTree heads' bases' records' root next staged × IsRebased tree (view_of heads' bases' records' root next staged) p
rebased_on heads bases records root next None tree p page t is none within made heads' bases' records' base based placed put same =
    let here : p < length heads = subst (λ (v : TreeView). p < length v.heads) (sym is) within in
    let made_here : slot_at (slots_of heads bases records) p ≡ plain page = ap (λ (v : TreeView). slot_at v.slots p) is ∙ made in
    put_on IsMade heads bases records p under page (
      record { now = standing heads bases records root next t.now p here page made_here; stage = tt },
      subst (λ (v : TreeView). IsRebased v (view_of (set heads p under) (set bases under (Some page)) records root next None) p) is (rebased heads bases records root next t.now p here page made_here),
    )
    heads' bases' records' base based placed put same
  where
    under : ℕ
    under = base_under records (slice_index heads p)

    IsMade : List ℕ → Bases → Records → Type 0
    IsMade h b r = IsTree h b r root next None × IsRebased tree (view_of h b r root next None) p
rebased_on heads bases records root next (Some stage) tree p page t is none within made heads' bases' records' base based placed put same = absurd (unstaged (ap (λ (v : TreeView). v.staged) is ∙ none))
  where
    unstaged : {s : StageView} → Some s ≡ None → ⊥
    unstaged e = cc
