-- A root that goes leaves a tree that holds the same.
use Rattle.std.proofs.Common.{inl, inr, ◌⊎◌, set, ◌≡◌, ℕ, ◌<◌, ◌≤◌, ◌^◌, List, [], ◌∷◌, length, Option, Some, None, refl, sym, ap, ◌∙◌, subst, arith}
use Rattle.std.proofs.lemmas.Bool.{cases_eq}
use Rattle.std.proofs.lemmas.List.{get_or-set_other, get_or-set_same, length-map, length-set}
use Rattle.std.proofs.lemmas.Option.{slice_get-get_or}
use Rattle.std.specs.Prelude.{slice_get, slice_index}
use Rattle.bw_key.specs.Order.{KeyBytes}
use Rattle.bw_page.specs.declared.pages.Page.{Page}
use Rattle.bw_page.specs.declared.pages.Page.TheVariants.{Gone as GonePage}
use Rattle.bw_level.specs.Changes.{Bases}
use Rattle.bw_chain.specs.Chains.{Records, slot_of_word, slots_of}
use Rattle.bw_level.specs.Freeing.{IsAside}
use Rattle.bw_level.specs.Laws.{KeepsAll}
use Rattle.bw_level.specs.Roots.{HasOneChild, IsRootRemoved, levels_lowered, removed_root}
use Rattle.bw_level.specs.Searches.{IsInLevels}
use Rattle.bw_level.specs.Slots.{PageState, Free, Live, children_of, slot_at, slot_level}
use Rattle.bw_chain.specs.Supports.{base_under}
use Rattle.bw_chain.proofs.AdditionLemmas.{same_slot, slot_here}
use Rattle.bw_chain.proofs.BaseLemmas.{all_end, get_set_other, get_set_same, low, others_kept, own_after, put_there}
use Rattle.bw_level.proofs.LoweringLemmas.{kept_lower, lowered_aside, still_below}
use Rattle.bw_level.proofs.RouteLemmas.{held}
use Rattle.bw_tree.specs.TreeMerges.{IsLowered}
use Rattle.bw_look.specs.Trees.{ArePlaced, IsStanding, IsTree, StageWords, view_of}
use Rattle.bw_look.specs.View.{StageView, TreeView}
use Rattle.bw_tree.proofs.RebaseLemmas.{put_on}
use Rattle.bw_tree.proofs.StandingLemmas.{contents_same, same_levels, standing_kept}

not_free : {s : PageState} → Free ≡ Live s → ⊥
not_free e = cc

module _ (heads : List ℕ) (bases : Bases) (records : Records) (root next : ℕ) (t : IsStanding heads bases records root next) (child : ℕ) (one : HasOneChild (slots_of heads bases records) root child) where
  abbrev old : TreeView
  old = view_of heads bases records root next None

  abbrev word : ℕ
  word = slice_index heads root

  within : root < length heads
  within = omega (arith, held old.slots root (λ free. not_free (sym free ∙ one.is)), length-map heads (slot_of_word bases records))

  at_root : slice_get heads root ≡ Some word
  at_root = slice_get-get_or heads root 0 within

  abbrev base : ℕ
  base = base_under records word

  abbrev page : Page
  page = GonePage (removed_root (slot_level (slot_at old.slots root)) child)

  abbrev heads' : List ℕ
  heads' = set heads root base

  abbrev bases' : Bases
  bases' = set bases base (Some page)

  abbrev new : TreeView
  new = view_of heads' bases' records child next None

  abbrev after : List (List ℕ)
  after = levels_lowered old.levels

  removed : IsRootRemoved old.slots new.slots root child
  removed = record {
    one = one;
    gone = slot_here (slot_of_word bases' records) heads' root base (get_set_same heads root base within) ∙ put_there heads bases records t.ends t.own root word at_root page;
    others = λ q other. same_slot (slot_of_word bases records) (slot_of_word bases' records) heads heads' q (get_set_other heads root q base other)
        (λ w at_q. others_kept heads bases records t.ends t.own root word at_root page q w at_q other);
  }

  kept : KeepsAll old.slots new.slots child old.levels after
  kept = kept_lower old.slots new.slots root old.levels child t.lawful removed

  placed : slice_index heads' root ≡ base
  placed = get_or-set_same heads root base 0 within

  base_low : base < 2 ^ 32
  base_low = low heads bases records t.ends t.own root word at_root page

  -- the root, which goes, has no record any more
  placed_new : ArePlaced heads' after
  placed_new r lt high = by (cases_eq r root)
    where
      by : (r ≡ root) ⊎ (r ≡ root → ⊥) → IsInLevels after r
      by (inl here) = absurd (omega (arith, high, ap (slice_index heads') here ∙ placed, base_low))
      by (inr other) =
          still_below old.slots root old.levels child t.lawful one r other
          (t.placed r (omega (arith, lt, length-set heads root base)) (subst (λ w. 2 ^ 32 ≤ w) (get_or-set_other heads root r base 0 other) high))

  standing : IsStanding heads' bases' records child next
  standing = standing_kept heads bases records root next t heads' bases' records child after kept
      (all_end heads bases records t.ends t.own root word at_root page) (own_after heads bases records t.ends t.own root word at_root page)
      t.few_records (omega (arith, t.few_pages, length-set heads root base)) (omega (arith, t.few_bases, length-set bases base (Some page))) placed_new

  same : new.levels ≡ after
  same = same_levels heads bases records root next t heads' bases' records child after kept

  lowered : IsLowered old new child
  lowered = record {
    removed = removed;
    aside = subst (λ (l : List (List ℕ)). IsAside new.slots l root) (sym same) (lowered_aside old.slots new.slots root old.levels child t.lawful removed);
    levels = same;
    contents = contents_same heads bases records root next t heads' bases' records child after kept;
    heads = ap (λ n. set heads root n) (sym placed);
    plain = omega (arith, placed, base_low);
    root = refl;
    records = refl;
    next = refl;
    staged = refl;
  }

-- so does one where the base page under the root's chain was replaced
pub lowered_on : (heads : List ℕ) (bases : Bases) (records : Records) (root next : ℕ) (staged : Option StageWords) (tree : TreeView) → view_of heads bases records root next staged ≡ tree → tree.staged ≡ None → IsTree heads bases records root next staged → (child : ℕ) → HasOneChild tree.slots tree.root child →
    (heads' : List ℕ) (bases' : Bases) (records' : Records) (base : ℕ) → base ≡ base_under records (slice_index heads root) → heads' ≡ set heads root base → bases' ≡ set bases base (Some (GonePage (removed_root (slot_level (slot_at tree.slots tree.root)) child))) → records' ≡ records →
    IsTree heads' bases' records' child next staged × IsLowered tree (view_of heads' bases' records' child next staged) child
lowered_on heads bases records root next None tree is none t child one heads' bases' records' base based set_there put same =
    put_on IsMade heads bases records root (base_under records (slice_index heads root)) page (
      record { now = standing heads bases records root next t.now child one_here; stage = tt },
      subst (λ (v : TreeView). IsLowered v (view_of (set heads root (base_under records (slice_index heads root))) (set bases (base_under records (slice_index heads root)) (Some page)) records child next None) child) is (lowered heads bases records root next t.now child one_here),
    )
    heads' bases' records' base based set_there (put ∙ ap (λ (v : TreeView). set bases base (Some (GonePage (removed_root (slot_level (slot_at v.slots v.root)) child)))) (sym is)) same
  where
    one_here : HasOneChild (slots_of heads bases records) root child
    one_here = subst (λ (v : TreeView). HasOneChild v.slots v.root child) (sym is) one

    page : Page
    page = GonePage (removed_root (slot_level (slot_at (slots_of heads bases records) root)) child)

    IsMade : List ℕ → Bases → Records → Type 0
    IsMade h b r = IsTree h b r child next None × IsLowered tree (view_of h b r child next None) child
lowered_on heads bases records root next (Some stage) tree is none t child one heads' bases' records' base based set_there put same = absurd (unstaged (ap (λ (v : TreeView). v.staged) is ∙ none))
  where
    unstaged : {s : StageView} → Some s ≡ None → ⊥
    unstaged e = cc

one_state : {s t : PageState} → Live s ≡ Live t → s ≡ t
one_state e = cc

one_entry : {d e : KeyBytes × ℕ} → d ∷ [] ≡ e ∷ [] → d ≡ e
one_entry e = cc

-- a root has no two only children
pub one_child : (tree : TreeView) (child other : ℕ) → HasOneChild tree.slots tree.root child → HasOneChild tree.slots tree.root other → child ≡ other
one_child tree child other one too =
    let same : one.state ≡ too.state = one_state (sym one.is ∙ too.is) in
    ap (λ (e : KeyBytes × ℕ). e.1) (one_entry (sym one.only ∙ ap (λ (s : PageState). children_of s.body) same ∙ too.only))
