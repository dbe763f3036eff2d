-- A page that loses a child leaves a tree that holds the same.
use Rattle.std.proofs.Common.{set, get_or, ◌≡◌, ℕ, suc, ◌+◌, ◌<◌, ◌^◌, true, false, List, [], ◌∷◌, ◌++◌, length, Option, Some, None, refl, sym, ap, ◌∙◌, subst, arith, length-append}
use Rattle.std.proofs.lemmas.Option.{slice_get-get_or}
use Rattle.std.proofs.lemmas.List.{get_or-set_same, get_or_default, length-set}
use Rattle.std.specs.Ordering.{is_lt}
use Rattle.std.specs.Prelude.{slice_get, slice_index}
use Rattle.bw_key.specs.Order.{KeyBytes, key_cmp}
use Rattle.bw_page.specs.declared.pages.Page.{Page}
use Rattle.bw_page.proofs.KeyLemmas.{below_self}
use Rattle.bw_delta.specs.declared.deltas.Delta.{Delta}
use Rattle.bw_delta.specs.declared.deltas.Delta.TheVariants.{DropChild}
use Rattle.bw_level.specs.Before.{low_of}
use Rattle.bw_level.specs.Changes.{Bases, plain}
use Rattle.bw_chain.specs.Chains.{AllEnd, Records, slot_of_word}
use Rattle.bw_level.specs.Children.{HasDroppedChild, MayDropChild, slot_without_child}
use Rattle.bw_chain.specs.Restructuring.{HasLost}
use Rattle.bw_level.specs.Laws.{KeepsAll}
use Rattle.bw_level.specs.Searches.{IsInLevels}
use Rattle.bw_level.specs.Slots.{Slot, slot_at}
use Rattle.bw_chain.specs.Supports.{OwnBases}
use Rattle.bw_chain.proofs.AdditionLemmas.{record_all_end, record_here, record_others, record_own}
use Rattle.bw_level.proofs.DropLemmas.{child_dropped}
use Rattle.bw_chain.proofs.InPlaceLemmas.{now_end, now_here, now_others, now_own}
use Rattle.bw_chain.proofs.ReadingLemmas.{slot_of_head}
use Rattle.bw_tree.specs.TreeMerges.{HasLostChild, MayLoseChild}
use Rattle.bw_look.specs.Routing.{IsInnerPage}
use Rattle.bw_look.specs.Trees.{IsStanding, IsTree, StageWords, view_of}
use Rattle.bw_look.specs.View.{StageView, TreeView}
use Rattle.bw_look.proofs.RoutingLemmas.{page_there}
use Rattle.bw_tree.proofs.StandingLemmas.{contents_same, placed_set, same_levels, standing_kept}

-- the page is an inner one
pub drops_there : (tree : TreeView) (parent : ℕ) (sep : KeyBytes) → MayLoseChild tree parent sep → IsInnerPage tree parent
drops_there tree parent sep ok = record {
  in_levels = record { level = suc ok.drops.level; within = ok.drops.within; in_level = ok.drops.in_level };
  raised = omega arith;
}

-- the separator isn't where the page begins
pub other_low : (slot : Slot) (tree : TreeView) (parent : ℕ) (sep : KeyBytes) → MayDropChild tree.slots tree.levels parent sep → slot ≡ slot_at tree.slots parent → sep ≡ low_of slot → ⊥
other_low slot tree parent sep drops is same =
    different (
    sym drops.above
    ∙ ap (λ (k : KeyBytes). is_lt (key_cmp drops.state.low k)) (same ∙ ap low_of (is ∙ drops.is))
    ∙ below_self drops.state.low)
  where
    different : true ≡ false → ⊥
    different e = cc

module _ (heads : List ℕ) (bases : Bases) (records : Records) (root next : ℕ) (t : IsStanding heads bases records root next) (p : ℕ) (within : p < length heads) (sep : KeyBytes) (ok : MayLoseChild (view_of heads bases records root next None) p sep) (page : Page) (lost : plain page ≡ slot_without_child sep (slot_of_word bases records (slice_index heads p))) (few : length records < 2 ^ 32) where
  abbrev old : TreeView
  old = view_of heads bases records root next None

  abbrev word : ℕ
  word = slice_index heads p

  at_p : slice_get heads p ≡ Some word
  at_p = slice_get-get_or heads p 0 within

  abbrev bases' : Bases
  bases' = set bases word (Some page)

  ends' : AllEnd bases' records heads
  ends' = now_end heads bases records t.ends t.own p word at_p ok.plain page

  own' : OwnBases heads bases' records
  own' = now_own heads bases records t.ends t.own p word at_p ok.plain page

  abbrev delta : Delta
  delta = DropChild sep

  abbrev records' : Records
  records' = records ++ (delta, word) ∷ []

  abbrev new_word : ℕ
  new_word = 2 ^ 32 + length records

  abbrev heads' : List ℕ
  heads' = set heads p new_word

  abbrev new : TreeView
  new = view_of heads' bases' records' root next None

  more : length records' ≡ length records + 1
  more = length-append records ((delta, word) ∷ [])

  dropped : HasDroppedChild old.slots new.slots p sep
  dropped = record {
    was = ok.drops.state;
    is = ok.drops.is;
    now =
        record_here heads bases' records ends' own' p word at_p ok.plain delta refl
        ∙ now_here heads bases records t.ends t.own p word at_p ok.plain page
        ∙ lost
        ∙ ap (slot_without_child sep) (sym (slot_of_head bases records heads p 0 within) ∙ ok.drops.is);
    others = λ r other.
        record_others heads bases' records ends' own' p word at_p ok.plain delta refl r other
        ∙ now_others heads bases records t.ends t.own p word at_p ok.plain page r other;
  }

  kept : KeepsAll old.slots new.slots root old.levels old.levels
  kept = child_dropped old.slots new.slots root old.levels p sep t.lawful ok.drops dropped

  standing : IsStanding heads' bases' records' root next
  standing = standing_kept heads bases records root next t heads' bases' records' root old.levels kept
      (record_all_end heads bases' records ends' own' p word at_p ok.plain delta refl)
      (record_own heads bases' records ends' own' p word at_p ok.plain delta refl)
      (omega (arith, few, more)) (omega (arith, t.few_pages, length-set heads p new_word)) (omega (arith, t.few_bases, length-set bases word (Some page)))
      (placed_set heads old.levels p new_word within (λ high. record { level = _; within = ok.drops.within; in_level = ok.drops.in_level }) t.placed)

  placed : slice_index heads' p ≡ new_word
  placed = get_or-set_same heads p new_word 0 within

  lost_new : HasLostChild old new p sep
  lost_new = record {
    dropped = dropped;
    levels = same_levels heads bases records root next t heads' bases' records' root old.levels kept;
    contents = contents_same heads bases records root next t heads' bases' records' root old.levels kept;
    heads = ap (set heads p) (sym placed);
    changed = omega (arith, placed);
    root = refl;
    records = more;
    next = refl;
    staged = refl;
  }

-- so is a tree whose page was given the record
pub lost_on : (heads : List ℕ) (bases : Bases) (records : Records) (root next : ℕ) (staged : Option StageWords) (tree : TreeView) → view_of heads bases records root next staged ≡ tree → tree.staged ≡ None → IsTree heads bases records root next staged → (p : ℕ) (sep : KeyBytes) → MayLoseChild tree p sep → length records < 2 ^ 32 →
    (heads' : List ℕ) (bases' : Bases) (records' : Records) (word under : ℕ) → HasLost (record { bases = bases; records = records }) (record { bases = bases'; records = records' }) under sep → word ≡ 2 ^ 32 + length records → under ≡ get_or heads p under → heads' ≡ set heads p word →
    IsTree heads' bases' records' root next staged × HasLostChild tree (view_of heads' bases' records' root next staged) p sep
lost_on heads bases records root next None tree is none t p sep ok few heads' bases' records' word under made word_is read placed =
    at_word (subst (λ u. HasLost (record { bases = bases; records = records }) (record { bases = bases'; records = records' }) u sep) (read ∙ get_or_default heads p under 0 within) made)
  where
    on : IsInLevels tree.levels p
    on = record { level = _; within = ok.drops.within; in_level = ok.drops.in_level }

    within : p < length heads
    within = page_there heads bases records root next next None tree p is t.now on

    ok_here : MayLoseChild (view_of heads bases records root next None) p sep
    ok_here = subst (λ (v : TreeView). MayLoseChild v p sep) (sym is) ok

    IsMade : List ℕ → Bases → Records → Type 0
    IsMade h b r = IsTree h b r root next None × HasLostChild tree (view_of h b r root next None) p sep

    at_word : HasLost (record { bases = bases; records = records }) (record { bases = bases'; records = records' }) (slice_index heads p) sep → IsMade heads' bases' records'
    at_word l =
        subst (λ (r : Records). IsMade heads' bases' r) (sym l.records)
        (subst (λ (b : Bases). IsMade heads' b (records ++ (DropChild sep, slice_index heads p) ∷ [])) (sym l.bases)
        (subst (λ (h : List ℕ). IsMade h (set bases (slice_index heads p) (Some l.page)) (records ++ (DropChild sep, slice_index heads p) ∷ [])) (sym (placed ∙ ap (set heads p) word_is))
        ((
          record { now = standing heads bases records root next t.now p within sep ok_here l.page l.lost few; stage = tt },
          subst (λ (v : TreeView). HasLostChild v (view_of (set heads p (2 ^ 32 + length records)) (set bases (slice_index heads p) (Some l.page)) (records ++ (DropChild sep, slice_index heads p) ∷ []) root next None) p sep) is
              (lost_new heads bases records root next t.now p within sep ok_here l.page l.lost few),
        ))))
lost_on heads bases records root next (Some stage) tree is none t p sep ok few heads' bases' records' word under made word_is read placed = absurd (unstaged (ap (λ (v : TreeView). v.staged) is ∙ none))
  where
    unstaged : {s : StageView} → Some s ≡ None → ⊥
    unstaged e = cc
