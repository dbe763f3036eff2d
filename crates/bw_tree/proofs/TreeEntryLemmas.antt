-- A page that names one more page leaves a tree that holds the same.
use Rattle.std.proofs.Common.{set, get_or, ◌≡◌, ℕ, suc, ◌+◌, ◌<◌, ◌^◌, false, List, [], ◌∷◌, ◌++◌, length, Option, Some, None, refl, sym, ap, ◌∙◌, subst, arith, length-append}
use Rattle.std.proofs.lemmas.Option.{slice_get-get_or}
use Rattle.std.proofs.lemmas.List.{get_or-set_same, get_or_default, length-set}
use Rattle.std.specs.Prelude.{slice_get, slice_index}
use Rattle.bw_key.specs.Order.{KeyBytes}
use Rattle.bw_delta.specs.declared.deltas.Delta.{Delta}
use Rattle.bw_delta.specs.declared.deltas.Delta.TheVariants.{AddChild}
use Rattle.bw_level.specs.Changes.{Bases, based, change}
use Rattle.bw_chain.specs.Chains.{Records, IsShaped}
use Rattle.bw_level.specs.Children.{HasChild}
use Rattle.bw_level.specs.Laws.{KeepsAll}
use Rattle.bw_level.specs.Searches.{IsInLevels}
use Rattle.bw_level.specs.Slots.{Slot, Free, Gone, Live, IsSoundInner, is_leaf, slot_at}
use Rattle.bw_chain.proofs.AdditionLemmas.{record_all_end, record_here, record_others, record_own}
use Rattle.bw_chain.proofs.ChainLemmas.{no_record, on_base}
use Rattle.bw_chain.proofs.ReadingLemmas.{slot_of_head}
use Rattle.bw_level.proofs.EntryLemmas.{child_kept}
use Rattle.bw_tree.specs.TreeChildren.{IsNamed, MayHaveChild}
use Rattle.bw_look.specs.Trees.{IsStanding, IsTree, StageWords, view_of}
use Rattle.bw_look.specs.View.{StageView, TreeView}
use Rattle.bw_look.proofs.RoutingLemmas.{inner_sound, page_there}
use Rattle.bw_tree.proofs.StandingLemmas.{contents_same, placed_set, same_levels, standing_kept}

no_leaf : (slot : Slot) → IsSoundInner slot → is_leaf slot ≡ false
no_leaf (Live s) sound = sound.0
no_leaf (Gone l) sound = absurd sound
no_leaf Free sound = absurd sound

module _ (heads : List ℕ) (bases : Bases) (records : Records) (root next : ℕ) (t : IsStanding heads bases records root next) (p : ℕ) (within : p < length heads) (sep : KeyBytes) (child : ℕ) (ok : MayHaveChild (view_of heads bases records root next None) p sep child) (few : length records < 2 ^ 32) where
  abbrev old : TreeView
  old = view_of heads bases records root next None

  abbrev word : ℕ
  word = slice_index heads p

  at_p : slice_get heads p ≡ Some word
  at_p = slice_get-get_or heads p 0 within

  abbrev delta : Delta
  delta = AddChild sep child

  abbrev on : IsInLevels old.levels p
  on = record { level = suc ok.fits.level; within = ok.fits.within; in_level = ok.fits.in_level }

  base_is : slot_at old.slots p ≡ based (slice_get bases word)
  base_is = slot_of_head bases records heads p 0 within ∙ on_base bases records word (t.ends p word at_p) (no_record records word ok.plain)

  -- a page above the leaves is an inner one
  shaped : IsShaped (based (slice_get bases word)) (delta ∷ [])
  shaped = (refl, no_leaf (based (slice_get bases word)) (subst IsSoundInner base_is (inner_sound old root p t.lawful (record { in_levels = on; raised = omega arith }))))

  abbrev records' : Records
  records' = records ++ (delta, word) ∷ []

  abbrev new_word : ℕ
  new_word = 2 ^ 32 + length records

  abbrev heads' : List ℕ
  heads' = set heads p new_word

  abbrev new : TreeView
  new = view_of heads' bases records' root next None

  more : length records' ≡ length records + 1
  more = length-append records ((delta, word) ∷ [])

  given : HasChild old.slots new.slots p sep child
  given = record {
    was = ok.fits.state;
    is = ok.fits.is;
    now = record_here heads bases records t.ends t.own p word at_p ok.plain delta shaped ∙ ap (change bases delta) ok.fits.is;
    others = record_others heads bases records t.ends t.own p word at_p ok.plain delta shaped;
  }

  kept : KeepsAll old.slots new.slots root old.levels old.levels
  kept = child_kept old.slots new.slots root old.levels p sep child t.lawful ok.fits given

  standing : IsStanding heads' bases records' root next
  standing = standing_kept heads bases records root next t heads' bases records' root old.levels kept
      (record_all_end heads bases records t.ends t.own p word at_p ok.plain delta shaped)
      (record_own heads bases records t.ends t.own p word at_p ok.plain delta shaped)
      (omega (arith, few, more)) (omega (arith, t.few_pages, length-set heads p new_word)) t.few_bases
      (placed_set heads old.levels p new_word within (λ high. record { level = _; within = ok.fits.within; in_level = ok.fits.in_level }) t.placed)

  placed : slice_index heads' p ≡ new_word
  placed = get_or-set_same heads p new_word 0 within

  named : IsNamed old new p sep child
  named = record {
    named = given;
    levels = same_levels heads bases records root next t heads' bases records' root old.levels kept;
    contents = contents_same heads bases records root next t heads' bases records' root old.levels kept;
    heads = ap (set heads p) (sym placed);
    changed = omega (arith, placed);
    root = refl;
    records = more;
    next = refl;
    staged = refl;
  }

-- so does a tree whose page was given the record
pub named_on : (heads : List ℕ) (bases : Bases) (records : Records) (root next : ℕ) (staged : Option StageWords) (tree : TreeView) → view_of heads bases records root next staged ≡ tree → tree.staged ≡ None → IsTree heads bases records root next staged → (p : ℕ) (sep : KeyBytes) (child : ℕ) → MayHaveChild tree p sep child → length records < 2 ^ 32 →
    (heads' : List ℕ) (bases' : Bases) (records' : Records) (word under : ℕ) → word ≡ 2 ^ 32 + length records → under ≡ get_or heads p under → heads' ≡ set heads p word → bases' ≡ bases → records' ≡ records ++ (AddChild sep child, under) ∷ [] →
    IsTree heads' bases' records' root next staged × IsNamed tree (view_of heads' bases' records' root next staged) p sep child
named_on heads bases records root next None tree is none t p sep child ok few heads' bases' records' word under word_is read placed same added =
    let on : IsInLevels tree.levels p = record { level = _; within = ok.fits.within; in_level = ok.fits.in_level } in
    let within : p < length heads = page_there heads bases records root next next None tree p is t.now on in
    let ok_here : MayHaveChild (view_of heads bases records root next None) p sep child = subst (λ (v : TreeView). MayHaveChild v p sep child) (sym is) ok in
    subst (λ (r : Records). IsMade heads' bases' r) (sym added)
    (subst (λ (b : Bases). IsMade heads' b (with under)) (sym same)
    (subst (λ (h : List ℕ). IsMade h bases (with under)) (sym placed)
    (subst (λ n. IsMade (set heads p n) bases (with under)) (sym word_is)
    (subst (λ n. IsMade (set heads p (2 ^ 32 + length records)) bases (with n)) (sym (read ∙ get_or_default heads p under 0 within))
    ((
      record { now = standing heads bases records root next t.now p within sep child ok_here few; stage = tt },
      subst (λ (v : TreeView). IsNamed v (view_of (set heads p (2 ^ 32 + length records)) bases (with (slice_index heads p)) root next None) p sep child) is (named heads bases records root next t.now p within sep child ok_here few),
    ))))))
  where
    with : ℕ → Records
    with n = records ++ (AddChild sep child, n) ∷ []

    IsMade : List ℕ → Bases → Records → Type 0
    IsMade h b r = IsTree h b r root next None × IsNamed tree (view_of h b r root next None) p sep child
named_on heads bases records root next (Some stage) tree is none t p sep child ok few heads' bases' records' word under word_is read placed same added = absurd (unstaged (ap (λ (v : TreeView). v.staged) is ∙ none))
  where
    unstaged : {s : StageView} → Some s ≡ None → ⊥
    unstaged e = cc
