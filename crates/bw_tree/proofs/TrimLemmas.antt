-- Identifiers at the end that are forgotten leave a tree that holds the same.
use Rattle.std.proofs.Common.{inl, inr, ◌⊎◌, ◌≡◌, ℕ, zero, suc, ◌<◌, ◌≤◌, ◌^◌, List, length, take, Option, Some, None, refl, sym, ap, ◌∙◌, subst, arith}
use Rattle.std.proofs.lemmas.Bool.{cases_lt}
use Rattle.std.proofs.lemmas.List.{get_or-take}
use Rattle.std.proofs.lemmas.Option.{slice_get_past, slice_get-get_or}
use Rattle.std.specs.Prelude.{slice_get, slice_index}
use Rattle.bw_level.specs.Changes.{Bases, based}
use Rattle.bw_chain.specs.Chains.{Records, deltas_at, link_of, slot_of_word}
use Rattle.bw_level.specs.Laws.{KeepsAll}
use Rattle.bw_level.specs.Slots.{Free}
use Rattle.bw_chain.specs.Supports.{base_under}
use Rattle.bw_chain.specs.Vacancy.{AreVacantFrom, IsTakenBefore}
use Rattle.bw_level.specs.Walk.{walked}
use Rattle.bw_chain.proofs.AdditionLemmas.{slot_here}
use Rattle.bw_level.proofs.SameLemmas.{all_kept}
use Rattle.bw_chain.proofs.BaseTrims.{count_left, ends_left, own_left, slots_left}
use Rattle.bw_chain.proofs.VacancyLemmas.{free_under}
use Rattle.bw_tree.specs.TreeFreeing.{EndsTaken, IsTrimmed}
use Rattle.bw_look.specs.Trees.{ArePlaced, IsStanding, IsTree, StageWords, view_of}
use Rattle.bw_look.specs.View.{StageView, TreeView}
use Rattle.bw_tree.proofs.StandingLemmas.{contents_same, same_levels, standing_kept}

module _ (heads : List ℕ) (bases : Bases) (records : Records) (root next : ℕ) (t : IsStanding heads bases records root next) (n : ℕ) (vacant : AreVacantFrom bases n) (taken : IsTakenBefore bases n) where
  abbrev old : TreeView
  old = view_of heads bases records root next None

  abbrev heads' : List ℕ
  heads' = take n heads

  abbrev bases' : Bases
  bases' = take n bases

  abbrev new : TreeView
  new = view_of heads' bases' records root next None

  -- no more numbers are left than there were
  few : n ≤ length heads
  few = by n refl (cases_lt (length bases) n)
    where
      by : (m : ℕ) → m ≡ n → (length bases < n) ⊎ (n ≤ length bases) → n ≤ length heads
      by zero is over = omega (arith, is)
      by (suc m) is (inl lt) = absurd (taken m is (ap based (slice_get_past bases m (omega (arith, is, lt)))))
      by (suc m) is (inr ge) = omega (arith, ge, t.own.count)

  count : length heads' ≡ n
  count = count_left heads n few

  kept : KeepsAll old.slots new.slots root old.levels old.levels
  kept = all_kept old.slots new.slots (slots_left heads bases records t.ends t.own n vacant) root old.levels t.lawful

  placed : ArePlaced heads' old.levels
  placed p within high =
      t.placed p (omega (arith, within, count, few)) (subst (λ w. 2 ^ 32 ≤ w) (get_or-take n heads p 0 (omega (arith, within, count))) high)

  pub standing : IsStanding heads' bases' records root next
  standing = standing_kept heads bases records root next t heads' bases' records root old.levels kept
      (ends_left heads bases records t.ends t.own n) (own_left heads bases records t.ends t.own n)
      t.few_records (omega (arith, t.few_pages, count, few)) (omega (arith, t.few_bases, (own_left heads bases records t.ends t.own n).count, count, few, t.own.count)) placed

  -- the last identifier that is left isn't free
  ends_taken : EndsTaken new
  ends_taken p last free = taken p (last ∙ count) (
      let word = slice_index heads p in
      let at : slice_get heads p ≡ Some word = slice_get-get_or heads p 0 (omega (arith, last, count, few)) in
      let was : slot_of_word bases records word ≡ Free =
      sym (slot_here (slot_of_word bases records) heads p word at) ∙ sym (slots_left heads bases records t.ends t.own n vacant p) ∙ free in
      ap (λ m. based (slice_get bases m)) (sym (t.own.number p word at))
      ∙ free_under bases (deltas_at records (walked (link_of records) (length records) word)) (based (slice_get bases (base_under records word))) was
      )

  pub trimmed : IsTrimmed old new
  trimmed = record {
    pages = slots_left heads bases records t.ends t.own n vacant;
    heads = ap (λ m. take m heads) (sym count);
    taken = ends_taken;
    levels = same_levels heads bases records root next t heads' bases' records root old.levels kept;
    contents = contents_same heads bases records root next t heads' bases' records root old.levels kept;
    root = refl;
    records = refl;
    next = refl;
    staged = refl;
  }

unstaged : {s : StageView} → Some s ≡ None → ⊥
unstaged e = cc

pub trim_on : (heads : List ℕ) (bases : Bases) (records : Records) (root next : ℕ) (staged : Option StageWords) (tree : TreeView) → view_of heads bases records root next staged ≡ tree → tree.staged ≡ None → IsTree heads bases records root next staged → (n : ℕ) → AreVacantFrom bases n → IsTakenBefore bases n →
    (hs : List ℕ) (bs : Bases) (rs : Records) → hs ≡ take n heads → bs ≡ take n bases → rs ≡ records → IsTree hs bs rs root next staged × IsTrimmed tree (view_of hs bs rs root next staged)
trim_on heads bases records root next None tree is none t n vacant taken hs bs rs heads_are bases_are records_are =
    subst (λ (h : List ℕ). IsTree h bs rs root next None × IsTrimmed tree (view_of h bs rs root next None)) (sym heads_are)
    (subst (λ (r : Records). IsTree (take n heads) bs r root next None × IsTrimmed tree (view_of (take n heads) bs r root next None)) (sym records_are)
    (subst (λ (b : Bases). IsTree (take n heads) b records root next None × IsTrimmed tree (view_of (take n heads) b records root next None)) (sym bases_are) (
      record { now = standing heads bases records root next t.now n vacant taken; stage = tt },
      subst (λ (v : TreeView). IsTrimmed v (view_of (take n heads) (take n bases) records root next None)) is (trimmed heads bases records root next t.now n vacant taken),
    )))
trim_on heads bases records root next (Some stage) tree is none t n vacant taken hs bs rs heads_are bases_are records_are = absurd (unstaged (ap (λ (v : TreeView). v.staged) is ∙ none))
