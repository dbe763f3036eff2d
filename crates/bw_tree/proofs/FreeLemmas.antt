-- An identifier that is given back leaves a tree that holds the same.
use Rattle.std.proofs.Common.{inl, inr, set, ◌⊎◌, ◌≡◌, ℕ, ◌<◌, ◌≤◌, ◌^◌, List, length, Option, Some, None, refl, sym, ap, ◌∙◌, subst, arith}
use Rattle.std.proofs.lemmas.Bool.{cases_lt}
use Rattle.std.proofs.lemmas.List.{length-map, length-set}
use Rattle.std.proofs.lemmas.Option.{slice_get-get_or}
use Rattle.std.specs.Prelude.{slice_get, slice_index}
use Rattle.bw_level.specs.Changes.{Bases}
use Rattle.bw_chain.specs.Chains.{Records, slot_of_word}
use Rattle.bw_level.specs.Freeing.{IsFreed}
use Rattle.bw_level.specs.Laws.{KeepsAll}
use Rattle.bw_level.proofs.FreeingLemmas.{page_freed}
use Rattle.bw_level.proofs.RouteLemmas.{held}
use Rattle.bw_chain.proofs.VacancyLemmas.{vacant_end, vacant_own, vacated}
use Rattle.bw_tree.specs.TreeFreeing.{HasFreed, MayBeFreed}
use Rattle.bw_look.specs.Trees.{IsStanding, IsTree, StageWords, view_of}
use Rattle.bw_look.specs.View.{StageView, TreeView}
use Rattle.bw_tree.proofs.StandingLemmas.{contents_same, same_levels, standing_kept}

module _ (heads : List ℕ) (bases : Bases) (records : Records) (root next : ℕ) (t : IsStanding heads bases records root next) (p : ℕ) (ok : MayBeFreed (view_of heads bases records root next None) p) where
  abbrev old : TreeView
  old = view_of heads bases records root next None

  abbrev bases' : Bases
  bases' = set bases p None

  abbrev new : TreeView
  new = view_of heads bases' records root next None

  abbrev word : ℕ
  word = slice_index heads p

  pub within : p < length heads
  within = omega (arith, held old.slots p ok.taken, length-map heads (slot_of_word bases records))

  at_p : slice_get heads p ≡ Some word
  at_p = slice_get-get_or heads p 0 within

  -- it has no record, since it stands on no level
  low : word < 2 ^ 32
  low = by (cases_lt word (2 ^ 32))
    where
      by : (word < 2 ^ 32) ⊎ (2 ^ 32 ≤ word) → word < 2 ^ 32
      by (inl lt) = lt
      by (inr high) = absurd (ok.unreached.stands (t.placed p within high))

  freed : IsFreed old.slots new.slots p
  freed = vacated heads bases records t.ends t.own p word at_p low

  kept : KeepsAll old.slots new.slots root old.levels old.levels
  kept = page_freed old.slots new.slots root old.levels p t.lawful ok.unreached freed

  pub standing : IsStanding heads bases' records root next
  standing = standing_kept heads bases records root next t heads bases' records root old.levels kept
      (vacant_end heads bases records t.ends t.own p word at_p low) (vacant_own heads bases records t.ends t.own p word at_p low)
      t.few_records t.few_pages (omega (arith, t.few_bases, length-set bases p None)) t.placed

  pub has_freed : HasFreed old new p
  has_freed = record {
    freed = freed;
    levels = same_levels heads bases records root next t heads bases' records root old.levels kept;
    contents = contents_same heads bases records root next t heads bases' records root old.levels kept;
    heads = refl;
    root = refl;
    records = refl;
    next = refl;
    staged = refl;
  }

unstaged : {s : StageView} → Some s ≡ None → ⊥
unstaged e = cc

pub free_on : (heads : List ℕ) (bases : Bases) (records : Records) (root next : ℕ) (staged : Option StageWords) (tree : TreeView) → view_of heads bases records root next staged ≡ tree → tree.staged ≡ None → IsTree heads bases records root next staged → (p : ℕ) → MayBeFreed tree p →
    (bs : Bases) (rs : Records) → bs ≡ set bases p None → rs ≡ records → IsTree heads bs rs root next staged × HasFreed tree (view_of heads bs rs root next staged) p
free_on heads bases records root next None tree is none t p ok bs rs bases_are records_are =
    let ok_here : MayBeFreed (view_of heads bases records root next None) p = subst (λ (v : TreeView). MayBeFreed v p) (sym is) ok in
    subst (λ (r : Records). IsTree heads bs r root next None × HasFreed tree (view_of heads bs r root next None) p) (sym records_are)
    (subst (λ (b : Bases). IsTree heads b records root next None × HasFreed tree (view_of heads b records root next None) p) (sym bases_are) (
      record { now = standing heads bases records root next t.now p ok_here; stage = tt },
      subst (λ (v : TreeView). HasFreed v (view_of heads (set bases p None) records root next None) p) is (has_freed heads bases records root next t.now p ok_here),
    ))
free_on heads bases records root next (Some stage) tree is none t p ok bs rs bases_are records_are = absurd (unstaged (ap (λ (v : TreeView). v.staged) is ∙ none))

-- the page has a base page
pub free_within : (heads : List ℕ) (bases : Bases) (records : Records) (root next : ℕ) (staged : Option StageWords) (tree : TreeView) → view_of heads bases records root next staged ≡ tree → IsTree heads bases records root next staged → (p : ℕ) → MayBeFreed tree p → p < length bases
free_within heads bases records root next staged tree is t p ok =
    let there = held tree.slots p ok.taken in
    omega (arith, there, ap (λ (v : TreeView). length v.slots) is, length-map heads (slot_of_word bases records), t.now.own.count)
