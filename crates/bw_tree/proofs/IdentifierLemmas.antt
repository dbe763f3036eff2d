-- Identifiers that a new page may take.
use Rattle.std.proofs.Common.{inl, inr, ◌⊎◌, ◌≡◌, ℕ, ◌<◌, ◌≤◌, List, length, Option, ◌∙◌, subst, arith}
use Rattle.std.proofs.lemmas.Bool.{cases_lt}
use Rattle.std.proofs.lemmas.Option.{slice_get-get_or}
use Rattle.std.specs.Prelude.{slice_get, slice_index}
use Rattle.bw_level.specs.Changes.{Bases, based}
use Rattle.bw_chain.specs.Chains.{Records, slot_of_word, slots_of}
use Rattle.bw_level.specs.Slots.{Free, slot_at}
use Rattle.bw_chain.specs.Supports.{OwnBases}
use Rattle.bw_chain.proofs.ReadingLemmas.{slot_of_head}
use Rattle.bw_chain.proofs.VacancyLemmas.{vacant_free}
use Rattle.bw_tree.specs.Identifiers.{IsUnused}
use Rattle.bw_look.specs.Trees.{IsTree, StageWords, view_of}
use Rattle.bw_look.specs.View.{TreeView}
use Rattle.bw_look.proofs.RoutingLemmas.{slot_past}

-- where a page's base page is vacant, its identifier is free, and so is one behind all others
vacant_slot : (heads : List ℕ) (bases : Bases) (records : Records) → OwnBases heads bases records → (p : ℕ) → based (slice_get bases p) ≡ Free → slot_at (slots_of heads bases records) p ≡ Free
vacant_slot heads bases records own p vacant = by (cases_lt p (length heads))
  where
    by : (p < length heads) ⊎ (length heads ≤ p) → slot_at (slots_of heads bases records) p ≡ Free
    by (inl lt) = slot_of_head bases records heads p 0 lt ∙ vacant_free heads bases records own p (slice_index heads p) (slice_get-get_or heads p 0 lt) vacant
    by (inr ge) = slot_past (slot_of_word bases records) heads p ge

pub unused_on : (heads : List ℕ) (bases : Bases) (records : Records) (root next : ℕ) (staged : Option StageWords) (tree : TreeView) → view_of heads bases records root next staged ≡ tree → IsTree heads bases records root next staged → (p : ℕ) → p ≤ length bases → based (slice_get bases p) ≡ Free → IsUnused tree p
unused_on heads bases records root next staged tree is t p place vacant =
    subst (λ (v : TreeView). IsUnused v p) is (record {
      free = vacant_slot heads bases records t.now.own p vacant;
      place = omega (arith, place, t.now.own.count);
    })
