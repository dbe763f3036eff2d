-- The spares of a batch's pages.
use Rattle.std.proofs.Common.{◌≡◌, ℕ, zero, suc, ◌<◌, ◌≤◌, ◌^◌, true, false, cond, nat_lt, List, [], ◌∷◌, length, map, Option, Some, None, inl, inr, ◌⊎◌, refl, sym, ap, ◌∙◌, subst, arith}
use Rattle.std.specs.Prelude.{slice_get, slice_index, slice_index_or}
use Rattle.std.specs.List.{AllByRecursion, Contains}
use Rattle.std.proofs.lemmas.Bool.{cases_lt}
use Rattle.std.proofs.lemmas.Bool.Decides.{nat_tests}
use Rattle.bw_delta.specs.Writes.{WriteView}
use Rattle.bw_level.specs.Levels.{AreLevels, row}
use Rattle.bw_level.specs.Reading.{writes_over}
use Rattle.bw_level.specs.Searches.{AllStand}
use Rattle.bw_level.specs.Slots.{Slot, Body, PageState, Pairs, Children, Free, Gone, Live, level_of, slot_at}
use Rattle.bw_level.proofs.RowLemmas.{in_row}
use Rattle.bw_look.specs.Folding.{ripe_from, spare_of}
use Rattle.bw_look.specs.View.{TreeView}
use Rattle.bw_tree.specs.PageWords.{ArePages}
use Rattle.bw_post.specs.Posting.{AreSpares}
use Rattle.bw_post.proofs.Folds.{no_number, one_number}

-- what stands at a place of a list that is made of another one
made_at : (f : ℕ → Option ℕ) (pages : List ℕ) (n x : ℕ) → slice_index_or (map f pages) n None ≡ Some x → (p : ℕ) × ((slice_get pages n ≡ Some p) × (f p ≡ Some x))
made_at f [] zero x e = absurd (no_number e)
made_at f [] (suc n) x e = absurd (no_number e)
made_at f (p ∷ pages) zero x e = (p, (refl, e))
made_at f (p ∷ pages) (suc n) x e = made_at f pages n x e

there_at : (n : ℕ) (pages : List ℕ) (i p : ℕ) → slice_get pages i ≡ Some p → AllByRecursion (λ q. q < n) pages → p < n
there_at n [] zero p at there = absurd (no_number at)
there_at n [] (suc i) p at there = absurd (no_number at)
there_at n (q ∷ pages) zero p at there = subst (λ (k : ℕ). k < n) (one_number at) there.0
there_at n (q ∷ pages) (suc i) p at there = there_at n pages i p at there.1

-- a page with a spare has writes
spare_is : (tree : TreeView) (chain_max p x : ℕ) → spare_of tree chain_max p ≡ Some x → (p ≡ x) × (0 < length (writes_over (slot_at tree.slots p)))
spare_is tree chain_max p x = by (cases_lt (length (writes_over (slot_at tree.slots p))) (ripe_from chain_max))
  where
    by : (length (writes_over (slot_at tree.slots p)) < ripe_from chain_max) ⊎ (ripe_from chain_max ≤ length (writes_over (slot_at tree.slots p))) → spare_of tree chain_max p ≡ Some x → (p ≡ x) × (0 < length (writes_over (slot_at tree.slots p)))
    by (inl lt) e =
        let test : nat_lt (length (writes_over (slot_at tree.slots p))) (ripe_from chain_max) ≡ true = grind (arith, nat_tests, lt) in
        absurd (no_number (sym (ap (λ b. cond b None (Some p)) test) ∙ e))
    by (inr ge) e =
        let test : nat_lt (length (writes_over (slot_at tree.slots p))) (ripe_from chain_max) ≡ false = grind (arith, nat_tests, ge) in
        (one_number (sym (ap (λ b. cond b None (Some p)) test) ∙ e), omega (arith, ge))

-- so it is a leaf of the leaf level
leaf_with_writes : (tree : TreeView) (p : ℕ) → AreLevels tree.slots tree.root tree.levels → AllStand tree.slots tree.levels → 0 < length (writes_over (slot_at tree.slots p)) → Contains (row tree.levels 0) p
leaf_with_writes tree p lawful stand some = by (slot_at tree.slots p) refl some
  where
    empty : (n : ℕ) → n < 0 → ⊥
    empty n lt = omega (arith, lt)

    on : (state : PageState) → slot_at tree.slots p ≡ Live state → level_of state.body ≡ 0 → Contains (row tree.levels 0) p
    on state is low =
        let at = stand p state is in
        let st = (in_row tree.slots at.level _ (row tree.levels at.level) at.in_level.0 p (lawful.rows at.level at.within) at.in_level.1 at.in_level.2).stands in
        let same : at.level ≡ 0 = sym st.at_level ∙ ap level_of_slot (sym st.is ∙ is) ∙ low in
        subst (λ (n : ℕ). Contains (row tree.levels n) p) same at.in_level
      where
        level_of_slot : Slot → ℕ
        level_of_slot (Live s) = level_of s.body
        level_of_slot (Gone l) = 0
        level_of_slot Free = 0

    by : (slot : Slot) → slot_at tree.slots p ≡ slot → 0 < length (writes_over slot) → Contains (row tree.levels 0) p
    by (Live s) is writes = body s.body refl writes
      where
        body : (b : Body) → s.body ≡ b → 0 < length (writes_over (Live (record s { body = b }))) → Contains (row tree.levels 0) p
        body (Pairs pairs ws) e lt = on s is (ap level_of e)
        body (Children level children) e lt = absurd (empty 0 lt)
    by (Gone l) is writes = absurd (empty 0 writes)
    by Free is writes = absurd (empty 0 writes)

made_spares : (tree : TreeView) (pages : List ℕ) (given : List (Option ℕ)) (chain_max : ℕ) → ArePages tree pages → given ≡ map (spare_of tree chain_max) pages → AreLevels tree.slots tree.root tree.levels → AllStand tree.slots tree.levels →
    ((p : ℕ) → slice_index tree.heads p < 2 ^ 32 → writes_over (slot_at tree.slots p) ≡ []) → length tree.heads ≤ 2 ^ 32 → AreSpares tree pages given
made_spares tree pages given chain_max are made lawful stand bare few number spare e =
    let at = made_at (spare_of tree chain_max) pages number spare (ap (λ (l : List (Option ℕ)). slice_index_or l number None) (sym made) ∙ e) in
    let is = spare_is tree chain_max at.0 spare at.1.1 in
    let listed : slice_get pages number ≡ Some spare = at.1.0 ∙ ap Some is.0 in
    let writes : 0 < length (writes_over (slot_at tree.slots spare)) = subst (λ (p : ℕ). 0 < length (writes_over (slot_at tree.slots p))) is.0 is.1 in
    let there : spare < length tree.heads = there_at (length tree.heads) pages number spare listed are.there in
    (listed, leaf_with_writes tree spare lawful stand writes, omega (arith, there, few), high spare writes (cases_lt (slice_index tree.heads spare) (2 ^ 32)))
  where
    high : (p : ℕ) → 0 < length (writes_over (slot_at tree.slots p)) → (slice_index tree.heads p < 2 ^ 32) ⊎ (2 ^ 32 ≤ slice_index tree.heads p) → 2 ^ 32 ≤ slice_index tree.heads p
    high p some (inl lt) = absurd (omega (arith, some, ap (λ (l : List WriteView). length l) (bare p (omega (arith, lt)))))
    high p some (inr ge) = omega (arith, ge)

pub page_spares : (tree : TreeView) (pages : List ℕ) (given : List (Option ℕ)) (chain_max : ℕ) → ArePages tree pages → (given ≡ []) ⊎ (given ≡ map (spare_of tree chain_max) pages) → AreLevels tree.slots tree.root tree.levels → AllStand tree.slots tree.levels →
    ((p : ℕ) → slice_index tree.heads p < 2 ^ 32 → writes_over (slot_at tree.slots p) ≡ []) → length tree.heads ≤ 2 ^ 32 → AreSpares tree pages given
page_spares tree pages given chain_max are (inl none) lawful stand bare few number spare e = absurd (no_number (sym (ap (λ (l : List (Option ℕ)). slice_index_or l number None) none) ∙ e))
page_spares tree pages given chain_max are (inr made) lawful stand bare few number spare e = made_spares tree pages given chain_max are made lawful stand bare few number spare e
