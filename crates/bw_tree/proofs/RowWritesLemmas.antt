-- The writes over the leaves, once a batch's were put over them.
use Rattle.std.proofs.Common.{◌≡◌, ℕ, suc, Bool, true, false, cond, not, ◌&&◌, List, [], ◌∷◌, ◌++◌, Option, Some, None, refl, sym, ap, ◌∙◌, subst, arith}
use Rattle.std.specs.Prelude.{filter}
use Rattle.std.specs.List.{Contains}
use Rattle.std.specs.List.Sorted.{IsPermutation}
use Rattle.std.specs.Ordering.{is_lt}
use Rattle.std.proofs.lemmas.List.Sorted.{IsPermutation-append, IsPermutation-append_comm, IsPermutation-filter_both, IsPermutation-refl, IsPermutation-trans}
use Rattle.bw_key.specs.Order.{KeyBytes, key_cmp}
use Rattle.bw_model.specs.Contents.{is_in_range}
use Rattle.bw_page.proofs.KeyLemmas.{below_trans}
use Rattle.bw_page.proofs.Ranges.{filter_filter}
use Rattle.bw_delta.specs.Writes.{WriteView}
use Rattle.bw_level.specs.Slots.{Slot, PageState, Body, Pairs, Children, Live, slot_at, has_key, level_of, is_leaf, body_is_leaf, IsSoundBody}
use Rattle.bw_level.specs.Levels.{Stands, SideBySide}
use Rattle.bw_level.specs.Changes.{Bases}
use Rattle.bw_level.specs.Reading.{writes_over, row_writes}
use Rattle.bw_tree.proofs.PostedLemmas.{put_over}
use Rattle.bw_chain.proofs.ReadingLemmas.{leaf_put, writes_put}
use Rattle.bw_level.proofs.LeafRowLemmas.{low_below}

assoc : (a b c : List WriteView) → (a ++ b) ++ c ≡ a ++ (b ++ c)
assoc [] b c = refl
assoc (x ∷ a) b c = ap (λ l. x ∷ l) (assoc a b c)

-- the middle two of four lists exchanged
exchanged : (a b c d : List WriteView) → IsPermutation ((a ++ b) ++ (c ++ d)) ((a ++ c) ++ (b ++ d))
exchanged a b c d =
    subst (λ l. IsPermutation l ((a ++ c) ++ (b ++ d))) (sym (assoc a b (c ++ d) ∙ ap (λ l. a ++ l) (sym (assoc b c d))))
    (subst (λ l. IsPermutation (a ++ ((b ++ c) ++ d)) l) (sym (assoc a c (b ++ d) ∙ ap (λ l. a ++ l) (sym (assoc c b d))))
    (IsPermutation-append a a ((b ++ c) ++ d) ((c ++ b) ++ d) (IsPermutation-refl a) (IsPermutation-append (b ++ c) (c ++ b) d d (IsPermutation-append_comm b c) (IsPermutation-refl d))))

-- from a key on
abbrev pub is_from : KeyBytes → WriteView → Bool
is_from low w = not (is_lt (key_cmp w.key low))

filter_same : (f g : WriteView → Bool) → ((w : WriteView) → f w ≡ g w) → (ws : List WriteView) → filter f ws ≡ filter g ws
filter_same f g same [] = refl
filter_same f g same (w ∷ ws) = ap (λ b. cond b (w ∷ filter f ws) (filter f ws)) (same w) ∙ ap (λ l. cond (g w) (w ∷ l) l) (filter_same f g same ws)

-- the writes from one key on are those up to a greater one, and those from that on
parted_at : (low high : KeyBytes) (ws : List WriteView) → is_lt (key_cmp low high) ≡ true → IsPermutation (filter (is_from low) ws) (filter (λ w. is_in_range low (Some high) w.key) ws ++ filter (is_from high) ws)
parted_at low high ws rises =
    let below : WriteView → Bool = λ w. is_lt (key_cmp w.key high) in
    subst (λ l. IsPermutation (filter (is_from low) ws) (l ++ filter (is_from high) ws)) (filter_filter (is_from low) below ws)
    (subst (λ l. IsPermutation (filter (is_from low) ws) (filter below (filter (is_from low) ws) ++ l)) (filter_filter (is_from low) (is_from high) ws ∙ filter_same (λ w. is_from low w && is_from high w) (is_from high) both ws)
    (IsPermutation-filter_both below (is_from high) (λ w. refl) (filter (is_from low) ws)))
  where
    both : (w : WriteView) → (is_from low w && is_from high w) ≡ is_from high w
    both w = elim (is_lt (key_cmp w.key low)) as (λ b. is_lt (key_cmp w.key low) ≡ b → (not b && is_from high w) ≡ is_from high w) [
      | true ↦ λ e. sym (ap not (below_trans w.key low high e rises))
      | false ↦ λ e. refl
    ] refl

pub leaf_of : (low : KeyBytes) (high : Option KeyBytes) (side : Option ℕ) (b : Body) → IsSoundBody low high side b → level_of b ≡ 0 → body_is_leaf b ≡ true
leaf_of low high side (Pairs pairs writes) sound e = refl
leaf_of low high side (Children n children) sound e = absurd (omega (arith, sound.raised, e))

puts_leaf : (bases : Bases) (ws : List WriteView) (slot : Slot) → is_leaf slot ≡ true → is_leaf (put_over bases ws slot) ≡ true
puts_leaf bases [] slot leaf = leaf
puts_leaf bases (w ∷ ws) slot leaf = leaf_put bases w (put_over bases ws slot) ∙ puts_leaf bases ws slot leaf

puts_writes : (bases : Bases) (ws : List WriteView) (slot : Slot) → is_leaf slot ≡ true → writes_over (put_over bases ws slot) ≡ ws ++ writes_over slot
puts_writes bases [] slot leaf = refl
puts_writes bases (w ∷ ws) slot leaf = writes_put bases w (put_over bases ws slot) (puts_leaf bases ws slot leaf) ∙ ap (λ l. w ∷ l) (puts_writes bases ws slot leaf)

-- the writes put over a page of the leaf level are those of its range
pub record HasItsWrites (bases : Bases) (ws : List WriteView) (old new : Slot) : Type 0 where
  pub writes : List WriteView
  pub is : new ≡ put_over bases writes old
  pub are : (s : PageState) → old ≡ Live s → IsPermutation (filter (λ w. is_in_range s.low s.high w.key) ws) writes

module _ (bases : Bases) (ws : List WriteView) (old new : List Slot) where
  here : (low : KeyBytes) (high : Option KeyBytes) (side : Option ℕ) (p : ℕ) → Stands old 0 low high side p → (h : HasItsWrites bases ws (slot_at old p) (slot_at new p)) →
      (writes_over (slot_at new p) ≡ h.writes ++ writes_over (slot_at old p)) × IsPermutation (filter (λ w. is_in_range low high w.key) ws) h.writes
  here low high side p st h = (
    ap writes_over h.is ∙ puts_writes bases h.writes (slot_at old p) (ap is_leaf st.is ∙ leaf_of st.state.low st.state.high st.state.side st.state.body st.sound st.at_level),
    subst (λ (o : Option KeyBytes). IsPermutation (filter (λ w. is_in_range low o w.key) ws) h.writes) st.to_high
        (subst (λ (k : KeyBytes). IsPermutation (filter (λ w. is_in_range k st.state.high w.key) ws) h.writes) st.from_low (h.are st.state st.is)),
  )

  -- so the row has its writes, and those from its low key on
  pub row_has_writes : (low : KeyBytes) (ps : List ℕ) → SideBySide old 0 low ps → ((p : ℕ) → Contains ps p → HasItsWrites bases ws (slot_at old p) (slot_at new p)) → IsPermutation (filter (is_from low) ws ++ row_writes old ps) (row_writes new ps)
  row_has_writes low [] row each = absurd row
  row_has_writes low (p ∷ []) row each =
      let h = each p (0, omega arith, refl) in
      let at = here low None None p row h in
      let was = writes_over (slot_at old p) in
      subst (λ l. IsPermutation (filter (is_from low) ws ++ (was ++ [])) (l ++ [])) (sym at.0)
      (subst (λ l. IsPermutation (filter (is_from low) ws ++ (was ++ [])) l) (sym (assoc h.writes was []))
      (IsPermutation-append (filter (is_from low) ws) h.writes (was ++ []) (was ++ [])
      (subst (λ l. IsPermutation l h.writes) (filter_same (λ w. is_in_range low None w.key) (is_from low) (λ w. whole (is_from low w)) ws) at.1) (IsPermutation-refl (was ++ []))))
    where
      whole : (b : Bool) → (b && true) ≡ b
      whole true = refl
      whole false = refl
  row_has_writes low (p ∷ q ∷ ps) row each =
      let h = each p (0, omega arith, refl) in
      let at = here low (Some row.0) (Some q) p row.1 h in
      let was = writes_over (slot_at old p) in
      let rest = row_writes old (q ∷ ps) in
      let inside = filter (λ w. is_in_range low (Some row.0) w.key) ws in
      let behind = filter (is_from row.0) ws in
      let rises = low_below old 0 low row.0 (Some q) p row.1 in
      let later = row_has_writes row.0 (q ∷ ps) row.2 (λ r has. each r (suc has.0, omega (arith, has.1), has.2)) in
      let first = IsPermutation-append (filter (is_from low) ws) (h.writes ++ behind) (was ++ rest) (was ++ rest)
      (IsPermutation-trans (filter (is_from low) ws) (inside ++ behind) (h.writes ++ behind) (parted_at low row.0 ws rises) (IsPermutation-append inside h.writes behind behind at.1 (IsPermutation-refl behind))) (IsPermutation-refl (was ++ rest)) in
      subst (λ l. IsPermutation (filter (is_from low) ws ++ (was ++ rest)) (l ++ row_writes new (q ∷ ps))) (sym at.0)
      (IsPermutation-trans (filter (is_from low) ws ++ (was ++ rest)) ((h.writes ++ behind) ++ (was ++ rest)) ((h.writes ++ was) ++ row_writes new (q ∷ ps)) first
      (IsPermutation-trans ((h.writes ++ behind) ++ (was ++ rest)) ((h.writes ++ was) ++ (behind ++ rest)) ((h.writes ++ was) ++ row_writes new (q ∷ ps)) (exchanged h.writes behind was rest)
      (IsPermutation-append (h.writes ++ was) (h.writes ++ was) (behind ++ rest) (row_writes new (q ∷ ps)) (IsPermutation-refl (h.writes ++ was)) later)))

all_from : (ws : List WriteView) → filter (is_from []) ws ≡ ws
all_from [] = refl
all_from (w ∷ ws) = ap (λ b. cond b (w ∷ filter (is_from []) ws) (filter (is_from []) ws)) (by w.key) ∙ ap (λ l. w ∷ l) (all_from ws)
  where
    by : (key : KeyBytes) → not (is_lt (key_cmp key [])) ≡ true
    by [] = refl
    by (b ∷ bs) = refl

-- the row from the least key on has all writes
pub row_has_all : (bases : Bases) (ws : List WriteView) (old new : List Slot) (ps : List ℕ) → SideBySide old 0 [] ps → ((p : ℕ) → Contains ps p → HasItsWrites bases ws (slot_at old p) (slot_at new p)) → IsPermutation (ws ++ row_writes old ps) (row_writes new ps)
row_has_all bases ws old new ps row each = subst (λ l. IsPermutation (l ++ row_writes old ps) (row_writes new ps)) (all_from ws) (row_has_writes bases ws old new [] ps row each)

-- a page of the leaf level with its writes
pub page_has_writes : (bases : Bases) (ws : List WriteView) (old new : Slot) (s : PageState) → old ≡ Live s → is_leaf old ≡ true → HasItsWrites bases ws old new → IsPermutation (filter (λ w. has_key old w.key) ws ++ writes_over old) (writes_over new)
page_has_writes bases ws old new s is leaf h =
    subst (λ l. IsPermutation (filter (λ w. has_key old w.key) ws ++ writes_over old) l) (sym (ap writes_over h.is ∙ puts_writes bases h.writes old leaf))
    (IsPermutation-append (filter (λ w. has_key old w.key) ws) h.writes (writes_over old) (writes_over old)
    (subst (λ (o : Slot). IsPermutation (filter (λ w. has_key o w.key) ws) h.writes) (sym is) (h.are s is)) (IsPermutation-refl (writes_over old)))
