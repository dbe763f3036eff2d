-- The levels that side links and first children give are the only ones.
use Rattle.std.proofs.Common.{◌≡◌, ℕ, zero, suc, ◌-◌, ◌<◌, ◌≤◌, List, [], ◌∷◌, ◌++◌, length, drop, drop-cons, Option, refl, sym, ap, ◌∙◌, subst, arith}
use Rattle.bw_key.specs.Order.{KeyBytes}
use Rattle.bw_level.specs.Walk.{ended}
use Rattle.bw_level.specs.Slots.{Slot, PageState, Body, Pairs, Children, Live, slot_at, slot_level, side_of, level_of, children_of, IsSoundBody}
use Rattle.bw_level.specs.Levels.{SideBySide, AreLevels, BeginsWith, FirstChild, StartsWith, row, row_from, first_child, first_of, levels_down, levels_under}
use Rattle.bw_level.proofs.WalkLemmas.{walked_is, ended_is, way_short}
use Rattle.bw_level.proofs.RowLemmas.{row_way}
use Rattle.bw_level.proofs.RouteLemmas.{side_bounded, row_first}

-- a row is what its first page's side links lead to
row_is : (slots : List Slot) (n : ℕ) (low : KeyBytes) (ps : List ℕ) (p : ℕ) → SideBySide slots n low ps → BeginsWith ps p → row_from slots p ≡ ps
row_is slots n low [] p h b = absurd b
row_is slots n low (x ∷ xs) p h b =
    let w = row_way slots n low x xs h in
    let few = way_short (side_of slots) (length slots) (side_bounded slots) x w.0 w.1.0 w.1.1 in
    ap (row_from slots) (sym b)
    ∙ ap (λ (l : List ℕ). l ++ ended (side_of slots) (length slots) x ∷ []) (walked_is (side_of slots) (length slots) x w.0 w.1.0 w.1.1 few)
    ∙ ap (λ z. w.0 ++ z ∷ []) (ended_is (side_of slots) (length slots) x w.0 w.1.0 w.1.1 few)
    ∙ sym w.1.2

child_first : (slots : List Slot) (p n : ℕ) (s : PageState) → slot_at slots p ≡ Live s → (low : KeyBytes) (high : Option KeyBytes) (side : Option ℕ) → IsSoundBody low high side s.body → level_of s.body ≡ suc n → FirstChild slots p (first_child (slot_at slots p) p)
child_first slots p n s is low high side sound level =
    subst (λ (o : Slot). FirstChild slots p (first_child o p)) (sym is) (at s is sound level)
  where
    at : (s : PageState) → slot_at slots p ≡ Live s → IsSoundBody low high side s.body → level_of s.body ≡ suc n → FirstChild slots p (first_child (Live s) p)
    at s is sound level = (s, is, by s.body sound level)
      where
        by : (b : Body) → IsSoundBody low high side b → level_of b ≡ suc n → (k : KeyBytes) × StartsWith (children_of b) k (first_of (children_of b) p)
        by (Pairs pairs writes) sound e = absurd (omega arith)
        by (Children m []) sound e = absurd sound.begins
        by (Children m (c ∷ cs)) sound e = (c.0, refl)

-- the levels from one on, with what lies above it, are all
pub levels_are : (slots : List Slot) (root : ℕ) (levels : List (List ℕ)) → AreLevels slots root levels → (n p : ℕ) → n < length levels → BeginsWith (row levels n) p → levels_down slots n p (drop (suc n) levels) ≡ levels
unfolding levels_down
levels_are slots root levels h zero p within begins =
    ap (λ (l : List ℕ). l ∷ drop 1 levels) (row_is slots 0 [] (row levels 0) p (h.rows 0 within) begins) ∙ sym (drop-cons levels 0 [] within)
levels_are slots root levels h (suc n) p within begins =
    let c = first_child (slot_at slots p) p in
    let lower : n < length levels = omega arith in
    let first = row_first slots (suc n) [] (row levels (suc n)) p (h.rows (suc n) within) begins in
    let st = first.1.1 in
    let below = h.firsts n p c within begins (child_first slots p n st.state st.is _ _ _ st.sound st.at_level) in
    ap (λ (l : List ℕ). levels_down slots n c (l ∷ drop (suc (suc n)) levels)) (row_is slots (suc n) [] (row levels (suc n)) p (h.rows (suc n) within) begins)
    ∙ ap (levels_down slots n c) (sym (drop-cons levels (suc n) [] within))
    ∙ levels_are slots root levels h n c lower below

drop_whole : (n : ℕ) (l : List (List ℕ)) → length l ≤ n → drop n l ≡ []
drop_whole zero [] le = refl
drop_whole (suc n) [] le = refl
drop_whole zero (x ∷ l) le = absurd (omega arith)
drop_whole (suc n) (x ∷ l) le = drop_whole n l (omega arith)

-- the levels that the view computes are those that the pages form
pub levels_now : (slots : List Slot) (root : ℕ) (levels : List (List ℕ)) → AreLevels slots root levels → levels_under slots root ≡ levels
levels_now slots root levels h =
    let n = length levels - 1 in
    let within : n < length levels = omega (arith, h.some) in
    let first = row_first slots n [] (row levels n) root (h.rows n within) h.top in
    let level : slot_level (slot_at slots root) ≡ n = ap slot_level first.1.1.is ∙ first.1.1.at_level in
    let none_above : drop (suc n) levels ≡ [] = drop_whole (suc n) levels (omega (arith, h.some)) in
    ap (λ m. levels_down slots m root []) level ∙ ap (λ (l : List (List ℕ)). levels_down slots n root l) (sym none_above) ∙ levels_are slots root levels h n root within h.top
