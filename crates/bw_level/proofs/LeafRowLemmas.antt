-- The leaf level: what it holds at a key is what the page holds where the key is at home.
use Rattle.std.proofs.Common.{◌≡◌, ℕ, zero, suc, Bool, true, false, cond, T, List, [], ◌∷◌, ◌++◌, Option, Some, None, refl, sym, ap, ◌∙◌, subst, arith}
use Rattle.std.specs.List.{Contains, list_all}
use Rattle.std.specs.Ordering.{is_lt, eq_by_cmp}
use Rattle.std.specs.Option.{option_or}
use Rattle.std.specs.FinMap.{find}
use Rattle.std.proofs.lemmas.List.Elements.{filter-append}
use Rattle.bw_key.specs.Order.{KeyBytes, key_cmp, key_eq, key_ties}
use Rattle.bw_model.specs.Contents.{is_in_range, is_below_end, is_pair_in_range}
use Rattle.bw_model.specs.Values.{ValueBytes}
use Rattle.bw_page.specs.Inners.{IsUpto}
use Rattle.bw_page.proofs.Truths.{holds, holds_not, left_of, right_of}
use Rattle.bw_page.proofs.KeyLemmas.{below_upto, upto_trans, below_back, below_self}
use Rattle.bw_page.proofs.Search.{same_keys}
use Rattle.bw_delta.specs.Writes.{WriteView}
use Rattle.bw_delta.specs.Batches.{writes_to}
use Rattle.bw_level.specs.Slots.{Slot, PageState, Body, Pairs, Children, Live, slot_at, IsSoundBody}
use Rattle.bw_level.specs.Levels.{Stands, SideBySide}
use Rattle.bw_level.specs.Reading.{body_pairs, body_writes, pairs_under, writes_over, row_pairs, row_writes}

-- an entry found in two lists, one behind the other
pub find_both : {V : Type 0} (key : KeyBytes) (xs ys : List (KeyBytes × V)) → find key_cmp key (xs ++ ys) ≡ option_or (find key_cmp key xs) (find key_cmp key ys)
find_both key [] ys = refl
find_both {V} key (x ∷ xs) ys = elim (eq_by_cmp key_cmp key x.0) as (λ b. cond b (Some x.1) (find key_cmp key (xs ++ ys)) ≡ option_or (cond b (Some x.1) (find key_cmp key xs)) (find key_cmp key ys)) [ true ↦ refl | false ↦ find_both key xs ys ]

pub or_none : {V : Type 0} (o : Option V) → option_or o None ≡ o
or_none None = refl
or_none (Some v) = refl

different : true ≡ false → ⊥
different e = cc

-- a range has no key that isn't in it
pub none_outside : {V : Type 0} (low : KeyBytes) (high : Option KeyBytes) (key : KeyBytes) (es : List (KeyBytes × V)) → (T (is_in_range low high key) → ⊥) → T (list_all (is_pair_in_range low high) es) → find key_cmp key es ≡ None
none_outside low high key [] out inside = refl
none_outside low high key (e ∷ es) out inside = at (key_eq key e.0) refl (none_outside low high key es out (right_of _ _ inside))
  where
    at : (b : Bool) → key_eq key e.0 ≡ b → find key_cmp key es ≡ None → cond (eq_by_cmp key_cmp key e.0) (Some e.1) (find key_cmp key es) ≡ None
    at true same rest = absurd (out (subst (λ (k : KeyBytes). T (is_in_range low high k)) (sym (same_keys key e.0 same)) (left_of _ _ inside)))
    at false other rest = ap (λ b. cond b (Some e.1) (find key_cmp key es)) (sym (key_ties key e.0) ∙ other) ∙ rest

no_write_outside : (low : KeyBytes) (high : Option KeyBytes) (key : KeyBytes) (ws : List WriteView) → (T (is_in_range low high key) → ⊥) → T (list_all (λ w. is_in_range low high w.key) ws) → writes_to key ws ≡ []
no_write_outside low high key [] out inside = refl
no_write_outside low high key (w ∷ ws) out inside = at (key_eq key w.key) refl (no_write_outside low high key ws out (right_of _ _ inside))
  where
    at : (b : Bool) → key_eq key w.key ≡ b → writes_to key ws ≡ [] → cond (key_eq key w.key) (w ∷ writes_to key ws) (writes_to key ws) ≡ []
    at true same rest = absurd (out (subst (λ (k : KeyBytes). T (is_in_range low high k)) (sym (same_keys key w.key same)) (left_of _ _ inside)))
    at false other rest = ap (λ b. cond b (w ∷ writes_to key ws) (writes_to key ws)) other ∙ rest

-- a leaf has nothing at a key outside its range
pub record HasNothing (es : List (KeyBytes × ValueBytes)) (ws : List WriteView) (key : KeyBytes) : Type 0 where
  pub pairs : find key_cmp key es ≡ None
  pub writes : writes_to key ws ≡ []

outside : (low : KeyBytes) (high : Option KeyBytes) (side : Option ℕ) (b : Body) (key : KeyBytes) → (T (is_in_range low high key) → ⊥) → IsSoundBody low high side b → HasNothing (body_pairs b) (body_writes b) key
outside low high side (Pairs pairs writes) key out sound = record { pairs = none_outside low high key pairs out sound.page.inside; writes = no_write_outside low high key writes out sound.inside }
outside low high side (Children level children) key out sound = record { pairs = refl; writes = refl }

pub page_outside : (slots : List Slot) (level : ℕ) (low : KeyBytes) (high : Option KeyBytes) (side : Option ℕ) (p : ℕ) (key : KeyBytes) → Stands slots level low high side p → (T (is_in_range low high key) → ⊥) → HasNothing (pairs_under (slot_at slots p)) (writes_over (slot_at slots p)) key
page_outside slots level low high side p key st out =
    subst (λ (o : Slot). HasNothing (pairs_under o) (writes_over o) key) (sym st.is)
    (outside st.state.low st.state.high st.state.side st.state.body key
    (λ inside. out (subst (λ (k : KeyBytes). T (is_in_range k high key)) st.from_low (subst (λ (h : Option KeyBytes). T (is_in_range st.state.low h key)) st.to_high inside))) st.sound)

-- nothing in two lists of pairs and writes
nothing_both : (xs ys : List (KeyBytes × ValueBytes)) (ws vs : List WriteView) (key : KeyBytes) → HasNothing xs ws key → HasNothing ys vs key → HasNothing (xs ++ ys) (ws ++ vs) key
nothing_both xs ys ws vs key a b = record {
  pairs = find_both key xs ys ∙ ap (λ o. option_or o (find key_cmp key ys)) a.pairs ∙ b.pairs;
  writes = filter-append (λ (w : WriteView). key_eq key w.key) ws vs ∙ ap (λ (l : List WriteView). l ++ writes_to key vs) a.writes ∙ b.writes;
}

below_out : (low : KeyBytes) (high : Option KeyBytes) (key : KeyBytes) → is_lt (key_cmp key low) ≡ true → T (is_in_range low high key) → ⊥
below_out low high key below inside = different (sym below ∙ holds_not _ (left_of _ _ inside))

pub wide_of : (low : KeyBytes) (high : Option KeyBytes) (side : Option ℕ) (b : Body) → IsSoundBody low high side b → T (is_below_end high low)
wide_of low high side (Pairs pairs writes) sound = sound.page.wide
wide_of low high side (Children level children) sound = sound.page.wide

-- the low key is below the high one
pub low_below : (slots : List Slot) (level : ℕ) (low high : KeyBytes) (side : Option ℕ) (p : ℕ) → Stands slots level low (Some high) side p → is_lt (key_cmp low high) ≡ true
low_below slots level low high side p st =
    holds _ (subst (λ (k : KeyBytes). T (is_lt (key_cmp k high))) st.from_low (subst (λ (h : Option KeyBytes). T (is_below_end h st.state.low)) st.to_high (wide_of st.state.low st.state.high st.state.side st.state.body st.sound)))

-- a row has nothing below its low key
pub nothing_below : (slots : List Slot) (level : ℕ) (low : KeyBytes) (ps : List ℕ) (key : KeyBytes) → SideBySide slots level low ps → is_lt (key_cmp key low) ≡ true → HasNothing (row_pairs slots ps) (row_writes slots ps) key
nothing_below slots level low [] key h below = absurd h
nothing_below slots level low (p ∷ []) key h below =
    nothing_both (pairs_under (slot_at slots p)) [] (writes_over (slot_at slots p)) [] key (page_outside slots level low None None p key h (below_out low None key below)) (record { pairs = refl; writes = refl })
nothing_below slots level low (p ∷ q ∷ ps) key h below =
    nothing_both (pairs_under (slot_at slots p)) (row_pairs slots (q ∷ ps)) (writes_over (slot_at slots p)) (row_writes slots (q ∷ ps)) key
    (page_outside slots level low (Some h.0) (Some q) p key h.1 (below_out low (Some h.0) key below))
    (nothing_below slots level h.0 (q ∷ ps) key h.2 (upto_below' key low h.0 below (low_below slots level low h.0 (Some q) p h.1)))
  where
    upto_below' : (a b c : KeyBytes) → is_lt (key_cmp a b) ≡ true → is_lt (key_cmp b c) ≡ true → is_lt (key_cmp a c) ≡ true
    upto_below' a b c p q = below_upto a b c p (below_back b c q)

-- what a row has at a key, pairs and writes
pub record HasAt (xs ys : List (KeyBytes × ValueBytes)) (ws vs : List WriteView) (key : KeyBytes) : Type 0 where
  pub pairs : find key_cmp key xs ≡ find key_cmp key ys
  pub writes : writes_to key ws ≡ writes_to key vs

only_first : (xs ys : List (KeyBytes × ValueBytes)) (ws vs : List WriteView) (key : KeyBytes) → HasNothing ys vs key → HasAt (xs ++ ys) xs (ws ++ vs) ws key
only_first xs ys ws vs key b = record {
  pairs = find_both key xs ys ∙ ap (λ o. option_or (find key_cmp key xs) o) b.pairs ∙ or_none (find key_cmp key xs);
  writes = filter-append (λ (w : WriteView). key_eq key w.key) ws vs ∙ ap (λ (l : List WriteView). writes_to key ws ++ l) b.writes ∙ nil_right (writes_to key ws);
}
  where
    nil_right : (l : List WriteView) → l ++ [] ≡ l
    nil_right [] = refl
    nil_right (x ∷ l) = ap (λ (m : List WriteView). x ∷ m) (nil_right l)

only_rest : (xs ys zs : List (KeyBytes × ValueBytes)) (ws vs us : List WriteView) (key : KeyBytes) → HasNothing xs ws key → HasAt ys zs vs us key → HasAt (xs ++ ys) zs (ws ++ vs) us key
only_rest xs ys zs ws vs us key a b = record {
  pairs = find_both key xs ys ∙ ap (λ o. option_or o (find key_cmp key ys)) a.pairs ∙ b.pairs;
  writes = filter-append (λ (w : WriteView). key_eq key w.key) ws vs ∙ ap (λ (l : List WriteView). l ++ writes_to key vs) a.writes ∙ b.writes;
}

one_state : {s t : PageState} → Live s ≡ Live t → s ≡ t
one_state e = cc

-- each page of a row begins at its low key or above it
pub row_above : (slots : List Slot) (level : ℕ) (low : KeyBytes) (ps : List ℕ) (p : ℕ) (s : PageState) → SideBySide slots level low ps → Contains ps p → slot_at slots p ≡ Live s → is_lt (key_cmp s.low low) ≡ false
row_above slots level low [] p s h has is = absurd h
row_above slots level low (x ∷ []) p s h (zero, lt, at) is =
    let same : h.state ≡ s = one_state (sym h.is ∙ ap (slot_at slots) at ∙ is) in
    ap (λ (k : KeyBytes). is_lt (key_cmp k low)) (sym (ap (λ (t : PageState). t.low) same) ∙ h.from_low) ∙ below_self low
row_above slots level low (x ∷ []) p s h (suc k, lt, at) is = absurd (omega (arith, lt))
row_above slots level low (x ∷ y ∷ ys) p s h (zero, lt, at) is =
    let same : h.1.state ≡ s = one_state (sym h.1.is ∙ ap (slot_at slots) at ∙ is) in
    ap (λ (k : KeyBytes). is_lt (key_cmp k low)) (sym (ap (λ (t : PageState). t.low) same) ∙ h.1.from_low) ∙ below_self low
row_above slots level low (x ∷ y ∷ ys) p s h (suc k, lt, at) is =
    upto_trans low h.0 s.low (below_back low h.0 (low_below slots level low h.0 (Some y) x h.1)) (row_above slots level h.0 (y ∷ ys) p s h.2 (k, omega (arith, lt), at) is)

past_out : (low high key : KeyBytes) → is_lt (key_cmp key high) ≡ false → T (is_in_range low (Some high) key) → ⊥
past_out low high key past inside = different (sym (holds _ (right_of _ _ inside)) ∙ past)

-- at a key of a page's range the row has what the page has
pub row_has : (slots : List Slot) (level : ℕ) (low : KeyBytes) (ps : List ℕ) (p : ℕ) (s : PageState) (key : KeyBytes) → SideBySide slots level low ps → Contains ps p → slot_at slots p ≡ Live s → IsUpto s.low key → T (is_below_end s.high key) →
    HasAt (row_pairs slots ps) (pairs_under (slot_at slots p)) (row_writes slots ps) (writes_over (slot_at slots p)) key
row_has slots level low [] p s key h has is upto ends = absurd h
row_has slots level low (x ∷ []) p s key h (zero, lt, at) is upto ends =
    subst (λ q. HasAt (row_pairs slots (x ∷ [])) (pairs_under (slot_at slots q)) (row_writes slots (x ∷ [])) (writes_over (slot_at slots q)) key) at
    (only_first (pairs_under (slot_at slots x)) [] (writes_over (slot_at slots x)) [] key (record { pairs = refl; writes = refl }))
row_has slots level low (x ∷ []) p s key h (suc k, lt, at) is upto ends = absurd (omega (arith, lt))
row_has slots level low (x ∷ y ∷ ys) p s key h (zero, lt, at) is upto ends =
    let same : h.1.state ≡ s = one_state (sym h.1.is ∙ ap (slot_at slots) at ∙ is) in
    let high : s.high ≡ Some h.0 = sym (ap (λ (t : PageState). t.high) same) ∙ h.1.to_high in
    let below : is_lt (key_cmp key h.0) ≡ true = holds _ (subst (λ (o : Option KeyBytes). T (is_below_end o key)) high ends) in
    subst (λ q. HasAt (row_pairs slots (x ∷ y ∷ ys)) (pairs_under (slot_at slots q)) (row_writes slots (x ∷ y ∷ ys)) (writes_over (slot_at slots q)) key) at
    (only_first (pairs_under (slot_at slots x)) (row_pairs slots (y ∷ ys)) (writes_over (slot_at slots x)) (row_writes slots (y ∷ ys)) key (nothing_below slots level h.0 (y ∷ ys) key h.2 below))
row_has slots level low (x ∷ y ∷ ys) p s key h (suc k, lt, at) is upto ends =
    let later : Contains (y ∷ ys) p = (k, omega (arith, lt), at) in
    let past : is_lt (key_cmp key h.0) ≡ false = upto_trans h.0 s.low key (row_above slots level h.0 (y ∷ ys) p s h.2 later is) (holds_not _ upto) in
    only_rest (pairs_under (slot_at slots x)) (row_pairs slots (y ∷ ys)) (pairs_under (slot_at slots p)) (writes_over (slot_at slots x)) (row_writes slots (y ∷ ys)) (writes_over (slot_at slots p)) key
    (page_outside slots level low (Some h.0) (Some y) x key h.1 (past_out low h.0 key past))
    (row_has slots level h.0 (y ∷ ys) p s key h.2 later is upto ends)

-- a page of a row whose range has the key
pub record HasKey (slots : List Slot) (ps : List ℕ) (key : KeyBytes) (p : ℕ) : Type 0 where
  pub in_row : Contains ps p
  pub state : PageState
  pub is : slot_at slots p ≡ Live state
  pub from_low : IsUpto state.low key
  pub ends_above : T (is_below_end state.high key)

first_below : (slots : List Slot) (level : ℕ) (low high : KeyBytes) (side : Option ℕ) (p : ℕ) (key : KeyBytes) (s : PageState) → Stands slots level low (Some high) side p → slot_at slots p ≡ Live s → T (is_below_end s.high key) → is_lt (key_cmp key high) ≡ true
first_below slots level low high side p key s st is ends =
    let same : st.state ≡ s = one_state (sym st.is ∙ is) in
    holds _ (subst (λ (o : Option KeyBytes). T (is_below_end o key)) (sym (ap (λ (t : PageState). t.high) same) ∙ st.to_high) ends)

-- no later page has a key below where it begins
later_above : (slots : List Slot) (level : ℕ) (high : KeyBytes) (ps : List ℕ) (key : KeyBytes) (p : ℕ) → SideBySide slots level high ps → (h : HasKey slots ps key p) → is_lt (key_cmp key high) ≡ true → ⊥
later_above slots level high ps key p row h below = different (sym below ∙ upto_trans high h.state.low key (row_above slots level high ps p h.state row h.in_row h.is) (holds_not _ h.from_low))

-- a row has a key in one page
pub one_has : (slots : List Slot) (level : ℕ) (low : KeyBytes) (ps : List ℕ) (key : KeyBytes) (p q : ℕ) → SideBySide slots level low ps → HasKey slots ps key p → HasKey slots ps key q → p ≡ q
one_has slots level low [] key p q row h k = absurd row
one_has slots level low (x ∷ []) key p q row h k = sym (only h.in_row) ∙ only k.in_row
  where
    only : {r : ℕ} → Contains (x ∷ []) r → x ≡ r
    only (zero, lt, at) = at
    only (suc n, lt, at) = absurd (omega (arith, lt))
one_has slots level low (x ∷ y ∷ ys) key p q row h k = by h.in_row k.in_row (λ a b. one_has slots level row.0 (y ∷ ys) key p q row.2 (later h a) (later k b))
  where
    later : {r : ℕ} → HasKey slots (x ∷ y ∷ ys) key r → Contains (y ∷ ys) r → HasKey slots (y ∷ ys) key r
    later h has = record { in_row = has; state = h.state; is = h.is; from_low = h.from_low; ends_above = h.ends_above }

    below : (r : ℕ) → HasKey slots (x ∷ y ∷ ys) key r → x ≡ r → is_lt (key_cmp key row.0) ≡ true
    below r h at = first_below slots level low row.0 (Some y) x key h.state row.1 (ap (slot_at slots) at ∙ h.is) h.ends_above

    by : Contains (x ∷ y ∷ ys) p → Contains (x ∷ y ∷ ys) q → (Contains (y ∷ ys) p → Contains (y ∷ ys) q → p ≡ q) → p ≡ q
    by (zero, lt, at) (zero, lt', at') rest = sym at ∙ at'
    by (zero, lt, at) (suc n, lt', at') rest = absurd (later_above slots level row.0 (y ∷ ys) key q row.2 (later k (n, omega (arith, lt'), at')) (below p h at))
    by (suc m, lt, at) (zero, lt', at') rest = absurd (later_above slots level row.0 (y ∷ ys) key p row.2 (later h (m, omega (arith, lt), at)) (below q k at'))
    by (suc m, lt, at) (suc n, lt', at') rest = rest (m, omega (arith, lt), at) (n, omega (arith, lt'), at')
