-- What a change of pages keeps of a tree.
use Rattle.std.proofs.Common.{inl, inr, ◌⊎◌, ◌≡◌, ℕ, suc, ◌-◌, ◌<◌, Bool, true, false, T, List, [], ◌∷◌, length, Option, Some, None, refl, sym, ap, ◌∙◌, subst, arith}
use Rattle.std.specs.Ordering.{is_lt}
use Rattle.bw_key.specs.Order.{KeyBytes, key_cmp}
use Rattle.bw_model.specs.Contents.{is_below_end}
use Rattle.bw_page.specs.Inners.{IsUpto}
use Rattle.bw_page.proofs.Truths.{true_holds, not_holds}
use Rattle.bw_delta.proofs.ContentsAsOf.{same_contents}
use Rattle.bw_level.specs.Slots.{Slot, PageState, Free, Live, left_of, left_of_slot, slot_at}
use Rattle.bw_level.specs.Levels.{AreLevels, BeginsWith, LeadsBelow, SideBySide, row}
use Rattle.bw_level.specs.KeptLevels.{IsTerm, WasTerm}
use Rattle.bw_level.specs.Walk.{Leads}
use Rattle.bw_level.specs.Laws.{ContentsAreKept, HomeIsThere, LevelsAreKept}
use Rattle.bw_level.proofs.HomeLemmas.{home_value}
use Rattle.bw_level.proofs.LeafRowLemmas.{HasKey}
use Rattle.bw_level.proofs.RouteLemmas.{least}

-- a row begins with a page
begun : (slots : List Slot) (level : ℕ) (low : KeyBytes) (ps : List ℕ) → SideBySide slots level low ps → (p : ℕ) × BeginsWith ps p
begun slots level low [] side = absurd side
begun slots level low (p ∷ ps) side = (p, refl)

one_first : (ps : List ℕ) (p q : ℕ) → BeginsWith ps p → BeginsWith ps q → p ≡ q
one_first [] p q h k = absurd h
one_first (x ∷ ps) p q h k = sym h ∙ k

pub levels_kept : LevelsAreKept
levels_kept old new root levels levels' lawful keeps = record {
  some = subst (λ n. 0 < n) (sym keeps.count) lawful.some;
  top = subst (λ n. BeginsWith (row levels' (n - 1)) root) (sym keeps.count) (keeps.first (length levels - 1) root (omega (arith, lawful.some)) lawful.top);
  rows = λ n within. keeps.rows n (within_old n within);
  firsts = λ n p c within begins child.
      let above = within_old (suc n) within in
      let first = begun old (suc n) [] (row levels (suc n)) (lawful.rows (suc n) above) in
      let same : first.0 ≡ p = one_first (row levels' (suc n)) first.0 p (keeps.first (suc n) first.0 above first.1) begins in
      let begins_old : BeginsWith (row levels (suc n)) p = subst (BeginsWith (row levels (suc n))) same first.1 in
      keeps.first n c (omega (arith, above)) (lawful.firsts n p c above begins_old (keeps.first_child n p c above begins_old child));
  terms = λ n p s k c within in_level is named.
      let above = within_old (suc n) within in
      leads_on n k c above (keeps.terms n k c above (record { page = p; in_level = in_level; state = s; is = is; named = named }));
}
  where
    within_old : (n : ℕ) → n < length levels' → n < length levels
    within_old n within = subst (λ m. n < m) keeps.count within

    leads_on : (n : ℕ) (k : KeyBytes) (c : ℕ) → suc n < length levels → WasTerm old new levels levels' n k c ⊎ LeadsBelow new (row levels' n) k c → LeadsBelow new (row levels' n) k c
    leads_on n k c above (inl term) =
        let was = term.was in
        term.leads (lawful.terms n was.page was.state k c above was.in_level was.is was.named)
    leads_on n k c above (inr leads) = leads

-- a child's identifier isn't free
pub child_there : (slots : List Slot) (root : ℕ) (levels : List (List ℕ)) → AreLevels slots root levels → (n : ℕ) (k : KeyBytes) (c : ℕ) → suc n < length levels → IsTerm slots levels n k c → slot_at slots c ≡ Free → ⊥
child_there slots root levels lawful n k c lt t free = by leads.removed leads.way
  where
    leads : LeadsBelow slots (row levels n) k c
    leads = lawful.terms n t.page t.state k c lt t.in_level t.is t.named

    not_live : {s : PageState} → Free ≡ Live s → ⊥
    not_live e = cc

    no_step : {q : ℕ} → None ≡ Some q → ⊥
    no_step e = cc

    by : (xs : List ℕ) → Leads (left_of slots) c xs leads.page → ⊥
    by [] way = not_live (sym free ∙ ap (slot_at slots) way.0 ∙ leads.is)
    by (x ∷ xs) way = no_step (sym (ap left_of_slot free) ∙ way.1.1)

-- a row has each key from its low key on
row_has_key : (slots : List Slot) (level : ℕ) (low : KeyBytes) (ps : List ℕ) (key : KeyBytes) → SideBySide slots level low ps → IsUpto low key → (p : ℕ) × HasKey slots ps key p
row_has_key slots level low [] key side upto = absurd side
row_has_key slots level low (p ∷ []) key st upto = (
  p,
  record {
    in_row = (0, omega arith, refl);
    state = st.state;
    is = st.is;
    from_low = subst (λ (k : KeyBytes). IsUpto k key) (sym st.from_low) upto;
    ends_above = subst (λ (h : Option KeyBytes). T (is_below_end h key)) (sym st.to_high) tt;
  },
)
row_has_key slots level low (p ∷ q ∷ ps) key side upto = by (is_lt (key_cmp key side.0)) refl (row_has_key slots level side.0 (q ∷ ps) key side.2)
  where
    by : (b : Bool) → is_lt (key_cmp key side.0) ≡ b → (IsUpto side.0 key → (r : ℕ) × HasKey slots (q ∷ ps) key r) → (r : ℕ) × HasKey slots (p ∷ q ∷ ps) key r
    by true below more = (
      p,
      record {
        in_row = (0, omega arith, refl);
        state = side.1.state;
        is = side.1.is;
        from_low = subst (λ (k : KeyBytes). IsUpto k key) (sym side.1.from_low) upto;
        ends_above = subst (λ (h : Option KeyBytes). T (is_below_end h key)) (sym side.1.to_high) (true_holds _ below);
      },
    )
    by false above more =
        let rest = more (not_holds _ above) in
        (rest.0, record { in_row = (suc rest.1.in_row.0, omega (arith, rest.1.in_row.1), rest.1.in_row.2); state = rest.1.state; is = rest.1.is; from_low = rest.1.from_low; ends_above = rest.1.ends_above })

pub home_there : HomeIsThere
home_there slots root levels lawful level key within =
    let home = row_has_key slots level [] (row levels level) key (lawful.rows level within) (least key) in (
      home.0,
      record {
        reached = record { within = within; in_level = home.1.in_row; state = home.1.state; is = home.1.is; from_low = home.1.from_low };
        ends_above = home.1.ends_above;
      },
    )

pub contents_kept : ContentsAreKept
contents_kept old new root root' levels levels' n m lawful lawful' distinct distinct' same = same_contents _ _ (λ key.
    let p = home_there old root levels lawful 0 key lawful.some in
    let q = home_there new root' levels' lawful' 0 key lawful'.some in
    home_value new root' levels' lawful' distinct' key q.0 m q.1
    ∙ same key p.0 q.0 p.1 q.1
    ∙ sym (home_value old root levels lawful distinct key p.0 n p.1))
