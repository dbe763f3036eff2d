-- The levels that a search passes.
use Rattle.std.proofs.Common.{◌≡◌, ℕ, zero, suc, ◌-◌, ◌<◌, ◌≤◌, true, false, T, List, [], length, Option, Some, None, is_some, refl, sym, ap, ◌∙◌, subst, arith}
use Rattle.std.specs.List.{Contains}
use Rattle.bw_key.specs.Order.{KeyBytes}
use Rattle.bw_model.specs.Contents.{is_below_end}
use Rattle.bw_page.specs.Inners.{IsUpto, is_upto}
use Rattle.bw_page.proofs.KeyLemmas.{below_self}
use Rattle.bw_page.proofs.Truths.{not_holds}
use Rattle.bw_level.specs.Before.{low_at}
use Rattle.bw_level.specs.Levels.{AreLevels, IsHomeAt, IsReached, LeadsBelow, row}
use Rattle.bw_level.specs.Searches.{Sought, level_at}
use Rattle.bw_level.specs.Slots.{Slot, PageState, Body, Pairs, Children, Free, Gone, Live, IsSoundBody, IsSoundPage, children_of, left_of, left_of_slot, level_of, slot_at, slot_level}
use Rattle.bw_level.specs.Targets.{IsLinked, StartsFrom, lies_from}
use Rattle.bw_level.specs.Turns.{IsTurn, StartsUpto}
use Rattle.bw_level.specs.declared.target.Target.{Target}
use Rattle.bw_level.specs.Walk.{Leads}
use Rattle.bw_level.specs.declared.turns.Turn.TheVariants.{Here, Right, Down, Left}
use Rattle.bw_level.proofs.LeafRowLemmas.{HasKey, one_has, wide_of}
use Rattle.bw_level.proofs.RouteLemmas.{level_there, left_bounded, no_left, reached_at, row_first, sought_upto, stands_on, way_step}
use Rattle.bw_level.proofs.SearchLemmas.{linked_of}
use Rattle.bw_level.proofs.RowLemmas.{InRow, in_row}
use Rattle.bw_level.proofs.WalkLemmas.{ended_is, way_short}

one_state : {s t : PageState} → Live s ≡ Live t → s ≡ t
one_state e = cc

same_next : {p q : ℕ} → Some p ≡ Some q → p ≡ q
same_next e = cc

different : true ≡ false → ⊥
different e = cc

-- the level where a way along left links ends
level_of_way : (slots : List Slot) (p e : ℕ) (xs : List ℕ) → Leads (left_of slots) p xs e → level_at slots p ≡ slot_level (slot_at slots e)
level_of_way slots p e xs way =
    ap (λ d. slot_level (slot_at slots d)) (ended_is (left_of slots) (length slots) p xs e way (way_short (left_of slots) (length slots) (left_bounded slots) p xs e way))

-- a page that stays is on its own level
pub live_level : (slots : List Slot) (p : ℕ) (s : PageState) → slot_at slots p ≡ Live s → level_at slots p ≡ slot_level (slot_at slots p)
live_level slots p s is = level_of_way slots p p [] (refl, no_left slots p s is)

-- the root is on the highest
pub root_level : (slots : List Slot) (root : ℕ) (levels : List (List ℕ)) → AreLevels slots root levels → slot_level (slot_at slots root) ≡ length levels - 1
root_level slots root levels lawful =
    let n = length levels - 1 in
    let at = (row_first slots n [] (row levels n) root (lawful.rows n (omega (arith, lawful.some))) lawful.top).1.1 in
    ap slot_level at.is ∙ at.at_level

pub root_at : (slots : List Slot) (root : ℕ) (levels : List (List ℕ)) → AreLevels slots root levels → level_at slots root ≡ slot_level (slot_at slots root)
root_at slots root levels lawful =
    let n = length levels - 1 in
    let at = (row_first slots n [] (row levels n) root (lawful.rows n (omega (arith, lawful.some))) lawful.top).1.1 in
    live_level slots root at.state at.is

module _ (slots : List Slot) (root : ℕ) (levels : List (List ℕ)) (lawful : AreLevels slots root levels) (key : KeyBytes) where
  level_sought : (p : ℕ) (h : Sought slots levels key p) → level_at slots p ≡ h.level
  level_sought p h = level_of_way slots p h.page h.removed h.way ∙ level_there slots root levels lawful key h.level h.page h.reached

  -- a search stays on the level as it goes left or right
  pub left_level : (p l : ℕ) → Sought slots levels key p → IsTurn (slot_at slots p) key (Left l) → level_at slots l ≡ level_at slots p
  left_level p l h t = by (slot_at slots p) refl t
    where
      by : (o : Slot) → slot_at slots p ≡ o → IsTurn o key (Left l) → level_at slots l ≡ level_at slots p
      by Free is t = absurd t
      by (Live s) is t = absurd t
      by (Gone m) is t =
          let rest = way_step (left_of slots) p l h.page h.removed h.way (ap left_of_slot is ∙ ap Some t) in
          level_of_way slots l h.page rest.0 rest.1 ∙ sym (level_of_way slots p h.page h.removed h.way)

  pub right_level : (p q : ℕ) → Sought slots levels key p → IsTurn (slot_at slots p) key (Right q) → level_at slots q ≡ level_at slots p
  right_level p q h t = by (slot_at slots p) refl t
    where
      by : (o : Slot) → slot_at slots p ≡ o → IsTurn o key (Right q) → level_at slots q ≡ level_at slots p
      by Free is t = absurd t
      by (Gone l) is t = absurd t
      by (Live s) is t = from (stands_on slots root levels lawful key p h s is)
        where
          from : IsReached slots levels key h.level p → level_at slots q ≡ level_at slots p
          from r = on at.high refl
            where
              at : InRow slots h.level (row levels h.level) r.in_level.0 p
              at = reached_at slots root levels lawful key h.level p r

              same : at.stands.state ≡ s
              same = one_state (sym at.stands.is ∙ is)

              ends : s.high ≡ at.high
              ends = ap (λ (x : PageState). x.high) (sym same) ∙ at.stands.to_high

              on : (high : Option KeyBytes) → at.high ≡ high → level_at slots q ≡ level_at slots p
              on None e = absurd (different (sym (ap (λ o. is_below_end o key) (ends ∙ e)) ∙ t.0))
              on (Some k) e =
                  let g = at.goes_on k e in
                  let one : g.0 ≡ q = same_next (sym g.1 ∙ sym at.stands.linked ∙ ap (λ (x : PageState). x.side) same ∙ t.1) in
                  let st = g.4.1.1 in
                  ap (level_at slots) (sym one) ∙ live_level slots g.0 st.state st.is ∙ ap slot_level st.is ∙ st.at_level ∙ sym (level_sought p h)

  -- and goes down by one
  pub down_level : (p c : ℕ) → Sought slots levels key p → IsTurn (slot_at slots p) key (Down c) → suc (level_at slots c) ≡ level_at slots p
  down_level p c h t = by (slot_at slots p) refl t
    where
      by : (o : Slot) → slot_at slots p ≡ o → IsTurn o key (Down c) → suc (level_at slots c) ≡ level_at slots p
      by Free is t = absurd t
      by (Gone l) is t = absurd t
      by (Live s) is t = from (stands_on slots root levels lawful key p h s is)
        where
          raised : (low : KeyBytes) (high : Option KeyBytes) (side : Option ℕ) (b : Body) (k : KeyBytes) → IsSoundBody low high side b → Contains (children_of b) (k, c) → 1 ≤ level_of b
          raised low high side (Pairs pairs writes) k sound has = absurd (omega (arith, has.1))
          raised low high side (Children n children) k sound has = sound.raised

          from : IsReached slots levels key h.level p → suc (level_at slots c) ≡ level_at slots p
          from r = on h.level refl r
            where
              at : InRow slots h.level (row levels h.level) r.in_level.0 p
              at = reached_at slots root levels lawful key h.level p r

              same : at.stands.state ≡ s
              same = one_state (sym at.stands.is ∙ is)

              high_level : 1 ≤ h.level
              high_level = omega (arith, raised s.low s.high s.side s.body t.1.separator (subst IsSoundPage same at.stands.sound) t.1.named, at.stands.at_level, ap (λ (x : PageState). level_of x.body) same)

              on : (n : ℕ) → h.level ≡ n → IsReached slots levels key n p → suc (level_at slots c) ≡ level_at slots p
              on zero e reached = absurd (omega (arith, e, high_level))
              on (suc n) e reached =
                  let under : LeadsBelow slots (row levels n) t.1.separator c = lawful.terms n p s t.1.separator c reached.within reached.in_level is t.1.named in
                  let lower = in_row slots n [] (row levels n) under.in_level.0 under.page (lawful.rows n (omega (arith, reached.within))) under.in_level.1 under.in_level.2 in
                  ap suc (level_of_way slots c under.page under.removed under.way ∙ ap slot_level lower.stands.is ∙ lower.stands.at_level)
                  ∙ sym e ∙ sym (level_sought p h)

  -- where it would go down from, the key is at home on the level
  pub down_home : (p c level : ℕ) → Sought slots levels key p → IsTurn (slot_at slots p) key (Down c) → slot_level (slot_at slots p) ≡ level → IsHomeAt slots levels key level p
  down_home p c level h t here = by (slot_at slots p) refl t
    where
      by : (o : Slot) → slot_at slots p ≡ o → IsTurn o key (Down c) → IsHomeAt slots levels key level p
      by Free is t = absurd t
      by (Gone l) is t = absurd t
      by (Live s) is t =
          let r = stands_on slots root levels lawful key p h s is in
          let on : h.level ≡ level = sym (level_sought p h) ∙ live_level slots p s is ∙ here in
          subst (λ n. IsHomeAt slots levels key n p) on (record { reached = r; ends_above = subst (λ (x : PageState). T (is_below_end x.high key)) (one_state (sym is ∙ r.is)) (subst T (sym t.0) tt) })

  -- it ends at a leaf
  pub here_level : (p : ℕ) → Sought slots levels key p → IsTurn (slot_at slots p) key Here → level_at slots p ≡ 0
  here_level p h t = by (slot_at slots p) refl t
    where
      by : (o : Slot) → slot_at slots p ≡ o → IsTurn o key Here → level_at slots p ≡ 0
      by Free is t = absurd t
      by (Gone l) is t = absurd t
      by (Live s) is t = live_level slots p s is ∙ ap slot_level is ∙ t.1

  -- a page from which it would go down is on its own level
  pub down_at : (p c : ℕ) → IsTurn (slot_at slots p) key (Down c) → level_at slots p ≡ slot_level (slot_at slots p)
  down_at p c t = by (slot_at slots p) refl t
    where
      by : (o : Slot) → slot_at slots p ≡ o → IsTurn o key (Down c) → level_at slots p ≡ slot_level (slot_at slots p)
      by Free is t = absurd t
      by (Gone l) is t = absurd t
      by (Live s) is t = live_level slots p s is

  -- a page from which a search goes on has a right neighbour exactly where it has an end
  pub sought_linked : (p : ℕ) → Sought slots levels key p → IsLinked (slot_at slots p)
  sought_linked p h = by (slot_at slots p) refl
    where
      by : (o : Slot) → slot_at slots p ≡ o → IsLinked o
      by Free is = tt
      by (Gone l) is = tt
      by (Live s) is =
          let r = stands_on slots root levels lawful key p h s is in
          let at = reached_at slots root levels lawful key h.level p r in
          subst (λ (t : PageState). is_some t.side ≡ is_some t.high) (one_state (sym at.stands.is ∙ is)) (linked_of _ _ _ at.stands.state.body at.stands.sound)

  -- and doesn't begin behind what is sought, if that is the key
  pub sought_starts : (target : Target) → ((k : KeyBytes) → lies_from target k ≡ is_upto k key) → (p : ℕ) → Sought slots levels key p → StartsFrom (slot_at slots p) target
  sought_starts target is p h = by (slot_at slots p) (sought_upto slots root levels lawful key p h)
    where
      by : (o : Slot) → StartsUpto o key → StartsFrom o target
      by Free starts = starts
      by (Gone l) starts = tt
      by (Live s) starts = subst T (sym (is s.low)) starts

-- a page of a level is the home of its low key there, and no other level has it
module _ (slots : List Slot) (root : ℕ) (levels : List (List ℕ)) (lawful : AreLevels slots root levels) (p n : ℕ) (within : n < length levels) (has : Contains (row levels n) p) where
  pub here : InRow slots n (row levels n) has.0 p
  here = in_row slots n [] (row levels n) has.0 p (lawful.rows n within) has.1 has.2

  pub own_level : slot_level (slot_at slots p) ≡ n
  own_level = ap slot_level here.stands.is ∙ here.stands.at_level

  pub own_low : low_at (slot_at slots p) ≡ Some here.stands.state.low
  own_low = ap low_at here.stands.is

  pub own_linked : IsLinked (slot_at slots p)
  own_linked = subst IsLinked (sym here.stands.is) (linked_of here.stands.state.low here.stands.state.high here.stands.state.side here.stands.state.body here.stands.sound)

  pub own_page : (key : KeyBytes) (q : ℕ) → low_at (slot_at slots p) ≡ Some key → IsHomeAt slots levels key n q → q ≡ p
  own_page key q low home =
      let s = here.stands.state in
      let same : s.low ≡ key = one_some (sym own_low ∙ low) in
      let r = home.reached in
      one_has slots n [] (row levels n) key q p (lawful.rows n within)
      (record { in_row = r.in_level; state = r.state; is = r.is; from_low = r.from_low; ends_above = home.ends_above })
      (record {
        in_row = has;
        state = s;
        is = here.stands.is;
        from_low = subst (λ (k : KeyBytes). IsUpto k key) (sym same) (not_holds _ (below_self key));
        ends_above = subst (λ (k : KeyBytes). T (is_below_end s.high k)) same (wide_of s.low s.high s.side s.body here.stands.sound);
      })
    where
      one_some : {x y : KeyBytes} → Some x ≡ Some y → x ≡ y
      one_some e = cc

-- a key has one home on each level
pub one_above : (slots : List Slot) (root : ℕ) (levels : List (List ℕ)) → AreLevels slots root levels → (n : ℕ) (key : KeyBytes) (p q : ℕ) → IsHomeAt slots levels key n p → IsHomeAt slots levels key n q → p ≡ q
one_above slots root levels lawful n key p q h k = one_has slots n [] (row levels n) key p q (lawful.rows n h.reached.within) (has p h) (has q k)
  where
    has : (x : ℕ) → IsHomeAt slots levels key n x → HasKey slots (row levels n) key x
    has x h = record { in_row = h.reached.in_level; state = h.reached.state; is = h.reached.is; from_low = h.reached.from_low; ends_above = h.ends_above }
