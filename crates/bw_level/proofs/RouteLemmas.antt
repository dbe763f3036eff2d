-- The way of a search through the levels of a tree.
use Rattle.std.proofs.Common.{◌≡◌, ℕ, zero, suc, ◌+◌, ◌-◌, ◌*◌, ◌<◌, ◌≤◌, true, false, T, List, [], ◌∷◌, length, get_or, Option, Some, None, refl, sym, ap, ◌∙◌, subst, arith}
use Rattle.std.specs.List.{Contains}
use Rattle.bw_key.specs.Order.{KeyBytes}
use Rattle.bw_model.specs.Contents.{is_below_end}
use Rattle.bw_page.specs.declared.pages.RemovedPage.{RemovedPage}
use Rattle.bw_page.specs.Inners.{IsLastUpto, IsUpto}
use Rattle.bw_page.proofs.Truths.{holds_not, not_holds}
use Rattle.bw_page.proofs.KeyLemmas.{upto_trans}
use Rattle.bw_level.specs.declared.turns.Turn.TheVariants.{Here, Right, Down, Left}
use Rattle.bw_level.specs.Walk.{Leads, walked, ended}
use Rattle.bw_level.specs.Slots.{Slot, PageState, Body, Pairs, Children, Free, Gone, Live, slot_at, slot_level, side_of, side_of_slot, left_of, left_of_slot, level_of, children_of, IsSoundPage, IsSoundBody, is_leaf, body_is_leaf}
use Rattle.bw_level.specs.Levels.{Stands, SideBySide, AreLevels, BeginsWith, LeadsBelow, IsReached, IsHomeAt, IsHome, row}
use Rattle.bw_level.specs.Reading.{EndsAbove}
use Rattle.bw_level.specs.Turns.{IsTurn, StartsUpto}
use Rattle.bw_level.specs.Searches.{Sought}
use Rattle.bw_level.proofs.WalkLemmas.{walked_is, ended_is, way_short}
use Rattle.bw_level.proofs.RowLemmas.{InRow, in_row, first_stands}

-- what is looked up and isn't free lies among the slots
pub held : (slots : List Slot) (p : ℕ) → (slot_at slots p ≡ Free → ⊥) → p < length slots
held [] p some = absurd (some refl)
held (s ∷ slots) zero some = omega arith
held (s ∷ slots) (suc p) some = let more = held slots p some in omega arith

not_free : {s : PageState} → Free ≡ Live s → ⊥
not_free e = cc

one_key : {h k : KeyBytes} → Some h ≡ Some k → h ≡ k
one_key e = cc

no_key : {h : KeyBytes} → None ≡ Some h → ⊥
no_key e = cc

different : true ≡ false → ⊥
different e = cc

no_q : {q : ℕ} → None ≡ Some q → ⊥
no_q e = cc

no_next : {q : ℕ} → None ≡ Some q → ⊥
no_next e = cc

same_next : {p q : ℕ} → Some p ≡ Some q → p ≡ q
same_next e = cc

one_state : {s t : PageState} → Live s ≡ Live t → s ≡ t
one_state e = cc

pub left_bounded : (slots : List Slot) (p q : ℕ) → left_of slots p ≡ Some q → p < length slots
left_bounded slots p q e = held slots p (λ free. no_next (sym (ap left_of_slot free) ∙ e))

pub side_bounded : (slots : List Slot) (p q : ℕ) → side_of slots p ≡ Some q → p < length slots
side_bounded slots p q e = held slots p (λ free. no_next (sym (ap side_of_slot free) ∙ e))

-- how much of a search is left at a page: levels first, then removed pages, then neighbours
pub rank : List Slot → ℕ → ℕ
rank slots p =
    let n = length slots in
    let e = ended (left_of slots) n p in
    slot_level (slot_at slots e) * (n + n + 1) + length (walked (left_of slots) n p) + length (walked (side_of slots) n e)

rank_is : (slots : List Slot) (p e f : ℕ) (xs ys : List ℕ) → Leads (left_of slots) p xs e → Leads (side_of slots) e ys f →
    (rank slots p ≡ slot_level (slot_at slots e) * (length slots + length slots + 1) + length xs + length ys) × (length xs ≤ length slots) × (length ys ≤ length slots)
unfolding rank
rank_is slots p e f xs ys left side =
    let n = length slots in
    let few = way_short (left_of slots) n (left_bounded slots) p xs e left in
    let few_too = way_short (side_of slots) n (side_bounded slots) e ys f side in
    let ends : ended (left_of slots) n p ≡ e = ended_is (left_of slots) n p xs e left few in
    let all : walked (left_of slots) n p ≡ xs = walked_is (left_of slots) n p xs e left few in
    let all_too : walked (side_of slots) n e ≡ ys = walked_is (side_of slots) n e ys f side few_too in (
      ap (λ d. slot_level (slot_at slots d) * (n + n + 1) + length (walked (left_of slots) n p) + length (walked (side_of slots) n d)) ends
          ∙ ap (λ (l : List ℕ). slot_level (slot_at slots e) * (n + n + 1) + length l + length (walked (side_of slots) n e)) all
          ∙ ap (λ (l : List ℕ). slot_level (slot_at slots e) * (n + n + 1) + length xs + length l) all_too,
      few,
      few_too,
    )

begins_there : (ps : List ℕ) (p : ℕ) → BeginsWith ps p → Contains ps p
begins_there [] p h = absurd h
begins_there (x ∷ xs) p h = (0, omega arith, h)

pub least : (key : KeyBytes) → IsUpto [] key
least [] = tt
least (x ∷ xs) = tt

pub row_first : (slots : List Slot) (level : ℕ) (low : KeyBytes) (ps : List ℕ) (p : ℕ) → SideBySide slots level low ps → BeginsWith ps p → (other : Option KeyBytes) × ((next : Option ℕ) × Stands slots level low other next p)
row_first slots level low [] p h b = absurd b
row_first slots level low (x ∷ xs) p h b = subst (λ y. (other : Option KeyBytes) × ((next : Option ℕ) × Stands slots level low other next y)) b (first_stands slots level low x xs h)

pub no_left : (slots : List Slot) (p : ℕ) (s : PageState) → slot_at slots p ≡ Live s → left_of slots p ≡ None
no_left slots p s is = ap left_of_slot is

-- from a page that isn't removed no left link leads on
pub live_way : (slots : List Slot) (p e : ℕ) (xs : List ℕ) (s : PageState) → slot_at slots p ≡ Live s → Leads (left_of slots) p xs e → (xs ≡ []) × (p ≡ e)
live_way slots p e [] s is h = (refl, h.0)
live_way slots p e (x ∷ xs) s is h = absurd (no_next (sym (no_left slots p s is) ∙ h.1.1))

-- a step along a way
pub way_step : (next : ℕ → Option ℕ) (p q e : ℕ) (xs : List ℕ) → Leads next p xs e → next p ≡ Some q → (ys : List ℕ) × Leads next q ys e × (length xs ≡ suc (length ys))
way_step next p q e [] h step = absurd (no_next (sym h.1 ∙ step))
way_step next p q e (x ∷ xs) h step = (xs, subst (λ z. Leads next z xs e) (same_next (sym h.1.1 ∙ step)) h.1.2, refl)

-- the search goes on at q, with less left
pub record Next (slots : List Slot) (levels : List (List ℕ)) (key : KeyBytes) (p q : ℕ) : Type 0 where
  pub sought : Sought slots levels key q
  pub less : rank slots q < rank slots p

module _ (slots : List Slot) (root : ℕ) (levels : List (List ℕ)) (lawful : AreLevels slots root levels) (key : KeyBytes) where
  pub reached_at : (n p : ℕ) (r : IsReached slots levels key n p) → InRow slots n (row levels n) r.in_level.0 p
  reached_at n p r = in_row slots n [] (row levels n) r.in_level.0 p (lawful.rows n r.within) r.in_level.1 r.in_level.2

  pub level_there : (n p : ℕ) (r : IsReached slots levels key n p) → slot_level (slot_at slots p) ≡ n
  level_there n p r = let at = reached_at n p r in ap slot_level at.stands.is ∙ at.stands.at_level

  -- a search begins at the root
  pub root_sought : Sought slots levels key root
  root_sought =
      let n = length levels - 1 in
      let within : n < length levels = omega (arith, lawful.some) in
      let first = row_first slots n [] (row levels n) root (lawful.rows n within) lawful.top in
      let at = first.1.1 in
      record {
        level = n;
        removed = [];
        page = root;
        way = (refl, no_left slots root at.state at.is);
        reached = record { within = within; in_level = begins_there (row levels n) root lawful.top; state = at.state; is = at.is; from_low = subst (λ (k : KeyBytes). IsUpto k key) (sym at.from_low) (least key) };
      }

  -- the search stands on a page, or a left link leads on
  pub stands_on : (p : ℕ) (h : Sought slots levels key p) (s : PageState) → slot_at slots p ≡ Live s → IsReached slots levels key h.level p
  stands_on p h s is = subst (λ q. IsReached slots levels key h.level q) (sym (live_way slots p h.page h.removed s is h.way).1) h.reached

  is_held : (p : ℕ) (h : Sought slots levels key p) → slot_at slots p ≡ Free → ⊥
  is_held p h free = by h.removed h.way
    where
      by : (xs : List ℕ) → Leads (left_of slots) p xs h.page → ⊥
      by [] way = not_free (sym free ∙ ap (slot_at slots) way.0 ∙ h.reached.is)
      by (x ∷ xs) way = no_next (sym (ap left_of_slot free) ∙ way.1.1)

  pub sought_upto : (p : ℕ) (h : Sought slots levels key p) → StartsUpto (slot_at slots p) key
  sought_upto p h = by (slot_at slots p) refl
    where
      by : (o : Slot) → slot_at slots p ≡ o → StartsUpto o key
      by Free is = is_held p h is
      by (Gone l) is = tt
      by (Live s) is = let r = stands_on p h s is in subst (λ (t : PageState). IsUpto t.low key) (one_state (sym r.is ∙ is)) r.from_low

  pub sought_held : (p : ℕ) (h : Sought slots levels key p) → p < length slots
  sought_held p h = held slots p (is_held p h)

  pub go_left : (p l : ℕ) (removed : RemovedPage) → Sought slots levels key p → slot_at slots p ≡ Gone removed → removed.left ≡ l → Next slots levels key p l
  go_left p l removed h is left =
      let rest = way_step (left_of slots) p l h.page h.removed h.way (ap left_of_slot is ∙ ap Some left) in
      let side = (reached_at h.level h.page h.reached).way in
      let was = (rank_is slots p h.page side.1.0 h.removed side.0 h.way side.1.1).0 in
      let now = (rank_is slots l h.page side.1.0 rest.0 side.0 rest.1 side.1.1).0 in
      record {
        sought = record { level = h.level; removed = rest.0; page = h.page; way = rest.1; reached = h.reached };
        less = omega (arith, was, now, rest.2);
      }

  -- to a page that follows on the level
  next_page : (n p q k : ℕ) (s : PageState) (low : KeyBytes) (other : Option KeyBytes) (next : Option ℕ) → slot_at slots p ≡ Live s → s.side ≡ Some q → level_of s.body ≡ n →
      n < length levels → (way : (xs : List ℕ) × ((e : ℕ) × Leads (side_of slots) p xs e)) → k < length (row levels n) → get_or (row levels n) k q ≡ q → Stands slots n low other next q → IsUpto low key →
      (h : Sought slots levels key p) → h.removed ≡ [] → p ≡ h.page → Next slots levels key p q
  next_page n p q k s low other next is side_is at_level within way lt at st upto h unremoved on =
      let rest = way_step (side_of slots) p q way.1.0 way.0 way.1.1 (ap side_of_slot is ∙ side_is) in
      let here : Leads (left_of slots) p [] p = (refl, no_left slots p s is) in
      let there : Leads (left_of slots) q [] q = (refl, no_left slots q st.state st.is) in
      let was = (rank_is slots p p way.1.0 [] way.0 here way.1.1).0 in
      let now = (rank_is slots q q way.1.0 [] rest.0 there rest.1).0 in
      let levels_same : slot_level (slot_at slots q) ≡ slot_level (slot_at slots p) = ap slot_level st.is ∙ st.at_level ∙ sym (ap slot_level is ∙ at_level) in
      let now_at = now ∙ ap (λ m. m * (length slots + length slots + 1) + 0 + length rest.0) levels_same in
      record {
        sought = record {
          level = n;
          removed = [];
          page = q;
          way = there;
          reached = record { within = within; in_level = (k, lt, at); state = st.state; is = st.is; from_low = subst (λ (z : KeyBytes). IsUpto z key) (sym st.from_low) upto };
        };
        less = omega (arith, was, now_at, rest.2);
      }

  pub go_right : (p q : ℕ) (h : Sought slots levels key p) (s : PageState) → slot_at slots p ≡ Live s → is_below_end s.high key ≡ false → s.side ≡ Some q → Next slots levels key p q
  go_right p q h s is past side_is = right_from (stands_on p h s is) (reached_at h.level p (stands_on p h s is))
    where
      right_from : (r : IsReached slots levels key h.level p) (at : InRow slots h.level (row levels h.level) r.in_level.0 p) → Next slots levels key p q
      right_from r at =
          let same : at.stands.state ≡ s = one_state (sym at.stands.is ∙ is) in
          let ends : s.high ≡ at.high = sym (ap (λ (t : PageState). t.high) same) ∙ at.stands.to_high in
          by at.high ends at.goes_on
        where
          by : (high : Option KeyBytes) → s.high ≡ high → ((k : KeyBytes) → high ≡ Some k → (q : ℕ) × (at.side ≡ Some q) × (suc r.in_level.0 < length (row levels h.level)) × (get_or (row levels h.level) (suc r.in_level.0) q ≡ q) × ((other : Option KeyBytes) × ((next : Option ℕ) × Stands slots h.level k other next q))) → Next slots levels key p q
          by None e more = absurd (different (sym (ap (λ o. is_below_end o key) e) ∙ past))
          by (Some k) e more =
              let same : at.stands.state ≡ s = one_state (sym at.stands.is ∙ is) in
              let level : level_of s.body ≡ h.level = sym (ap (λ (t : PageState). level_of t.body) same) ∙ at.stands.at_level in
              let linked : at.side ≡ Some q = sym at.stands.linked ∙ ap (λ (t : PageState). t.side) same ∙ side_is in
              let on = live_way slots p h.page h.removed s is h.way in
              let follows = more k refl in
              let one : follows.0 ≡ q = same_next (sym follows.1 ∙ linked) in
              let upto : IsUpto k key = not_holds _ (sym (ap (λ o. is_below_end o key) e) ∙ past) in
              let in_place : get_or (row levels h.level) (suc r.in_level.0) q ≡ q = subst (λ z. get_or (row levels h.level) (suc r.in_level.0) z ≡ z) one follows.3 in
              let st : Stands slots h.level k follows.4.0 follows.4.1.0 q = subst (λ z. Stands slots h.level k follows.4.0 follows.4.1.0 z) one follows.4.1.1 in
              next_page h.level p q (suc r.in_level.0) s k follows.4.0 follows.4.1.0 is side_is level r.within at.way follows.2 in_place st upto h on.0 on.1

  -- to the level below
  below_page : (p c n : ℕ) (s : PageState) → slot_at slots p ≡ Live s → level_of s.body ≡ suc n → (way : (xs : List ℕ) × ((e : ℕ) × Leads (side_of slots) p xs e)) →
      (xs : List ℕ) (d : ℕ) → Leads (left_of slots) c xs d → IsReached slots levels key n d → Next slots levels key p c
  below_page p c n s is at_level way xs d removed reached =
      let here : Leads (left_of slots) p [] p = (refl, no_left slots p s is) in
      let side = (reached_at n d reached).way in
      let was = rank_is slots p p way.1.0 [] way.0 here way.1.1 in
      let now = rank_is slots c d side.1.0 xs side.0 removed side.1.1 in
      let level_was : slot_level (slot_at slots p) ≡ suc n = ap slot_level is ∙ at_level in
      let was_at = was.0 ∙ ap (λ m. m * (length slots + length slots + 1) + 0 + length way.0) level_was in
      let now_at = now.0 ∙ ap (λ m. m * (length slots + length slots + 1) + length xs + length side.0) (level_there n d reached) in
      record {
        sought = record { level = n; removed = xs; page = d; way = removed; reached = reached };
        less = omega (arith, was_at, now_at, now.1, now.2);
      }

  pub go_down : (p c : ℕ) (h : Sought slots levels key p) (s : PageState) → slot_at slots p ≡ Live s → IsLastUpto key (children_of s.body) c → Next slots levels key p c
  go_down p c h s is child = from (stands_on p h s is) (reached_at h.level p (stands_on p h s is))
    where
      from : (r : IsReached slots levels key h.level p) → InRow slots h.level (row levels h.level) r.in_level.0 p → Next slots levels key p c
      from r at =
          let same : at.stands.state ≡ s = one_state (sym at.stands.is ∙ is) in
          let sound : IsSoundPage s = subst IsSoundPage same at.stands.sound in
          let level : level_of s.body ≡ h.level = sym (ap (λ (t : PageState). level_of t.body) same) ∙ at.stands.at_level in
          by h.level level (raised s.body sound) r at.way
        where
          raised : (b : Body) → IsSoundBody s.low s.high s.side b → Contains (children_of b) (child.separator, c) → 1 ≤ level_of b
          raised (Pairs pairs writes) sound has = absurd (omega (arith, has.1))
          raised (Children n children) sound has = sound.raised

          by : (n : ℕ) → level_of s.body ≡ n → (Contains (children_of s.body) (child.separator, c) → 1 ≤ level_of s.body) → (r : IsReached slots levels key n p) → (xs : List ℕ) × ((e : ℕ) × Leads (side_of slots) p xs e) → Next slots levels key p c
          by zero e some r way = absurd (omega (arith, e, some child.named))
          by (suc n) e some r way =
              let under : LeadsBelow slots (row levels n) child.separator c = lawful.terms n p s child.separator c r.within r.in_level is child.named in
              let reached : IsReached slots levels key n under.page = record { within = omega (arith, r.within); in_level = under.in_level; state = under.state; is = under.is; from_low = not_holds _ (upto_trans under.state.low child.separator key (holds_not _ under.from_low) (holds_not _ child.not_above)) } in
              below_page p c n s is e way under.removed under.page under.way reached

  pub go_here : (p : ℕ) (h : Sought slots levels key p) (s : PageState) → slot_at slots p ≡ Live s → is_below_end s.high key ≡ true → level_of s.body ≡ 0 → IsHome slots levels key p
  go_here p h s is under bottom = from h.level refl (stands_on p h s is)
    where
      from : (n : ℕ) → h.level ≡ n → IsReached slots levels key n p → IsHome slots levels key p
      from n e r =
          let n_is : n ≡ 0 = sym (level_there n p r) ∙ ap slot_level is ∙ bottom in
          subst (λ m. IsHomeAt slots levels key m p) n_is (record { reached = r; ends_above = subst (λ (t : PageState). T (is_below_end t.high key)) (one_state (sym is ∙ r.is)) (subst T (sym under) tt) })

  -- each turn leads on, or home
  pub turned_right : (p q : ℕ) → Sought slots levels key p → IsTurn (slot_at slots p) key (Right q) → Next slots levels key p q
  turned_right p q h t = by (slot_at slots p) refl t
    where
      by : (o : Slot) → slot_at slots p ≡ o → IsTurn o key (Right q) → Next slots levels key p q
      by Free is t = absurd t
      by (Gone l) is t = absurd t
      by (Live s) is t = go_right p q h s is t.0 t.1

  pub turned_down : (p c : ℕ) → Sought slots levels key p → IsTurn (slot_at slots p) key (Down c) → Next slots levels key p c
  turned_down p c h t = by (slot_at slots p) refl t
    where
      by : (o : Slot) → slot_at slots p ≡ o → IsTurn o key (Down c) → Next slots levels key p c
      by Free is t = absurd t
      by (Gone l) is t = absurd t
      by (Live s) is t = go_down p c h s is t.1

  pub turned_left : (p l : ℕ) → Sought slots levels key p → IsTurn (slot_at slots p) key (Left l) → Next slots levels key p l
  turned_left p l h t = by (slot_at slots p) refl t
    where
      by : (o : Slot) → slot_at slots p ≡ o → IsTurn o key (Left l) → Next slots levels key p l
      by Free is t = absurd t
      by (Gone m) is t = go_left p l m h is t
      by (Live s) is t = absurd t

  pub turned_here : (p : ℕ) → Sought slots levels key p → IsTurn (slot_at slots p) key Here → IsHome slots levels key p
  turned_here p h t = by (slot_at slots p) refl t
    where
      by : (o : Slot) → slot_at slots p ≡ o → IsTurn o key Here → IsHome slots levels key p
      by Free is t = absurd t
      by (Gone m) is t = absurd t
      by (Live s) is t = go_here p h s is t.0 t.1

  -- a home is a leaf that ends above the key
  pub home_leaf : (p : ℕ) → IsHome slots levels key p → (p < length slots) × (is_leaf (slot_at slots p) ≡ true) × EndsAbove (slot_at slots p) key
  home_leaf p h =
      let r = h.reached in
      let at = reached_at 0 p r in
      let is_page : slot_at slots p ≡ Live r.state = r.is in
      let same : at.stands.state ≡ r.state = one_state (sym at.stands.is ∙ is_page) in (
        held slots p (λ free. not_free (sym free ∙ is_page)),
        ap is_leaf at.stands.is ∙ leaf _ _ _ at.stands.state.body at.stands.sound at.stands.at_level,
        subst (λ (o : Slot). EndsAbove o key) (sym is_page) h.ends_above,
      )
    where
      leaf : (low : KeyBytes) (high : Option KeyBytes) (side : Option ℕ) (b : Body) → IsSoundBody low high side b → level_of b ≡ 0 → body_is_leaf b ≡ true
      leaf low high side (Pairs pairs writes) sound e = refl
      leaf low high side (Children n children) sound e = absurd (omega (arith, sound.raised, e))
