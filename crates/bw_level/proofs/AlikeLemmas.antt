-- Trees whose pages are alike have the same levels.
use Rattle.std.proofs.Common.{◌≡◌, ℕ, List, [], Option, refl, sym, ap, ◌∙◌, subst}
use Rattle.std.specs.List.{Contains}
use Rattle.bw_page.specs.Inners.{IsUpto}
use Rattle.std.specs.Ordering.{is_lt}
use Rattle.bw_key.specs.Order.{KeyBytes, key_cmp}
use Rattle.bw_page.specs.declared.pages.RemovedPage.{RemovedPage}
use Rattle.bw_level.specs.Searches.{AllStand}
use Rattle.bw_level.specs.Slots.{Slot, PageState, Free, Gone, Live, slot_at, left_of, left_of_slot, children_of}
use Rattle.bw_level.specs.Levels.{Stands, AreLevels, StartsWith, LeadsBelow, row}
use Rattle.bw_level.specs.Entries.{AreExact}
use Rattle.bw_level.specs.Laws.{LevelsAreAlike}
use Rattle.bw_level.specs.KeptLevels.{AreAlike, IsAlike, IsTerm}
use Rattle.bw_level.proofs.RowLemmas.{row_on}
use Rattle.bw_level.proofs.WalkLemmas.{way_on}

one_state : {s t : PageState} → Live s ≡ Live t → s ≡ t
one_state e = cc

no_live : {s : PageState} → Free ≡ Live s → ⊥
no_live e = cc

no_gone : {l : RemovedPage} {s : PageState} → Gone l ≡ Live s → ⊥
no_gone e = cc

free_gone : {l : RemovedPage} → Free ≡ Gone l → ⊥
free_gone e = cc

left_same : (slot other : Slot) → AreAlike slot other → left_of_slot other ≡ left_of_slot slot
left_same Free other is = ap left_of_slot is
left_same (Gone l) other is = ap left_of_slot is
left_same (Live s) other a = ap left_of_slot a.is

-- a page and what it was
was_live : (slot other : Slot) (t : PageState) → AreAlike slot other → other ≡ Live t → (s : PageState) × (slot ≡ Live s) × (children_of t.body ≡ children_of s.body) × (t.low ≡ s.low)
was_live Free other t is live = absurd (no_live (sym is ∙ live))
was_live (Gone l) other t is live = absurd (no_gone (sym is ∙ live))
was_live (Live s) other t a live =
    let same : t ≡ a.state = one_state (sym live ∙ a.is) in
    (s, refl, ap (λ (r : PageState). children_of r.body) same ∙ a.children, ap (λ (r : PageState). r.low) same ∙ a.low)

-- and a removed page was one
was_gone : (slot other : Slot) (g : RemovedPage) → AreAlike slot other → other ≡ Gone g → slot ≡ Gone g
was_gone Free other g is gone = absurd (free_gone (sym is ∙ gone))
was_gone (Gone l) other g is gone = sym is ∙ gone
was_gone (Live s) other g a gone = absurd (no_gone (sym gone ∙ a.is))

module _ (old new : List Slot) (over : (p : ℕ) → AreAlike (slot_at old p) (slot_at new p)) where
  page : (p : ℕ) (s : PageState) → slot_at old p ≡ Live s → IsAlike s (slot_at new p)
  page p s is = subst (λ (o : Slot). AreAlike o (slot_at new p)) is (over p)

  stands : (level : ℕ) (low : KeyBytes) (high : Option KeyBytes) (side : Option ℕ) (p : ℕ) → Stands old level low high side p → Stands new level low high side p
  stands level low high side p s =
      let a = page p s.state s.is in
      record { state = a.state; is = a.is; sound = a.sound s.sound; at_level = a.level ∙ s.at_level; from_low = a.low ∙ s.from_low; to_high = a.high ∙ s.to_high; linked = a.side ∙ s.linked }

  left_alike : (p : ℕ) → left_of new p ≡ left_of old p
  left_alike p = left_same (slot_at old p) (slot_at new p) (over p)

  below_alike : (below : List ℕ) (k : KeyBytes) (c : ℕ) → LeadsBelow old below k c → LeadsBelow new below k c
  below_alike below k c h =
      let a = page h.page h.state h.is in
      record { removed = h.removed; page = h.page; way = way_on (left_of old) (left_of new) left_alike c h.removed h.page h.way; in_level = h.in_level; state = a.state; is = a.is; from_low = subst (λ (z : KeyBytes). IsUpto z k) (sym a.low) h.from_low }

  levels_over : (root : ℕ) (levels : List (List ℕ)) → AreLevels old root levels → AreLevels new root levels
  levels_over root levels h = record {
    some = h.some;
    top = h.top;
    rows = λ n within. row_on old new n (stands n) [] (row levels n) (h.rows n within);
    firsts = λ n p c within begins first.
        let a = was_live (slot_at old p) (slot_at new p) first.0 (over p) first.1 in
        h.firsts n p c within begins (a.0, a.1, (first.2.0, subst (λ cs. StartsWith cs first.2.0 c) a.2 first.2.1));
    terms = λ n p s k c within has is named.
        let a = was_live (slot_at old p) (slot_at new p) s (over p) is in
        below_alike (row levels n) k c (h.terms n p a.0 k c within has a.1 (subst (λ cs. Contains cs (k, c)) a.2 named));
  }

  -- and index entries stay exact
  term_was : (levels : List (List ℕ)) (n : ℕ) (k : KeyBytes) (c : ℕ) → IsTerm new levels n k c → IsTerm old levels n k c
  term_was levels n k c term =
      let a = was_live (slot_at old term.page) (slot_at new term.page) term.state (over term.page) term.is in
      record { page = term.page; in_level = term.in_level; state = a.0; is = a.1; named = subst (λ cs. Contains cs (k, c)) a.2 term.named }

  pub exact_alike : (levels : List (List ℕ)) → AreExact old levels → AreExact new levels
  unfolding was_live term_was
  exact_alike levels exact = record {
    begins = λ n k c s within term is.
        let b = was_live (slot_at old c) (slot_at new c) s (over c) is in
        b.3 ∙ exact.begins n k c b.0 within (term_was levels n k c term) b.1;
    began = λ n k c g within term is. exact.began n k c g within (term_was levels n k c term) (was_gone (slot_at old c) (slot_at new c) g (over c) is);
    behind = λ n k c g within term is.
        ap (λ (low : KeyBytes). is_lt (key_cmp low k)) (was_live (slot_at old term.page) (slot_at new term.page) term.state (over term.page) term.is).3
        ∙ exact.behind n k c g within (term_was levels n k c term) (was_gone (slot_at old c) (slot_at new c) g (over c) is);
    once = λ n k h c within one other. exact.once n k h c within (term_was levels n k c one) (term_was levels n h c other);
  }

  -- and each page stands on a level where each stood on one
  pub stand_alike : (levels : List (List ℕ)) → AllStand old levels → AllStand new levels
  stand_alike levels stand p s is =
      let b = was_live (slot_at old p) (slot_at new p) s (over p) is in
      stand p b.0 b.1

pub levels_alike : LevelsAreAlike
levels_alike old new root levels over = levels_over old new over root levels
