-- A page that stands on no level, and that no page of a level names, may change.
use Rattle.std.proofs.Common.{inl, inr, ◌⊎◌, ◌≡◌, ℕ, suc, ◌<◌, List, [], ◌∷◌, ◌++◌, length, Option, Some, None, refl, sym, ap, ◌∙◌, subst, arith}
use Rattle.std.proofs.lemmas.Bool.{cases_eq}
use Rattle.std.specs.FinMap.{from_entries}
use Rattle.std.specs.List.{Contains}
use Rattle.std.specs.Prelude.{flat_map}
use Rattle.bw_key.specs.Order.{KeyBytes}
use Rattle.bw_model.specs.Values.{ValueBytes}
use Rattle.bw_delta.specs.ContentsAsOf.{contents_as_of}
use Rattle.bw_delta.specs.Writes.{WriteView}
use Rattle.bw_level.specs.Entries.{AreExact}
use Rattle.bw_level.specs.Freeing.{IsAside}
use Rattle.bw_level.specs.Laws.{KeepsAll}
use Rattle.bw_level.specs.Levels.{AreLevels, BeginsWith, LeadsBelow, SideBySide, Stands, row}
use Rattle.bw_level.specs.Reading.{contents_in, pairs_under, row_pairs, row_writes, writes_over}
use Rattle.bw_level.specs.Searches.{AllStand, IsInLevels}
use Rattle.bw_level.specs.Slots.{Slot, PageState, Live, left_of, slot_at}
use Rattle.bw_level.specs.KeptLevels.{IsTerm, KeepsLevels}
use Rattle.bw_level.specs.Walk.{Leads}
use Rattle.bw_level.proofs.StepLemmas.{levels_kept}

-- pages of a row are the same in both
abbrev pub AreSame : List Slot → List Slot → List ℕ → Type 0
AreSame old new ps = (x : ℕ) → Contains ps x → slot_at new x ≡ slot_at old x

same_behind : (old new : List Slot) (p : ℕ) (ps : List ℕ) → AreSame old new (p ∷ ps) → AreSame old new ps
same_behind old new p ps same x has = same x (suc has.0, omega (arith, has.1), has.2)

same_first : (old new : List Slot) (p : ℕ) (ps : List ℕ) → AreSame old new (p ∷ ps) → slot_at new p ≡ slot_at old p
same_first old new p ps same = same p (0, omega arith, refl)

still : (old new : List Slot) (level : ℕ) (low : KeyBytes) (high : Option KeyBytes) (side : Option ℕ) (p : ℕ) → slot_at new p ≡ slot_at old p → Stands old level low high side p → Stands new level low high side p
still old new level low high side p same s =
    record { state = s.state; is = same ∙ s.is; sound = s.sound; at_level = s.at_level; from_low = s.from_low; to_high = s.to_high; linked = s.linked }

row_same : (old new : List Slot) (level : ℕ) (low : KeyBytes) (ps : List ℕ) → AreSame old new ps → SideBySide old level low ps → SideBySide new level low ps
row_same old new level low [] same h = h
row_same old new level low (p ∷ []) same h = still old new level low None None p (same_first old new p [] same) h
row_same old new level low (p ∷ q ∷ ps) same h = (
  h.0,
  still old new level low (Some h.0) (Some q) p (same_first old new p (q ∷ ps) same) h.1,
  row_same old new level h.0 (q ∷ ps) (same_behind old new p (q ∷ ps) same) h.2,
)

-- so they have the same
all_same : {X : Type 0} (f : Slot → List X) (old new : List Slot) (ps : List ℕ) → AreSame old new ps → flat_map (λ p. f (slot_at new p)) ps ≡ flat_map (λ p. f (slot_at old p)) ps
all_same f old new [] same = refl
all_same f old new (p ∷ ps) same =
    ap (λ s. f s ++ flat_map (λ p. f (slot_at new p)) ps) (same_first old new p ps same)
    ∙ ap (λ l. f (slot_at old p) ++ l) (all_same f old new ps (same_behind old new p ps same))

-- over leaves that are the same there are the same writes
pub writes_of_same : (old new : List Slot) (levels : List (List ℕ)) → AreSame old new (row levels 0) → row_writes new (row levels 0) ≡ row_writes old (row levels 0)
writes_of_same old new levels leaves = all_same writes_over old new (row levels 0) leaves

-- so their levels hold the same
pub contents_of_same : (old new : List Slot) (levels : List (List ℕ)) → AreSame old new (row levels 0) → (stamp : ℕ) → contents_in new levels stamp ≡ contents_in old levels stamp
contents_of_same old new levels leaves stamp =
    ap (λ (es : List (KeyBytes × ValueBytes)). contents_as_of (from_entries es) (row_writes new (row levels 0)) stamp) (all_same pairs_under old new (row levels 0) leaves)
    ∙ ap (λ (ws : List WriteView). contents_as_of (from_entries (row_pairs old (row levels 0))) ws stamp) (writes_of_same old new levels leaves)

-- a row has the page that it begins with
pub has_first : (ps : List ℕ) (p : ℕ) → BeginsWith ps p → Contains ps p
has_first [] p begins = absurd begins
has_first (x ∷ xs) p begins = (0, omega arith, begins)

-- no page has this identifier
abbrev pub IsNoPage : List Slot → ℕ → Type 0
IsNoPage slots p = (s : PageState) → slot_at slots p ≡ Live s → ⊥

-- ways along left links from other pages to pages of levels are as before
abbrev pub KeepsWays : List Slot → List Slot → List (List ℕ) → ℕ → Type 0
KeepsWays old new levels p =
    (c : ℕ) (xs : List ℕ) (e : ℕ) → (c ≡ p → ⊥) → IsInLevels levels e → Leads (left_of old) c xs e → Leads (left_of new) c xs e

module _ (old new : List Slot) (root : ℕ) (levels : List (List ℕ)) (p : ℕ) (lawful : AreLevels old root levels) (aside : IsAside old levels p) (others : (q : ℕ) → (q ≡ p → ⊥) → slot_at new q ≡ slot_at old q) (ways : KeepsWays old new levels p) where
  -- the pages of a level are as before
  same_row : (n : ℕ) → n < length levels → AreSame old new (row levels n)
  same_row n lt x has = others x (λ same. aside.stands (subst (IsInLevels levels) same (record { level = n; within = lt; in_level = has })))

  -- and have the children that they had
  term_was : (n : ℕ) (k : KeyBytes) (c : ℕ) → suc n < length levels → IsTerm new levels n k c → IsTerm old levels n k c
  term_was n k c lt term =
      record { page = term.page; in_level = term.in_level; state = term.state; is = sym (same_row (suc n) lt term.page term.in_level) ∙ term.is; named = term.named }

  -- a child is another page
  child_same : (n : ℕ) (k : KeyBytes) (c : ℕ) → suc n < length levels → IsTerm old levels n k c → c ≡ p → ⊥
  child_same n k c lt term same = aside.named n k lt (subst (IsTerm old levels n k) same term)

  -- left links lead where they led
  leads_still : (n : ℕ) (k : KeyBytes) (c : ℕ) → n < length levels → (c ≡ p → ⊥) → LeadsBelow old (row levels n) k c → LeadsBelow new (row levels n) k c
  leads_still n k c lt other h = record {
    removed = h.removed;
    page = h.page;
    way = ways c h.removed h.page other (record { level = n; within = lt; in_level = h.in_level }) h.way;
    in_level = h.in_level;
    state = h.state;
    is = same_row n lt h.page h.in_level ∙ h.is;
    from_low = h.from_low;
  }

  keeps : KeepsLevels old new levels levels
  keeps = record {
    count = refl;
    rows = λ n lt. row_same old new n [] (row levels n) (same_row n lt) (lawful.rows n lt);
    first = λ n q lt begins. begins;
    first_child = λ n q c lt begins child. (child.0, sym (same_row (suc n) lt q (has_first (row levels (suc n)) q begins)) ∙ child.1, child.2);
    terms = λ n k c lt term.
        let was = term_was n k c lt term in
        inl (record { was = was; leads = leads_still n k c (omega (arith, lt)) (child_same n k c lt was) });
  }

  exact_still : AreExact old levels → AreExact new levels
  unfolding term_was
  exact_still exact = record {
    begins = λ n k c s lt term is.
        let was = term_was n k c lt term in exact.begins n k c s lt was (sym (others c (child_same n k c lt was)) ∙ is);
    began = λ n k c g lt term is.
        let was = term_was n k c lt term in exact.began n k c g lt was (sym (others c (child_same n k c lt was)) ∙ is);
    behind = λ n k c g lt term is.
        let was = term_was n k c lt term in exact.behind n k c g lt was (sym (others c (child_same n k c lt was)) ∙ is);
    once = λ n k h c lt one other. exact.once n k h c lt (term_was n k c lt one) (term_was n h c lt other);
  }

  -- each other page stands where it stood
  stand_still : IsNoPage new p → AllStand old levels → AllStand new levels
  stand_still off stand r s is = by (cases_eq r p)
    where
      by : (r ≡ p) ⊎ (r ≡ p → ⊥) → IsInLevels levels r
      by (inl here) = absurd (off s (ap (slot_at new) (sym here) ∙ is))
      by (inr other) = stand r s (sym (others r other) ∙ is)

  leaves : AreSame old new (row levels 0)
  leaves = same_row 0 lawful.some

  -- no page of a level names it then, either
  pub still_aside : IsAside new levels p
  still_aside = record { stands = aside.stands; named = λ n k lt term. aside.named n k lt (term_was n k p lt term) }

  pub kept_aside : IsNoPage new p → KeepsAll old new root levels levels
  kept_aside off = record {
    lawful = levels_kept old new root levels levels lawful keeps;
    exact = exact_still;
    stand = stand_still off;
    writes = writes_of_same old new levels leaves;
    contents = λ distinct. contents_of_same old new levels leaves;
  }
