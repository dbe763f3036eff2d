-- Pages side by side.
use Rattle.std.proofs.Common.{◌≡◌, ℕ, zero, suc, ◌<◌, List, [], ◌∷◌, ◌++◌, length, get_or, Option, Some, None, refl, ap, ◌∙◌, subst, arith}
use Rattle.std.specs.Prelude.{flat_map}
use Rattle.bw_key.specs.Order.{KeyBytes}
use Rattle.bw_level.specs.Walk.{Leads}
use Rattle.bw_level.specs.Slots.{Slot, side_of, side_of_slot}
use Rattle.bw_level.specs.Levels.{Stands, SideBySide}

-- the page of a row at a place, with what follows it there
pub record InRow (slots : List Slot) (level : ℕ) (ps : List ℕ) (k p : ℕ) : Type 0 where
  pub low : KeyBytes
  pub high : Option KeyBytes
  pub side : Option ℕ
  pub stands : Stands slots level low high side p
  pub way : (xs : List ℕ) × ((e : ℕ) × Leads (side_of slots) p xs e)
  pub ends : high ≡ None → side ≡ None
  pub goes_on : (h : KeyBytes) → high ≡ Some h → (q : ℕ) × (side ≡ Some q) × (suc k < length ps) × (get_or ps (suc k) q ≡ q) × ((other : Option KeyBytes) × ((next : Option ℕ) × Stands slots level h other next q))

pub first_stands : (slots : List Slot) (level : ℕ) (low : KeyBytes) (p : ℕ) (ps : List ℕ) → SideBySide slots level low (p ∷ ps) → (other : Option KeyBytes) × ((next : Option ℕ) × Stands slots level low other next p)
first_stands slots level low p [] h = (None, (None, h))
first_stands slots level low p (q ∷ ps) h = (Some h.0, (Some q, h.1))

no_key : {h : KeyBytes} → None ≡ Some h → ⊥
no_key e = cc

one_key : {h k : KeyBytes} → Some h ≡ Some k → h ≡ k
one_key e = cc

no_side : {h : KeyBytes} → Some h ≡ None → ⊥
no_side e = cc

side_is : (slots : List Slot) (level : ℕ) (low : KeyBytes) (high : Option KeyBytes) (side : Option ℕ) (p : ℕ) → Stands slots level low high side p → side_of slots p ≡ side
side_is slots level low high side p s = ap side_of_slot s.is ∙ s.linked

-- pages that stand as they stood are side by side as they were
pub row_on : (old new : List Slot) (level : ℕ) → ((low : KeyBytes) (high : Option KeyBytes) (side : Option ℕ) (p : ℕ) → Stands old level low high side p → Stands new level low high side p) → (low : KeyBytes) (ps : List ℕ) → SideBySide old level low ps → SideBySide new level low ps
row_on old new level stands low [] h = h
row_on old new level stands low (p ∷ []) h = stands low None None p h
row_on old new level stands low (p ∷ q ∷ ps) h = (h.0, stands low (Some h.0) (Some q) p h.1, row_on old new level stands h.0 (q ∷ ps) h.2)

-- what pages of a row have, where each has the same
pub same_each : {X : Type 0} (f g : ℕ → List X) → ((p : ℕ) → g p ≡ f p) → (ps : List ℕ) → flat_map g ps ≡ flat_map f ps
same_each f g same [] = refl
same_each {X = X} f g same (p ∷ ps) = ap (λ (l : List X). l ++ flat_map g ps) (same p) ∙ ap (λ (l : List X). f p ++ l) (same_each f g same ps)

-- a row is a way along side links
pub row_way : (slots : List Slot) (level : ℕ) (low : KeyBytes) (p : ℕ) (ps : List ℕ) → SideBySide slots level low (p ∷ ps) → (xs : List ℕ) × ((e : ℕ) × Leads (side_of slots) p xs e × (p ∷ ps ≡ xs ++ e ∷ []))
row_way slots level low p [] h = ([], (p, (refl, side_is slots level low None None p h), refl))
row_way slots level low p (q ∷ ps) h =
    let rest = row_way slots level h.0 q ps h.2 in
    (p ∷ rest.0, (rest.1.0, (refl, (q, side_is slots level low (Some h.0) (Some q) p h.1, rest.1.1)), ap (λ (l : List ℕ). p ∷ l) rest.1.2))

pub in_row : (slots : List Slot) (level : ℕ) (low : KeyBytes) (ps : List ℕ) (k p : ℕ) → SideBySide slots level low ps → k < length ps → get_or ps k p ≡ p → InRow slots level ps k p
in_row slots level low [] k p h lt at = absurd h
in_row slots level low (x ∷ []) zero p h lt at = subst (InRow slots level (x ∷ []) zero) at (record {
  low = low;
  high = None;
  side = None;
  stands = h;
  way = ([], (x, (refl, side_is slots level low None None x h)));
  ends = λ e. refl;
  goes_on = λ h e. absurd (no_key e);
})
in_row slots level low (x ∷ []) (suc k) p h lt at = absurd (omega arith)
in_row slots level low (x ∷ y ∷ ys) zero p h lt at = subst (InRow slots level (x ∷ y ∷ ys) zero) at (record {
  low = low;
  high = Some h.0;
  side = Some y;
  stands = h.1;
  way = let w = row_way slots level low x (y ∷ ys) h in (w.0, (w.1.0, w.1.1));
  ends = λ e. absurd (no_side e);
  goes_on = λ k e. (y, refl, omega arith, refl, subst (λ (z : KeyBytes). (other : Option KeyBytes) × ((next : Option ℕ) × Stands slots level z other next y)) (one_key e) (first_stands slots level h.0 y ys h.2));
})
in_row slots level low (x ∷ y ∷ ys) (suc k) p h lt at =
    let rest = in_row slots level h.0 (y ∷ ys) k p h.2 (omega arith) at in
    record {
      low = rest.low;
      high = rest.high;
      side = rest.side;
      stands = rest.stands;
      way = rest.way;
      ends = rest.ends;
      goes_on = λ h e. let g = rest.goes_on h e in (g.0, g.1, omega (arith, g.2), g.3, g.4);
    }
