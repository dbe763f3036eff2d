-- The places of all operations of a batch, in its order.
use Rattle.std.proofs.Common.{◌≡◌, ℕ, zero, suc, ◌+◌, ◌<◌, List, [], ◌∷◌, ◌++◌, length, take, slice_get, Some, refl, sym, ap, ◌∙◌, subst, arith}
use Rattle.std.proofs.lemmas.List.{flat_map_more}
use Rattle.std.proofs.lemmas.List.Sorted.{IsPermutation-refl}
use Rattle.std.proofs.lemmas.Option.{get_or_from_slice_get}
use Rattle.std.specs.List.{AllByRecursion}
use Rattle.std.specs.List.Sorted.{IsPermutation}
use Rattle.bw_model.specs.declared.operations.Op.{Op}
use Rattle.bw_delta.specs.Batches.{writes_of}
use Rattle.bw_delta.proofs.Stagings.{writes_further}
use Rattle.bw_chain.specs.PlacedWrites.{write_with, writes_at_places}
use Rattle.bw_tree.specs.Stages.{AreAllWritePlaces}

op_at : (ops : List Op) (n : ℕ) → n < length ops → (op : Op) × (slice_get ops n ≡ Some op)
op_at [] n lt = absurd (omega (arith, lt))
op_at (op ∷ ops) zero lt = (op, refl)
op_at (op ∷ ops) (suc n) lt = op_at ops n (omega (arith, lt))

-- the writes of these operations are those at these places
abbrev pub AreWritesAt : List Op → List Op → List ℕ → Type 0
AreWritesAt ops first places = (base : ℕ) → writes_at_places base ops places ≡ writes_of base first

-- one place more
pub placed_more : (ops : List Op) (places places' : List ℕ) (n : ℕ) → n < length ops → places' ≡ places ++ n ∷ [] → AreWritesAt ops (take n ops) places → AreWritesAt ops (take (n + 1) ops) places'
placed_more ops places places' n lt added so base =
    let found = op_at ops n lt in
    let op = found.0 in
    ap (writes_at_places base ops) added
    ∙ sym (flat_map_more (λ p. write_with (base + p) (slice_get ops p)) [] places n)
    ∙ ap (λ l. l ++ write_with (base + n) (slice_get ops n)) (so base)
    ∙ ap (λ o. writes_of base (take n ops) ++ write_with (base + n) o) found.1
    ∙ sym (writes_further base ops n op lt (sym (get_or_from_slice_get ops n op op found.1)))

pub there_more : (n : ℕ) (places places' : List ℕ) (place : ℕ) → AllByRecursion (λ p. p < n) places → place < n → places' ≡ places ++ place ∷ [] → AllByRecursion (λ p. p < n) places'
there_more n places places' place all lt added = subst (AllByRecursion (λ p. p < n)) (sym added) (further places all)
  where
    further : (ps : List ℕ) → AllByRecursion (λ p. p < n) ps → AllByRecursion (λ p. p < n) (ps ++ place ∷ [])
    further [] all = (lt, tt)
    further (p ∷ ps) all = (all.0, further ps all.1)

pub all_places : (ops : List Op) (places : List ℕ) → AreWritesAt ops ops places → AreAllWritePlaces ops places
all_places ops places are base = subst (IsPermutation (writes_of base ops)) (sym (are base)) (IsPermutation-refl (writes_of base ops))
