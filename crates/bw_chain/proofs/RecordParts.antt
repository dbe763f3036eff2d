-- The records of a batch's writes, made in parts of the places.
use Rattle.std.proofs.Common.{◌≡◌, ℕ, ◌+◌, List, [], ◌∷◌, ◌++◌, length, map, slice_get, Bor, Result, Ok, Err, IfOk, refl, sym, ap, ◌∙◌, subst, flat_map, append_assoc}
use Rattle.std.specs.List.{AllByRecursion, AllZip, Contains}
use Rattle.std.specs.Prelude.{MatchResult}
use Rattle.std.specs.declared.vec.Vec.{Vec}
use Rattle.std.proofs.ByRecursion.{All-take, All-drop}
use Rattle.std.proofs.lemmas.Grind.{flat_map-append}
use Rattle.std.proofs.lemmas.List.{append-nil, map-append}
use Rattle.std.proofs.Math.Seq.{take-append_seam, drop-append_seam}
use Rattle.bw_model.specs.declared.operations.Op.{Op}
use Rattle.bw_delta.specs.Arenas.{ArenaView}
use Rattle.bw_delta.specs.declared.deltas.Delta.TheVariants.{Put}
use Rattle.bw_delta.specs.Writes.{WriteView}
use Rattle.bw_chain.specs.PlacedWrites.{write_with, writes_at_places}
use Rattle.bw_chain.specs.Records.{unlinked}

-- what holds of all places holds of those of each part
pub in_each_part : (P : ℕ → Type 0) (parts : List (Bor (List ℕ))) → AllByRecursion P (flat_map (λ (part : Bor (List ℕ)). part.now) parts) → AllByRecursion (λ (part : Bor (List ℕ)). AllByRecursion P part.now) parts
in_each_part P [] all = tt
in_each_part P (part ∷ parts) all =
    let here = part.now in
    let rest = flat_map (λ (part : Bor (List ℕ)). part.now) parts in (
      subst (AllByRecursion P) (take-append_seam here rest) (All-take P (length here) (here ++ rest) all),
      in_each_part P parts (subst (AllByRecursion P) (drop-append_seam here rest) (All-drop P (length here) (here ++ rest) all)),
    )

-- one part more, of the places that are left
pub parted_more : (parts : List (Bor (List ℕ))) (part : Bor (List ℕ)) (rest behind places : List ℕ) → flat_map (λ (part : Bor (List ℕ)). part.now) parts ++ rest ≡ places → rest ≡ part.now ++ behind →
    flat_map (λ (part : Bor (List ℕ)). part.now) (parts ++ part ∷ []) ++ behind ≡ places
parted_more parts part rest behind places all cut =
    let now = λ (part : Bor (List ℕ)). part.now in
    let front = flat_map now parts in
    ap (λ l. l ++ behind) (flat_map-append now parts (part ∷ []))
    ∙ append_assoc front (part.now ++ []) behind
    ∙ ap (λ l. front ++ (l ++ behind)) (append-nil part.now)
    ∙ ap (λ l. front ++ l) (sym cut)
    ∙ all

module _ (base : ℕ) (ops : List Op) where
  -- the records of writes at some places, and at others behind them
  pub records_append : (xs ys : List ℕ) → unlinked (writes_at_places base ops (xs ++ ys)) ≡ unlinked (writes_at_places base ops xs) ++ unlinked (writes_at_places base ops ys)
  records_append xs ys =
      let at = λ (place : ℕ). write_with (base + place) (slice_get ops place) in
      ap unlinked (flat_map-append at xs ys) ∙ map-append (λ (w : WriteView). (Put w, 0)) (flat_map at xs) (flat_map at ys)

  -- the arena has the records of the part
  abbrev IsMadeOf : Bor (List ℕ) → ArenaView → Type 0
  IsMadeOf part arena = arena.records ≡ unlinked (writes_at_places base ops part.now)

  made : (E : Type 0) (parts : List (Bor (List ℕ))) (all : List ArenaView) → AllZip (λ part (r : Result ArenaView E). IfOk r (IsMadeOf part)) parts (map Ok all) →
      flat_map (λ (arena : ArenaView). arena.records) all ≡ unlinked (writes_at_places base ops (flat_map (λ (part : Bor (List ℕ)). part.now) parts))
  made E [] [] are = refl
  made E [] (arena ∷ all) are = absurd are
  made E (part ∷ parts) [] are = absurd are
  made E (part ∷ parts) (arena ∷ all) are =
      ap (λ l. l ++ flat_map (λ (arena : ArenaView). arena.records) all) are.0
      ∙ ap (λ l. unlinked (writes_at_places base ops part.now) ++ l) (made E parts all are.1)
      ∙ sym (records_append part.now (flat_map (λ (part : Bor (List ℕ)). part.now) parts))

  -- where all parts were made, their records are those of all places
  pub all_made : {W E : Type 0} (parts : List (Bor (List ℕ))) (rs : List (Result ArenaView E)) (r : Result (Vec ArenaView W) E) →
      AllZip (λ part (r : Result ArenaView E). IfOk r (IsMadeOf part)) parts rs →
      MatchResult r (λ v. (all : List ArenaView) × (rs ≡ map Ok all) × (v.items ≡ all)) (λ e. Contains rs (Err e)) →
      IfOk r (λ v. flat_map (λ (arena : ArenaView). arena.records) v.items ≡ unlinked (writes_at_places base ops (flat_map (λ (part : Bor (List ℕ)). part.now) parts)))
  all_made {W} {E} parts rs (Ok v) are h =
      ap (flat_map (λ (arena : ArenaView). arena.records)) h.2
      ∙ made E parts h.0 (subst (AllZip (λ part (r : Result ArenaView E). IfOk r (IsMadeOf part)) parts) h.1 are)
  all_made parts rs (Err e) are h = tt
