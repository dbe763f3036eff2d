-- The places of the operations that write.
use Rattle.std.proofs.Common.{◌≡◌, ℕ, suc, ◌+◌, ◌<◌, true, false, cond, List, [], ◌∷◌, ◌++◌, length, take, get_or, slice_get, flat_map, Option, Some, None, is_some, refl, sym, ap, ◌∙◌, subst, arith}
use Rattle.std.proofs.lemmas.Grind.{flat_map-append}
use Rattle.std.proofs.lemmas.List.{append-nil, take_more, map-append}
use Rattle.std.proofs.lemmas.List.Elements.{filter-append}
use Rattle.std.proofs.lemmas.List.Folds.{flat_map-map}
use Rattle.std.specs.List.Sorted.{IsPermutation}
use Rattle.bw_key.specs.Order.{KeyBytes}
use Rattle.bw_model.specs.declared.operations.Action.{Action}
use Rattle.bw_model.specs.Model.{key_of}
use Rattle.bw_model.specs.Verbs.{verb_of}
use Rattle.bw_model.specs.declared.operations.Op.{Op}
use Rattle.bw_model.specs.declared.operations.Op.TheVariants as op
use Rattle.bw_model.specs.declared.verbs.Verb.{Verb}
use Rattle.bw_model.specs.declared.verbs.Verb.TheVariants.{Get}
use Rattle.bw_delta.specs.Batches.{stamped, write_of, writes_of}
use Rattle.bw_delta.specs.Writes.{WriteView}
use Rattle.bw_tree.specs.PlacedWrites.{write_with, writes_at_places}
use Rattle.bw_tree.specs.Stages.{AreAllWritePlaces}
use Rattle.bw_group.specs.Points.{Entry, IsEntryOf, IsPointOf, entries_from, entries_of, entry_at, is_write, places_of, writing}
use Rattle.bw_group.specs.declared.points.Point.{Point}
use Rattle.bw_group.proofs.FlatPermutations.{flat_permutation}
use Rattle.bw_group.proofs.PointGroups.{entry_op, point_verb}

-- what the operation of an entry writes
abbrev write_in : ℕ → List Op → Entry → List WriteView
write_in base ops e = write_with (base + e.1) (slice_get ops e.1)

one_entry : (base place : ℕ) (all : List Op) (o : Op) → slice_get all place ≡ Some o → flat_map (write_in base all) (entry_at place (key_of o)) ≡ stamped (base + place) (write_of o)
one_entry base place all (op.Get key) is = append-nil (write_with (base + place) (slice_get all place)) ∙ ap (write_with (base + place)) is
one_entry base place all (op.Insert key v) is = append-nil (write_with (base + place) (slice_get all place)) ∙ ap (write_with (base + place)) is
one_entry base place all (op.Upsert key v) is = append-nil (write_with (base + place) (slice_get all place)) ∙ ap (write_with (base + place)) is
one_entry base place all (op.Update key v) is = append-nil (write_with (base + place) (slice_get all place)) ∙ ap (write_with (base + place)) is
one_entry base place all (op.Delete key) is = append-nil (write_with (base + place) (slice_get all place)) ∙ ap (write_with (base + place)) is
one_entry base place all (op.SwapIf key old new) is = append-nil (write_with (base + place) (slice_get all place)) ∙ ap (write_with (base + place)) is
one_entry base place all (op.Scan from to most) is = refl
one_entry base place all (op.Rscan from to most) is = refl

-- the entries of a batch are those of its writes
entries_write : (base place : ℕ) (all ops : List Op) → ((i : ℕ) → slice_get all (place + i) ≡ slice_get ops i) → flat_map (write_in base all) (entries_from place ops) ≡ writes_of (base + place) ops
entries_write base place all [] are = refl
entries_write base place all (o ∷ ops) are =
    flat_map-append (write_in base all) (entry_at place (key_of o)) (entries_from (place + 1) ops)
    ∙ ap (λ l. l ++ flat_map (write_in base all) (entries_from (place + 1) ops)) (one_entry base place all o (ap (slice_get all) (omega arith) ∙ are 0))
    ∙ ap (λ l. stamped (base + place) (write_of o) ++ l) (entries_write base (place + 1) all ops (λ i. ap (slice_get all) (omega arith) ∙ are (suc i)))
    ∙ ap (λ n. stamped (base + place) (write_of o) ++ writes_of n ops) (omega arith)

-- in whatever order
pub all_of_entries : (ops : List Op) (es : List Entry) → IsPermutation (entries_from 0 ops) es → AreAllWritePlaces ops (places_of es)
all_of_entries ops es moved base =
    subst (λ l. IsPermutation l (writes_at_places base ops (places_of es))) (entries_write base 0 ops ops (λ i. ap (slice_get ops) (first i)) ∙ ap (λ n. writes_of n ops) (omega arith))
    (subst (IsPermutation (flat_map (write_in base ops) (entries_from 0 ops))) (sym (flat_map-map (λ place. write_with (base + place) (slice_get ops place)) (λ (e : Entry). e.1) es))
    (flat_permutation (write_in base ops) (entries_from 0 ops) es moved))
  where
    first : (i : ℕ) → 0 + i ≡ i
    first i = omega arith

-- those that don't write have no writes
pub writing_same : (base : ℕ) (ops : List Op) (places : List ℕ) → writes_at_places base ops (writing ops places) ≡ writes_at_places base ops places
writing_same base ops [] = refl
writing_same base ops (p ∷ ps) = elim (is_write (slice_get ops p)) as (λ b. is_write (slice_get ops p) ≡ b → writes_at_places base ops (cond b (p ∷ writing ops ps) (writing ops ps)) ≡ writes_at_places base ops (p ∷ ps)) [
  | true ↦ λ is. ap (λ l. write_with (base + p) (slice_get ops p) ++ l) (writing_same base ops ps)
  | false ↦ λ is. writing_same base ops ps ∙ ap (λ l. l ++ writes_at_places base ops ps) (sym (nothing (base + p) (slice_get ops p) is))
] refl
  where
    different : true ≡ false → ⊥
    different e = cc

    none : (stamp : ℕ) (write : Option (KeyBytes × Action)) → is_some write ≡ false → stamped stamp write ≡ []
    none stamp None is = refl
    none stamp (Some write) is = absurd (different is)

    nothing : (stamp : ℕ) (o : Option Op) → is_write o ≡ false → write_with stamp o ≡ []
    nothing stamp None is = refl
    nothing stamp (Some o) is = none stamp (write_of o) is

-- those of the first points, and of one more
point_more : (ops : List Op) (points : List Point) (i : ℕ) (p : Point) → i < length points → p ≡ get_or points i p →
    writing ops (places_of (entries_of (take (i + 1) points))) ≡ writing ops (places_of (entries_of (take i points))) ++ writing ops (p.place ∷ [])
point_more ops points i p lt is =
    let front = take i points in
    ap (λ (l : List Point). writing ops (places_of (entries_of l))) (take_more points i p lt ∙ ap (λ (x : Point). front ++ x ∷ []) (sym is))
    ∙ ap (λ l. writing ops (places_of l)) (map-append (λ (x : Point). (x.key.now, x.place)) front (p ∷ []))
    ∙ ap (writing ops) (map-append (λ (e : Entry). e.1) (entries_of front) ((p.key.now, p.place) ∷ []))
    ∙ filter-append (λ place. is_write (slice_get ops place)) (places_of (entries_of front)) (p.place ∷ [])

-- what is told of a point's operation: its key and its verb
pub record IsTold (ops : List Op) (p : Point) : Type 0 where
  pub entry : IsEntryOf ops (p.key.now, p.place)
  pub verb : IsPointOf ops p

no_verb : {v : Verb} → None ≡ Some v → ⊥
no_verb e = cc

-- a get doesn't write
get_reads : (ops : List Op) (p : Point) → IsTold ops p → p.verb ≡ Some Get → is_write (slice_get ops p.place) ≡ false
get_reads ops p told get =
    let found = entry_op ops (p.key.now, p.place) told.entry in
    ap is_write found.is ∙ reads found.op (point_verb ops p found.op told.verb found.is ∙ get)
  where
    reads : (o : Op) → verb_of o ≡ Some Get → is_some (write_of o) ≡ false
    reads (op.Get key) e = refl
    reads (op.Insert key v) e = absurd (differ e)
      where
        differ : verb_of (op.Insert key v) ≡ Some Get → ⊥
        differ e = cc
    reads (op.Upsert key v) e = absurd (differ e)
      where
        differ : verb_of (op.Upsert key v) ≡ Some Get → ⊥
        differ e = cc
    reads (op.Update key v) e = absurd (differ e)
      where
        differ : verb_of (op.Update key v) ≡ Some Get → ⊥
        differ e = cc
    reads (op.Delete key) e = absurd (differ e)
      where
        differ : verb_of (op.Delete key) ≡ Some Get → ⊥
        differ e = cc
    reads (op.SwapIf key old new) e = absurd (no_verb e)
    reads (op.Scan from to most) e = refl
    reads (op.Rscan from to most) e = refl

-- and each other operation on a key does
other_writes : (ops : List Op) (p : Point) → IsTold ops p → (p.verb ≡ Some Get → ⊥) → is_write (slice_get ops p.place) ≡ true
other_writes ops p told other =
    let found = entry_op ops (p.key.now, p.place) told.entry in
    ap is_write found.is ∙ writes found.op found.key (point_verb ops p found.op told.verb found.is)
  where
    no_key : None ≡ Some p.key.now → ⊥
    no_key e = cc

    writes : (o : Op) → key_of o ≡ Some p.key.now → verb_of o ≡ p.verb → is_some (write_of o) ≡ true
    writes (op.Get key) k v = absurd (other (sym v))
    writes (op.Insert key v) k e = refl
    writes (op.Upsert key v) k e = refl
    writes (op.Update key v) k e = refl
    writes (op.Delete key) k e = refl
    writes (op.SwapIf key old new) k e = refl
    writes (op.Scan from to most) k e = absurd (no_key k)
    writes (op.Rscan from to most) k e = absurd (no_key k)

-- the places of the first points' operations that write
abbrev pub AreListed : List Op → List ℕ → List Point → Type 0
AreListed ops places points = places ≡ writing ops (places_of (entries_of points))

-- a place more
pub with_place : (ops : List Op) (places places' : List ℕ) (points : List Point) (i : ℕ) (p : Point) → i < length points → p ≡ get_or points i p → IsTold ops p → (p.verb ≡ Some Get → ⊥) → places' ≡ places ++ p.place ∷ [] → AreListed ops places (take i points) → AreListed ops places' (take (i + 1) points)
with_place ops places places' points i p lt is told other added so =
    let front = writing ops (places_of (entries_of (take i points))) in
    added ∙ ap (λ l. l ++ p.place ∷ []) so
    ∙ ap (λ b. front ++ cond b (p.place ∷ []) []) (sym (other_writes ops p told other))
    ∙ sym (point_more ops points i p lt is)

-- and none, where the operation only reads
pub without_place : (ops : List Op) (places places' : List ℕ) (points : List Point) (i : ℕ) (p : Point) → i < length points → p ≡ get_or points i p → IsTold ops p → p.verb ≡ Some Get → places' ≡ places → AreListed ops places (take i points) → AreListed ops places' (take (i + 1) points)
without_place ops places places' points i p lt is told get kept so =
    let front = writing ops (places_of (entries_of (take i points))) in
    kept ∙ so ∙ sym (append-nil front)
    ∙ ap (λ b. front ++ cond b (p.place ∷ []) []) (sym (get_reads ops p told get))
    ∙ sym (point_more ops points i p lt is)
