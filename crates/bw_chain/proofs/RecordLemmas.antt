-- The records of a batch.
use Rattle.std.proofs.Common.{◌≡◌, ℕ, zero, suc, ◌+◌, ◌<◌, List, [], ◌∷◌, ◌++◌, length, map, take, get_or, slice_get, Some, refl, sym, ap, ◌∙◌, arith}
use Rattle.std.specs.List.{AllByRecursion}
use Rattle.std.proofs.lemmas.List.{flat_map_more, map-append, take_more}
use Rattle.std.proofs.lemmas.Option.{slice_get-get_or}
use Rattle.bw_model.specs.declared.operations.Op.{Op}
use Rattle.bw_delta.specs.Writes.{WriteView}
use Rattle.bw_delta.specs.Batches.{write_of, stamped}
use Rattle.bw_delta.specs.declared.deltas.Delta.TheVariants.{Put}
use Rattle.bw_chain.specs.Chains.{Records}
use Rattle.bw_chain.specs.PlacedWrites.{write_with, writes_at_places}
use Rattle.bw_chain.specs.Records.{put_records, unlinked, writes_in}

parted : (xs ys zs : Records) → (xs ++ ys) ++ zs ≡ xs ++ (ys ++ zs)
parted [] ys zs = refl
parted (x ∷ xs) ys zs = ap (λ l. x ∷ l) (parted xs ys zs)

-- the operation at a place more
pub appended_more : (before old new : Records) (n : ℕ) (ops : List Op) (places : List ℕ) (i stamp : ℕ) (op : Op) → i < length places → AllByRecursion (λ p. p < length ops) places → op ≡ get_or ops (get_or places i 0) op → stamp ≡ n + get_or places i 0 →
    old ≡ before ++ unlinked (writes_at_places n ops (take i places)) → new ≡ old ++ unlinked (stamped stamp (write_of op)) →
    new ≡ before ++ unlinked (writes_at_places n ops (take (i + 1) places))
appended_more before old new n ops places i stamp op lt there is stamp_is so more =
    let place = get_or places i 0 in
    let front = take i places in
    let found : slice_get ops place ≡ Some op = slice_get-get_or ops place op (all_at i places lt there) ∙ ap (λ (o : Op). Some o) (sym is) in
    more ∙ ap (λ l. l ++ unlinked (stamped stamp (write_of op))) so
    ∙ parted before (unlinked (writes_at_places n ops front)) (unlinked (stamped stamp (write_of op)))
    ∙ ap (λ l. before ++ l) (sym (map-append (λ (w : WriteView). (Put w, 0)) (writes_at_places n ops front) (stamped stamp (write_of op))))
    ∙ ap (λ s. before ++ unlinked (writes_at_places n ops front ++ stamped s (write_of op))) stamp_is
    ∙ ap (λ o. before ++ unlinked (writes_at_places n ops front ++ write_with (n + place) o)) (sym found)
    ∙ ap (λ l. before ++ unlinked l) (flat_map_more (λ p. write_with (n + p) (slice_get ops p)) [] front place)
    ∙ ap (λ l. before ++ unlinked (writes_at_places n ops l)) (sym (take_more places i 0 lt))
  where
    all_at : (i : ℕ) (ps : List ℕ) → i < length ps → AllByRecursion (λ p. p < length ops) ps → get_or ps i 0 < length ops
    all_at i [] lt all = absurd (omega (arith, lt))
    all_at zero (p ∷ ps) lt all = all.0
    all_at (suc i) (p ∷ ps) lt all = all_at i ps (omega (arith, lt)) all.1

-- records without links yet
pub unlinked_put : (ws : List WriteView) → unlinked ws ≡ put_records ws (map (λ w. 0) ws)
unlinked_put [] = refl
unlinked_put (w ∷ ws) = ap (λ (l : Records). (Put w, 0) ∷ l) (unlinked_put ws)

pub writes_unlinked : (ws : List WriteView) → writes_in (unlinked ws) ≡ ws
writes_unlinked [] = refl
writes_unlinked (w ∷ ws) = ap (λ (l : List WriteView). w ∷ l) (writes_unlinked ws)
