-- What stays of packed entries when they are put one behind the other, cut or moved.
use Rattle.std.proofs.Common.{◌≡◌, ℕ, zero, suc, ◌+◌, ◌-◌, ◌<◌, ◌≤◌, List, [], ◌∷◌, ◌++◌, length, take, drop, map, get_or, refl, sym, ap, ◌∙◌, subst, arith, length-drop, length-take, zero-add}
use Rattle.std.proofs.Math.Nat.{suc-add}
use Rattle.std.proofs.lemmas.List.{drop-append-le, drop-drop, drop-take, nil_from_length, take-append-le, take-take}
use Rattle.std.proofs.lemmas.List.Sums.{sum_by-cons}
use Rattle.std.specs.List.{sum_by}
use Rattle.bw_packed.specs.declared.list.Entry.{Entry}
use Rattle.bw_packed.specs.Lists.{RiseTo, moved, start_at, unpacked}

-- bytes that are left out in two steps
dropped : (start middle at : ℕ) (bs : List ℕ) → start ≤ middle → middle ≤ at → drop (at - middle) (drop (middle - start) bs) ≡ drop (at - start) bs
dropped start middle at bs h k = drop-drop (at - middle) (middle - start) bs ∙ ap (λ i. drop i bs) (omega (arith, h, k))

start_at_none : (E : Type 0) (start n : ℕ) → start_at {E = E} start [] n ≡ start
start_at_none E start zero = refl
start_at_none E start (suc n) = refl

module _ {E : Type 0} where
  pub length-unpacked : (start : ℕ) (bs : List ℕ) (es : List (Entry E)) → length (unpacked start bs es) ≡ length es
  length-unpacked start bs [] = refl
  length-unpacked start bs (e ∷ es) = ap suc (length-unpacked e.end (drop (e.end - start) bs) es)

  -- an end isn't below the place from which ends rise
  pub rises_le : (start stop : ℕ) (es : List (Entry E)) → RiseTo start es stop → start ≤ stop
  rises_le start stop [] h = omega (arith, h)
  rises_le start stop (e ∷ es) h = omega (arith, h.0, rises_le e.end stop es h.1)

  pub rises-append : (start middle stop : ℕ) (es fs : List (Entry E)) → RiseTo start es middle → RiseTo middle fs stop → RiseTo start (es ++ fs) stop
  rises-append start middle stop [] fs h k = subst (λ n. RiseTo n fs stop) (sym h) k
  rises-append start middle stop (e ∷ es) fs h k = (h.0, rises-append e.end middle stop es fs h.1 k)

  -- entries one behind the other
  pub unpacked-append : (start stop : ℕ) (bs cs : List ℕ) (es fs : List (Entry E)) → RiseTo start es stop → stop ≡ start + length bs →
      unpacked start (bs ++ cs) (es ++ fs) ≡ unpacked start bs es ++ unpacked stop cs fs
  unpacked-append start stop bs cs [] fs h ends =
      let none : bs ≡ [] = nil_from_length bs (omega (arith, h, ends)) in
      ap (λ (xs : List ℕ). unpacked start (xs ++ cs) fs) none ∙ ap (λ n. unpacked n cs fs) h
  unpacked-append start stop bs cs (e ∷ es) fs h ends =
      let within : e.end - start ≤ length bs = omega (arith, h.0, ends, rises_le e.end stop es h.1) in
      let here : take (e.end - start) (bs ++ cs) ≡ take (e.end - start) bs = take-append-le (e.end - start) bs cs within in
      let rest : drop (e.end - start) (bs ++ cs) ≡ drop (e.end - start) bs ++ cs = drop-append-le (e.end - start) bs cs within in
      let more = unpacked-append e.end stop (drop (e.end - start) bs) cs es fs h.1 (omega (arith, h.0, ends, within, length-drop (e.end - start) bs)) in
      ap (λ (xs : List ℕ). (xs, e.tag) ∷ unpacked e.end (drop (e.end - start) (bs ++ cs)) (es ++ fs)) here
      ∙ ap (λ (xs : List ℕ). (take (e.end - start) bs, e.tag) ∷ unpacked e.end xs (es ++ fs)) rest
      ∙ ap (λ (xs : List (List ℕ × E)). (take (e.end - start) bs, e.tag) ∷ xs) more

  -- all bytes are those of the entries
  pub sum_by-unpacked : (start stop : ℕ) (bs : List ℕ) (es : List (Entry E)) → RiseTo start es stop → stop ≡ start + length bs →
      sum_by (λ (e : List ℕ × E). length e.0) (unpacked start bs es) ≡ stop - start
  sum_by-unpacked start stop bs [] h ends = omega (arith, h)
  sum_by-unpacked start stop bs (e ∷ es) h ends =
      let within : e.end - start ≤ length bs = omega (arith, h.0, ends, rises_le e.end stop es h.1) in
      let more = sum_by-unpacked e.end stop (drop (e.end - start) bs) es h.1 (omega (arith, h.0, ends, within, length-drop (e.end - start) bs)) in
      sum_by-cons (λ (x : List ℕ × E). length x.0) (take (e.end - start) bs, e.tag) (unpacked e.end (drop (e.end - start) bs) es)
      ∙ omega (arith, more, within, h.0, rises_le e.end stop es h.1, length-take (e.end - start) bs)

  -- the same entries, counted from another place
  pub unpacked-moved : (from to start stop : ℕ) (bs : List ℕ) (es : List (Entry E)) → from ≤ start → RiseTo start es stop →
      unpacked ((start - from) + to) bs (map (moved from to) es) ≡ unpacked start bs es
  unpacked-moved from to start stop bs [] le h = refl
  unpacked-moved from to start stop bs (e ∷ es) le h =
      let same : (e.end - from) + to - ((start - from) + to) ≡ e.end - start = omega (arith, le, h.0) in
      ap (λ n. (take n bs, e.tag) ∷ unpacked ((e.end - from) + to) (drop n bs) (map (moved from to) es)) same
      ∙ ap (λ (xs : List (List ℕ × E)). (take (e.end - start) bs, e.tag) ∷ xs) (unpacked-moved from to e.end stop (drop (e.end - start) bs) es (omega (arith, le, h.0)) h.1)

  pub rises-moved : (from to start stop : ℕ) (es : List (Entry E)) → from ≤ start → RiseTo start es stop →
      RiseTo ((start - from) + to) (map (moved from to) es) ((stop - from) + to)
  rises-moved from to start stop [] le h = ap (λ n. (n - from) + to) h
  rises-moved from to start stop (e ∷ es) le h =
      (omega (arith, le, h.0), rises-moved from to e.end stop es (omega (arith, le, h.0)) h.1)

  -- entries cut at a place
  pub rises-take : (start stop n : ℕ) (es : List (Entry E)) → RiseTo start es stop → RiseTo start (take n es) (start_at start es n)
  rises-take start stop zero es h = refl
  rises-take start stop (suc n) [] h = refl
  rises-take start stop (suc n) (e ∷ es) h = (h.0, rises-take e.end stop n es h.1)

  pub rises-drop : (start stop n : ℕ) (es : List (Entry E)) → RiseTo start es stop → RiseTo (start_at start es n) (drop n es) stop
  rises-drop start stop zero es h = h
  rises-drop start stop (suc n) [] h = h
  rises-drop start stop (suc n) (e ∷ es) h = rises-drop e.end stop n es h.1

  pub start_at_ge : (start stop n : ℕ) (es : List (Entry E)) → RiseTo start es stop → start ≤ start_at start es n
  start_at_ge start stop n es h = rises_le start (start_at start es n) (take n es) (rises-take start stop n es h)

  pub start_at_le : (start stop n : ℕ) (es : List (Entry E)) → RiseTo start es stop → start_at start es n ≤ stop
  start_at_le start stop n es h = rises_le (start_at start es n) stop (drop n es) (rises-drop start stop n es h)

  pub unpacked-take : (start stop n : ℕ) (bs : List ℕ) (es : List (Entry E)) → RiseTo start es stop →
      take n (unpacked start bs es) ≡ unpacked start (take (start_at start es n - start) bs) (take n es)
  unpacked-take start stop zero bs es h = refl
  unpacked-take start stop (suc n) bs [] h = refl
  unpacked-take start stop (suc n) bs (e ∷ es) h =
      let k = e.end - start in
      let m = start_at e.end es n - e.end in
      let past : e.end ≤ start_at e.end es n = start_at_ge e.end stop n es h.1 in
      let all : start_at e.end es n - start ≡ k + m = omega (arith, h.0, past) in
      let less : k ≤ start_at e.end es n - start = omega (arith, h.0, past) in
      let first : take k bs ≡ take k (take (start_at e.end es n - start) bs) = sym (take-take k (start_at e.end es n - start) bs less) in
      let rest : take m (drop k bs) ≡ drop k (take (start_at e.end es n - start) bs) = sym (ap (λ i. drop k (take i bs)) all ∙ drop-take k m bs) in
      ap (λ (xs : List (List ℕ × E)). (take k bs, e.tag) ∷ xs) (unpacked-take e.end stop n (drop k bs) es h.1)
      ∙ ap (λ (xs : List ℕ). (xs, e.tag) ∷ unpacked e.end (take m (drop k bs)) (take n es)) first
      ∙ ap (λ (xs : List ℕ). (take k (take (start_at e.end es n - start) bs), e.tag) ∷ unpacked e.end xs (take n es)) rest

  pub unpacked-drop : (start stop n : ℕ) (bs : List ℕ) (es : List (Entry E)) → RiseTo start es stop →
      drop n (unpacked start bs es) ≡ unpacked (start_at start es n) (drop (start_at start es n - start) bs) (drop n es)
  unpacked-drop start stop zero bs es h = ap (λ i. unpacked start (drop i bs) es) nothing
    where
      nothing : 0 ≡ start - start
      nothing = omega arith
  unpacked-drop start stop (suc n) bs [] h = refl
  unpacked-drop start stop (suc n) bs (e ∷ es) h =
      unpacked-drop e.end stop n (drop (e.end - start) bs) es h.1
      ∙ ap (λ (xs : List ℕ). unpacked (start_at e.end es n) xs (drop n es)) (dropped start e.end (start_at e.end es n) bs h.0 (start_at_ge e.end stop n es h.1))

  -- where a run of the rest begins
  pub start_at-drop : (start n m : ℕ) (es : List (Entry E)) → start_at (start_at start es n) (drop n es) m ≡ start_at start es (n + m)
  start_at-drop start zero m es = ap (start_at start es) (sym (zero-add m))
  start_at-drop start (suc n) m [] = start_at_none E start m ∙ sym (start_at_none E start (suc n + m))
  start_at-drop start (suc n) m (e ∷ es) = start_at-drop e.end n m es ∙ ap (start_at start (e ∷ es)) (sym (suc-add n m))

  -- the next entry begins where the one at a place ends
  pub start_at_next : (start n : ℕ) (es : List (Entry E)) (d : Entry E) → n < length es → start_at start es (suc n) ≡ (get_or es n d).end
  start_at_next start n [] d lt = absurd (omega arith)
  start_at_next start zero (e ∷ es) d lt = refl
  start_at_next start (suc n) (e ∷ es) d lt = start_at_next e.end n es d (omega (arith, lt))

  -- the entry at a place
  pub unpacked_at : (start stop n : ℕ) (bs : List ℕ) (es : List (Entry E)) (d : Entry E) (x : List ℕ × E) → RiseTo start es stop → n < length es →
      get_or (unpacked start bs es) n x ≡ (take ((get_or es n d).end - start_at start es n) (drop (start_at start es n - start) bs), (get_or es n d).tag)
  unpacked_at start stop n bs [] d x h lt = absurd (omega arith)
  unpacked_at start stop zero bs (e ∷ es) d x h lt = ap (λ i. (take (e.end - start) (drop i bs), e.tag)) nothing
    where
      nothing : 0 ≡ start - start
      nothing = omega arith
  unpacked_at start stop (suc n) bs (e ∷ es) d x h lt =
      let at = start_at e.end es n in
      let y = get_or es n d in
      let here : get_or (unpacked e.end (drop (e.end - start) bs) es) n x ≡ (take (y.end - at) (drop (at - e.end) (drop (e.end - start) bs)), y.tag) =
      unpacked_at e.end stop n (drop (e.end - start) bs) es d x h.1 (omega (arith, lt)) in
      let same : drop (at - e.end) (drop (e.end - start) bs) ≡ drop (at - start) bs = dropped start e.end at bs h.0 (start_at_ge e.end stop n es h.1) in
      rw (← same) here
