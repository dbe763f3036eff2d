-- Where the entries of a list in segments stand.
use Rattle.std.proofs.Common.{◌≡◌, ℕ, zero, suc, ◌+◌, ◌-◌, ◌*◌, ◌<◌, ◌≤◌, List, [], ◌∷◌, ◌++◌, length, map, take, drop, set, get_or, slice_get, Option, Some, None, Bor, refl, sym, ap, ◌∙◌, arith, append_assoc, flat_map, length-append, length-take}
use Rattle.std.proofs.lemmas.List.{drop_more, get_or-map, length-map, set_at, take_more, set-append_left, set-append_right, take-append-le}
use Rattle.std.proofs.lemmas.Option.{slice_get_past, slice_get_read}
use Rattle.std.proofs.Math.Seq.{take-append-add}
use Rattle.std.specs.List.{All}
use Rattle.std.specs.Slice.{IsItemAt}
use Rattle.std.specs.Option.{option_map}
use Rattle.bw_segment.specs.Segments.{joined}

module _ {A : Type 0} where
  -- each of these segments is full
  abbrev pub AreFull : List (List A) → Type 0
  AreFull = All (λ segment. length segment ≡ 1024)

  pub rest_full : (xs : List A) (full : List (List A)) → AreFull (xs ∷ full) → AreFull full
  rest_full xs full h k d lt = h (suc k) d (omega (arith, lt))

  pub first_full : (xs : List A) (full : List (List A)) → AreFull (xs ∷ full) → length xs ≡ 1024
  first_full xs full h = h zero xs (omega arith)

  -- an entry of the first of two lists, and one of the second
  get_left : (xs ys : List A) (i : ℕ) → i < length xs → slice_get (xs ++ ys) i ≡ slice_get xs i
  get_left [] ys i lt = absurd (omega arith)
  get_left (x ∷ xs) ys zero lt = refl
  get_left (x ∷ xs) ys (suc i) lt = get_left xs ys i (omega (arith, lt))

  get_right : (xs ys : List A) (n i : ℕ) → n ≡ length xs + i → slice_get (xs ++ ys) n ≡ slice_get ys i
  get_right [] ys n i at = ap (slice_get ys) here
    where
      here : n ≡ i
      here = omega (arith, at)
  get_right (x ∷ xs) ys zero i at = absurd (omega (arith, at))
  get_right (x ∷ xs) ys (suc n) i at = get_right xs ys n i (omega (arith, at))

  pub length_joined : (full : List (List A)) (last : List A) → AreFull full → length (joined full last) ≡ length full * 1024 + length last
  length_joined [] last h = omega arith
  length_joined (xs ∷ full) last h =
      let behind = flat_map (λ (segment : List A). segment) full in
      let first = first_full xs full h in
      let more = length_joined full last (rest_full xs full h) in
      ap length (append_assoc xs behind last) ∙ omega (arith, length-append xs (behind ++ last), first, more)

  -- the place of an entry in a segment that is full
  pub get_full : (full : List (List A)) (last : List A) (q r : ℕ) (d : List A) → AreFull full → q < length full → r < 1024 →
      slice_get (joined full last) (q * 1024 + r) ≡ slice_get (get_or full q d) r
  get_full [] last q r d h lt short = absurd (omega arith)
  get_full (xs ∷ full) last zero r d h lt short =
      let behind = flat_map (λ (segment : List A). segment) full in
      let first = first_full xs full h in
      let at : zero * 1024 + r ≡ r = omega arith in
      ap (λ (l : List A). slice_get l (zero * 1024 + r)) (append_assoc xs behind last)
      ∙ ap (slice_get (xs ++ (behind ++ last))) at ∙ get_left xs (behind ++ last) r (omega (arith, first, short))
  get_full (xs ∷ full) last (suc q) r d h lt short =
      let behind = flat_map (λ (segment : List A). segment) full in
      let first = first_full xs full h in
      let at : suc q * 1024 + r ≡ length xs + (q * 1024 + r) = omega (arith, first) in
      ap (λ (l : List A). slice_get l (suc q * 1024 + r)) (append_assoc xs behind last)
      ∙ get_right xs (behind ++ last) (suc q * 1024 + r) (q * 1024 + r) at
      ∙ get_full full last q r d (rest_full xs full h) (omega (arith, lt)) short

  -- and behind those that are full
  pub get_last : (full : List (List A)) (last : List A) (r : ℕ) → AreFull full → slice_get (joined full last) (length full * 1024 + r) ≡ slice_get last r
  get_last [] last r h = ap (slice_get last) at
    where
      at : 0 * 1024 + r ≡ r
      at = omega arith
  get_last (xs ∷ full) last r h =
      let behind = flat_map (λ (segment : List A). segment) full in
      let first = first_full xs full h in
      let at : suc (length full) * 1024 + r ≡ length xs + (length full * 1024 + r) = omega (arith, first) in
      ap (λ (l : List A). slice_get l (suc (length full) * 1024 + r)) (append_assoc xs behind last)
      ∙ get_right xs (behind ++ last) (suc (length full) * 1024 + r) (length full * 1024 + r) at
      ∙ get_last full last r (rest_full xs full h)

  -- an entry in the place of another
  pub set_full : (full : List (List A)) (last : List A) (q r : ℕ) (d : List A) (x : A) → AreFull full → q < length full → r < 1024 →
      joined (set full q (set (get_or full q d) r x)) last ≡ set (joined full last) (q * 1024 + r) x
  set_full [] last q r d x h lt short = absurd (omega arith)
  set_full (xs ∷ full) last zero r d x h lt short =
      let behind = flat_map (λ (segment : List A). segment) full in
      let first = first_full xs full h in
      let at : r ≡ zero * 1024 + r = omega arith in
      append_assoc (set xs r x) behind last ∙ sym (set-append_left xs (behind ++ last) r x (omega (arith, first, short)))
      ∙ ap (λ i. set (xs ++ (behind ++ last)) i x) at
      ∙ ap (λ (l : List A). set l (zero * 1024 + r) x) (sym (append_assoc xs behind last))
  set_full (xs ∷ full) last (suc q) r d x h lt short =
      let behind = flat_map (λ (segment : List A). segment) full in
      let first = first_full xs full h in
      let at : (suc q * 1024 + r) - length xs ≡ q * 1024 + r = omega (arith, first) in
      append_assoc xs (flat_map (λ (segment : List A). segment) (set full q (set (get_or full q d) r x))) last
      ∙ ap (λ l. xs ++ l) (set_full full last q r d x (rest_full xs full h) (omega (arith, lt)) short)
      ∙ ap (λ i. xs ++ set (behind ++ last) i x) (sym at)
      ∙ sym (set-append_right xs (behind ++ last) (length xs) (suc q * 1024 + r) x refl (omega (arith, first)))
      ∙ ap (λ (l : List A). set l (suc q * 1024 + r) x) (sym (append_assoc xs behind last))

  pub set_last : (full : List (List A)) (last : List A) (r : ℕ) (x : A) → AreFull full → joined full (set last r x) ≡ set (joined full last) (length full * 1024 + r) x
  set_last [] last r x h = ap (λ i. set last i x) at
    where
      at : r ≡ 0 * 1024 + r
      at = omega arith
  set_last (xs ∷ full) last r x h =
      let behind = flat_map (λ (segment : List A). segment) full in
      let first = first_full xs full h in
      let at : (suc (length full) * 1024 + r) - length xs ≡ length full * 1024 + r = omega (arith, first) in
      append_assoc xs behind (set last r x)
      ∙ ap (λ l. xs ++ l) (set_last full last r x (rest_full xs full h))
      ∙ ap (λ i. xs ++ set (behind ++ last) i x) (sym at)
      ∙ sym (set-append_right xs (behind ++ last) (length xs) (suc (length full) * 1024 + r) x refl (omega (arith, first)))
      ∙ ap (λ (l : List A). set l (suc (length full) * 1024 + r) x) (sym (append_assoc xs behind last))

  -- the first entries
  pub take_full : (full : List (List A)) (last : List A) (q r : ℕ) (d : List A) → AreFull full → q < length full → r < 1024 →
      joined (take q full) (take r (get_or full q d)) ≡ take (q * 1024 + r) (joined full last)
  take_full [] last q r d h lt short = absurd (omega arith)
  take_full (xs ∷ full) last zero r d h lt short =
      let behind = flat_map (λ (segment : List A). segment) full in
      let first = first_full xs full h in
      let at : r ≡ zero * 1024 + r = omega arith in
      sym (take-append-le r xs (behind ++ last) (omega (arith, first, short)))
      ∙ ap (λ i. take i (xs ++ (behind ++ last))) at
      ∙ ap (take (zero * 1024 + r)) (sym (append_assoc xs behind last))
  take_full (xs ∷ full) last (suc q) r d h lt short =
      let behind = flat_map (λ (segment : List A). segment) full in
      let first = first_full xs full h in
      let at : length xs + (q * 1024 + r) ≡ suc q * 1024 + r = omega (arith, first) in
      append_assoc xs (flat_map (λ (segment : List A). segment) (take q full)) (take r (get_or full q d))
      ∙ ap (λ l. xs ++ l) (take_full full last q r d (rest_full xs full h) (omega (arith, lt)) short)
      ∙ sym (take-append-add xs (behind ++ last) (q * 1024 + r))
      ∙ ap (λ i. take i (xs ++ (behind ++ last))) at
      ∙ ap (take (suc q * 1024 + r)) (sym (append_assoc xs behind last))

  pub take_last : (full : List (List A)) (last : List A) (r : ℕ) → AreFull full → joined full (take r last) ≡ take (length full * 1024 + r) (joined full last)
  take_last [] last r h = ap (λ i. take i last) at
    where
      at : r ≡ 0 * 1024 + r
      at = omega arith
  take_last (xs ∷ full) last r h =
      let behind = flat_map (λ (segment : List A). segment) full in
      let first = first_full xs full h in
      let at : length xs + (length full * 1024 + r) ≡ suc (length full) * 1024 + r = omega (arith, first) in
      append_assoc xs behind (take r last)
      ∙ ap (λ l. xs ++ l) (take_last full last r (rest_full xs full h))
      ∙ sym (take-append-add xs (behind ++ last) (length full * 1024 + r))
      ∙ ap (λ i. take i (xs ++ (behind ++ last))) at
      ∙ ap (take (suc (length full) * 1024 + r)) (sym (append_assoc xs behind last))

  -- what a look-up of a list answers
  pub looked_up : (xs : List A) (i : ℕ) (r : Option (Bor A)) → IsItemAt xs i r → option_map (λ entry. entry.now) r ≡ slice_get xs i
  looked_up xs i None h = sym (slice_get_past xs i h.3)
  looked_up xs i (Some entry) h = sym (slice_get_read xs (length xs) i entry.now refl h.3.0 h.1)

  -- a segment in which a place is, by its place among the full ones
  pub full_at : (X : Type 0) (entries : X → List A) (vs : List X) (v : X) (q : ℕ) → AreFull (map entries vs) → q < length vs → v ≡ get_or vs q v →
      (length (entries v) ≡ 1024) × (get_or (map entries vs) q (entries v) ≡ entries v)
  full_at X entries vs v q h lt is =
      let seen = get_or-map entries vs q v (entries v) lt in
      let same : get_or (map entries vs) q (entries v) ≡ entries v = seen ∙ ap entries (sym is) in
      (ap length (sym same) ∙ h q (entries v) (omega (arith, lt, length-map vs entries)), same)

  -- one more entry that is put over others
  pub one_more_over : (old given now : List A) (start place : ℕ) (x : A) → place < length given → start + length given ≤ length old → x ≡ get_or given place x →
      now ≡ take start old ++ take place given ++ drop (start + place) old →
      set now (start + place) x ≡ take start old ++ take (place + 1) given ++ drop (start + (place + 1)) old
  one_more_over old given now start place x lt fits is so_far =
      let front = take start old ++ take place given in
      let y = get_or old (start + place) x in
      let long : length front ≡ start + place = omega (arith, length-append (take start old) (take place given), length-take start old, length-take place given) in
      let behind : start + place + 1 ≡ start + (place + 1) = omega arith in
      let next : drop (start + place) old ≡ y ∷ drop (start + (place + 1)) old =
      drop_more old (start + place) x (omega (arith, lt, fits)) ∙ ap (λ i. y ∷ drop i old) behind in
      ap (λ l. set l (start + place) x) (so_far ∙ ap (λ l. front ++ l) next)
      ∙ set_at front y (drop (start + (place + 1)) old) x (start + place) long
      ∙ sym (append_assoc front (x ∷ []) (drop (start + (place + 1)) old))
      ∙ ap (λ l. l ++ drop (start + (place + 1)) old) (append_assoc (take start old) (take place given) (x ∷ [])
      ∙ ap (λ l. take start old ++ l) (ap (λ z. take place given ++ z ∷ []) is ∙ sym (take_more given place x lt)))

  -- a segment more of those that are added to a list
  pub added_more : (old new xs list : List A) (segments rest : List (List A)) (last : List A) → segments ≡ xs ∷ rest → old ++ joined segments last ≡ list → new ≡ old ++ xs → new ++ joined rest last ≡ list
  added_more old new xs list segments rest last is all added =
      let behind = flat_map (λ (segment : List A). segment) rest in
      ap (λ l. l ++ joined rest last) added
      ∙ append_assoc old xs (joined rest last)
      ∙ ap (λ l. old ++ l) (sym (append_assoc xs behind last))
      ∙ ap (λ l. old ++ joined l last) (sym is)
      ∙ all

  -- what stood there stays the first
  pub still_first : (before old new xs : List A) → take (length before) old ≡ before → new ≡ old ++ xs → take (length before) new ≡ before
  still_first before old new xs first added =
      let short : length before ≤ length old = omega (arith, ap length first, length-take (length before) old) in
      ap (take (length before)) added ∙ take-append-le (length before) old xs short ∙ first
