-- The points of a batch, and groups of them.
use Rattle.std.proofs.Common.{◌≡◌, ℕ, zero, suc, ◌+◌, ◌-◌, ◌<◌, ◌≤◌, Bool, true, false, cond, not, List, [], ◌∷◌, ◌++◌, length, take, drop, get_or, slice_get, Option, Some, None, refl, sym, ap, ◌∙◌, subst, arith, add-one, length-drop}
use Rattle.std.specs.Option.{option_map}
use Rattle.std.specs.List.{AllByRecursion}
use Rattle.std.specs.List.Sorted.{IsSortedBy}
use Rattle.std.specs.Ordering.{is_lt}
use Rattle.std.proofs.lemmas.List.{append-nil, append_assoc, map-append, take-append-drop, take-map, get_or_default, get_or-map, get_or-take, length-take}
use Rattle.std.proofs.lemmas.List.Elements.{filter-append}
use Rattle.std.proofs.lemmas.Option.{slice_get_within, slice_get-get_or}
use Rattle.bw_key.specs.Order.{KeyBytes, key_cmp, key_eq, key_eq_equiv}
use Rattle.bw_model.specs.declared.operations.Op.{Op}
use Rattle.bw_group.specs.Points.{Entry, entry_at, scan_place, scans_from, entries_from, entries_of, entries_at, places_of, HasKey, HasRisingPlaces, IsEntryOf, IsPointOf, IsScanOf}
use Rattle.bw_model.specs.Model.{key_of}
use Rattle.bw_model.specs.Verbs.{verb_of}
use Rattle.bw_model.specs.declared.verbs.Verb.{Verb}
use Rattle.bw_group.specs.declared.points.Point.{Point}
use Rattle.bw_group.proofs.ListParts.{part_more, all_append, all_at, all_same, in_rest, seen_rest}

-- the points of one operation more
entries_further : (n : ℕ) (ops : List Op) (i : ℕ) (op : Op) → i < length ops → op ≡ get_or ops i op → entries_from n (take (suc i) ops) ≡ entries_from n (take i ops) ++ entry_at (n + i) (key_of op)
entries_further n [] i op lt is = absurd (omega arith)
entries_further n (o ∷ ops) zero op lt is = by (key_of o) ∙ ap (λ (x : Op). entry_at (n + 0) (key_of x)) (sym is)
  where
    same : (m : ℕ) → m ≡ m + 0
    same m = omega arith

    by : (k : Option KeyBytes) → entry_at n k ++ [] ≡ entry_at (n + 0) k
    by None = refl
    by (Some k) = ap (λ (m : ℕ). (k, m) ∷ []) (same n)
entries_further n (o ∷ ops) (suc i) op lt is =
    ap (λ l. entry_at n (key_of o) ++ l) (entries_further (n + 1) ops i op (omega arith) is)
    ∙ by (entry_at n (key_of o))
    ∙ ap (λ (m : ℕ). (entry_at n (key_of o) ++ entries_from (n + 1) (take i ops)) ++ entry_at m (key_of op)) (same n i)
  where
    same : (n i : ℕ) → n + 1 + i ≡ n + suc i
    same n i = omega arith

    by : (es : List Entry) → es ++ (entries_from (n + 1) (take i ops) ++ entry_at (n + 1 + i) (key_of op)) ≡ (es ++ entries_from (n + 1) (take i ops)) ++ entry_at (n + 1 + i) (key_of op)
    by [] = refl
    by (e ∷ es) = ap (λ l. e ∷ l) (by es)

pub entries_more : (ops : List Op) (i : ℕ) (op : Op) → i < length ops → op ≡ get_or ops i op → entries_from 0 (take (i + 1) ops) ≡ entries_from 0 (take i ops) ++ entry_at i (key_of op)
entries_more ops i op lt is = rw add-one (entries_further 0 ops i op lt is) ∙ ap (λ (n : ℕ). entries_from 0 (take i ops) ++ entry_at n (key_of op)) (from_none i)
  where
    from_none : (i : ℕ) → 0 + i ≡ i
    from_none i = omega arith

-- the scans of one operation more
scans_further : (n : ℕ) (ops : List Op) (i : ℕ) (op : Op) → i < length ops → op ≡ get_or ops i op → scans_from n (take (suc i) ops) ≡ scans_from n (take i ops) ++ scan_place (n + i) (key_of op)
scans_further n [] i op lt is = absurd (omega arith)
scans_further n (o ∷ ops) zero op lt is = by (key_of o) ∙ ap (λ (x : Op). scan_place (n + 0) (key_of x)) (sym is)
  where
    same : (m : ℕ) → m ≡ m + 0
    same m = omega arith

    by : (k : Option KeyBytes) → scan_place n k ++ [] ≡ scan_place (n + 0) k
    by None = ap (λ (m : ℕ). m ∷ []) (same n)
    by (Some k) = refl
scans_further n (o ∷ ops) (suc i) op lt is =
    ap (λ l. scan_place n (key_of o) ++ l) (scans_further (n + 1) ops i op (omega arith) is)
    ∙ sym (append_assoc (scan_place n (key_of o)) (scans_from (n + 1) (take i ops)) (scan_place (n + 1 + i) (key_of op)))
    ∙ ap (λ (m : ℕ). (scan_place n (key_of o) ++ scans_from (n + 1) (take i ops)) ++ scan_place m (key_of op)) (same n i)
  where
    same : (n i : ℕ) → n + 1 + i ≡ n + suc i
    same n i = omega arith

pub scans_more : (ops : List Op) (i : ℕ) (op : Op) → i < length ops → op ≡ get_or ops i op → scans_from 0 (take (i + 1) ops) ≡ scans_from 0 (take i ops) ++ scan_place i (key_of op)
scans_more ops i op lt is = rw add-one (scans_further 0 ops i op lt is) ∙ ap (λ (n : ℕ). scans_from 0 (take i ops) ++ scan_place n (key_of op)) (from_none i)
  where
    from_none : (i : ℕ) → 0 + i ≡ i
    from_none i = omega arith

-- one operation further, which has no key or one
pub with_scan : (old new before after : List ℕ) (key : Option KeyBytes) (place : ℕ) → new ≡ old ++ place ∷ [] → key ≡ None → old ≡ before → after ≡ before ++ scan_place place key → new ≡ after
with_scan old new before after key place is has so more =
    is ∙ ap (λ l. l ++ place ∷ []) so ∙ sym (more ∙ ap (λ (k : Option KeyBytes). before ++ scan_place place k) has)

pub without_scan : (old new before after : List ℕ) (key : Option KeyBytes) (place : ℕ) (k : KeyBytes) → new ≡ old → key ≡ Some k → old ≡ before → after ≡ before ++ scan_place place key → new ≡ after
without_scan old new before after key place k is has so more =
    is ∙ so ∙ sym (more ∙ ap (λ (k : Option KeyBytes). before ++ scan_place place k) has ∙ append-nil before)

-- all points of a list have the key
abbrev pub IsOfKey : KeyBytes → List Point → Type 0
IsOfKey key ps = AllByRecursion (HasKey key) (entries_of ps)

-- and so with one more
of_key_more : (key : KeyBytes) (ps : List Point) (p : Point) → key_eq key p.key.now ≡ true → IsOfKey key ps → IsOfKey key (ps ++ p ∷ [])
of_key_more key ps p same so =
    subst (AllByRecursion (HasKey key)) (sym (map-append (λ (q : Point). (q.key.now, q.place)) ps (p ∷ [])))
    (all_append (HasKey key) (entries_of ps) ((p.key.now, p.place) ∷ []) so (same, tt))

all_stay : (key : KeyBytes) (es : List Entry) → AllByRecursion (HasKey key) es → entries_at key es ≡ es
all_stay key [] so = refl
all_stay key (e ∷ es) so = ap (λ b. cond b (e ∷ entries_at key es) (entries_at key es)) so.0 ∙ ap (λ l. e ∷ l) (all_stay key es so.1)

pub group_more : (key : KeyBytes) (ps : List Point) (n m : ℕ) (p : Point) → n ≤ m → m < length ps → p ≡ get_or ps m p → key_eq key p.key.now ≡ true →
    IsOfKey key (take (m - n) (drop n ps)) → IsOfKey key (take (m + 1 - n) (drop n ps))
group_more key ps n m p le lt is same so = subst (IsOfKey key) (sym (part_more ps n m p le lt is)) (of_key_more key (take (m - n) (drop n ps)) p same so)

pub key_itself : (key : KeyBytes) → key_eq key key ≡ true
key_itself key = key_eq_equiv.refl key

-- places that rise, in a part
rising_back : (low : ℕ) (xs ys : List Entry) → HasRisingPlaces low (xs ++ ys) → HasRisingPlaces 0 ys
rising_back low [] [] rising = tt
rising_back low [] (y ∷ ys) rising = (omega arith, rising.1)
rising_back low (x ∷ xs) ys rising = rising_back (x.1 + 1) xs ys rising.1

rising_front : (low : ℕ) (xs ys : List Entry) → HasRisingPlaces low (xs ++ ys) → HasRisingPlaces low xs
rising_front low [] ys rising = tt
rising_front low (x ∷ xs) ys rising = (rising.0, rising_front (x.1 + 1) xs ys rising.1)

-- the places of a group rise
pub group_rises : (key : KeyBytes) (ps : List Point) (n m : ℕ) → n ≤ m → HasRisingPlaces 0 (entries_at key (entries_of ps)) →
    IsOfKey key (take (m - n) (drop n ps)) → HasRisingPlaces 0 (entries_of (take (m - n) (drop n ps)))
group_rises key ps n m le rising so =
    let part = take (m - n) (drop n ps) in
    let at = λ (x : Entry). key_eq key x.0 in
    let whole : ps ≡ take n ps ++ (part ++ drop (m - n) (drop n ps)) = sym (take-append-drop n ps) ∙ ap (λ l. take n ps ++ l) (sym (take-append-drop (m - n) (drop n ps))) in
    let es = λ (qs : List Point). entries_of qs in
    let front = entries_of (take n ps) in
    let back = entries_of (drop (m - n) (drop n ps)) in
    let split : entries_of ps ≡ front ++ (entries_of part ++ back) =
    ap entries_of whole ∙ map-append (λ (q : Point). (q.key.now, q.place)) (take n ps) (part ++ drop (m - n) (drop n ps))
    ∙ ap (λ l. front ++ l) (map-append (λ (q : Point). (q.key.now, q.place)) part (drop (m - n) (drop n ps))) in
    let picked : entries_at key (entries_of ps) ≡ entries_at key front ++ (entries_of part ++ entries_at key back) =
    ap (entries_at key) split ∙ filter-append at front (entries_of part ++ back)
    ∙ ap (λ l. entries_at key front ++ l) (filter-append at (entries_of part) back ∙ ap (λ l. l ++ entries_at key back) (all_stay key (entries_of part) so)) in
    rising_front 0 (entries_of part) (entries_at key back)
    (rising_back 0 (entries_at key front) (entries_of part ++ entries_at key back) (subst (HasRisingPlaces 0) picked rising))

-- a part is sorted
pub part_sorted : (ps : List Point) (n k : ℕ) → IsSortedBy (λ d e. is_lt (key_cmp d.0 e.0)) (entries_of ps) → IsSortedBy (λ d e. is_lt (key_cmp d.0 e.0)) (entries_of (take k (drop n ps)))
part_sorted ps n k sorted i d low up =
    let seen : Point → Entry = λ q. (q.key.now, q.place) in
    let es = entries_of ps in
    let part : entries_of (take k (drop n ps)) ≡ take k (drop n es) = sym (take-map seen k (drop n ps)) ∙ ap (take k) (seen_rest seen n ps) in
    let size = length-take k (drop n es) in
    let size' = length-drop n es in
    let whole = ap (λ (l : List Entry). length l) part in
    let at = λ (j : ℕ) (lt : j < k). ap (λ (l : List Entry). get_or l j d) part ∙ get_or-take k (drop n es) j d lt ∙ in_rest es n j d in
    ap (λ (e : Entry). is_lt (key_cmp e.0 (get_or (entries_of (take k (drop n ps))) i d).0)) (at (i + 1) (omega (arith, up, size, size', whole)))
    ∙ ap (λ (e : Entry). is_lt (key_cmp (get_or es (n + (i + 1)) d).0 e.0)) (at i (omega (arith, up, size, size', whole)))
    ∙ ap (λ (j : ℕ). is_lt (key_cmp (get_or es j d).0 (get_or es (n + i) d).0)) (next n i)
    ∙ sorted (n + i) d (omega arith) (omega (arith, up, size, size', whole))
  where
    next : (n k : ℕ) → n + (k + 1) ≡ n + k + 1
    next n k = omega arith

-- the places of each key rise in a part
pub part_rises : (ps : List Point) (n k : ℕ) → ((key : KeyBytes) → HasRisingPlaces 0 (entries_at key (entries_of ps))) → (key : KeyBytes) → HasRisingPlaces 0 (entries_at key (entries_of (take k (drop n ps))))
part_rises ps n k rising key =
    let part = take k (drop n ps) in
    let at = λ (x : Entry). key_eq key x.0 in
    let seen : Point → Entry = λ q. (q.key.now, q.place) in
    let front = entries_of (take n ps) in
    let back = entries_of (drop k (drop n ps)) in
    let split : entries_of ps ≡ front ++ (entries_of part ++ back) =
    ap entries_of (sym (take-append-drop n ps) ∙ ap (λ l. take n ps ++ l) (sym (take-append-drop k (drop n ps))))
    ∙ map-append seen (take n ps) (part ++ drop k (drop n ps)) ∙ ap (λ l. front ++ l) (map-append seen part (drop k (drop n ps))) in
    let picked : entries_at key (entries_of ps) ≡ entries_at key front ++ (entries_at key (entries_of part) ++ entries_at key back) =
    ap (entries_at key) split ∙ filter-append at front (entries_of part ++ back) ∙ ap (λ l. entries_at key front ++ l) (filter-append at (entries_of part) back) in
    rising_front 0 (entries_at key (entries_of part)) (entries_at key back)
    (rising_back 0 (entries_at key front) (entries_at key (entries_of part) ++ entries_at key back) (subst (HasRisingPlaces 0) picked (rising key)))

-- the entries of a part are among those of the whole
pub part_holds : (P : Entry → Type 0) (ps : List Point) (n k : ℕ) → AllByRecursion P (entries_of ps) → AllByRecursion P (entries_of (take k (drop n ps)))
part_holds P ps n k all = front k (drop n ps) (rest n ps all)
  where
    rest : (n : ℕ) (ps : List Point) → AllByRecursion P (entries_of ps) → AllByRecursion P (entries_of (drop n ps))
    rest zero ps all = all
    rest (suc n) [] all = all
    rest (suc n) (p ∷ ps) all = rest n ps all.1

    front : (k : ℕ) (ps : List Point) → AllByRecursion P (entries_of ps) → AllByRecursion P (entries_of (take k ps))
    front zero ps all = tt
    front (suc k) [] all = tt
    front (suc k) (p ∷ ps) all = (all.0, front k ps all.1)

-- the points of a batch are those of its operations, and their places rise
pub entries_rise : (n : ℕ) (ops : List Op) → HasRisingPlaces n (entries_from n ops)
entries_rise n [] = tt
entries_rise n (op ∷ ops) = by (key_of op) (entries_rise (n + 1) ops)
  where
    lower : (es : List Entry) → HasRisingPlaces (n + 1) es → HasRisingPlaces n es
    lower [] rising = tt
    lower (e ∷ es) rising = (omega (arith, rising.0), rising.1)

    by : (k : Option KeyBytes) → HasRisingPlaces (n + 1) (entries_from (n + 1) ops) → HasRisingPlaces n (entry_at n k ++ entries_from (n + 1) ops)
    by None rest = lower (entries_from (n + 1) ops) rest
    by (Some k) rest = (omega arith, rest)

pub rising_at : (key : KeyBytes) (low : ℕ) (es : List Entry) → HasRisingPlaces low es → HasRisingPlaces low (entries_at key es)
rising_at key low [] rising = tt
rising_at key low (e ∷ es) rising = by (key_eq key e.0) (rising_at key (e.1 + 1) es rising.1)
  where
    lower : (es : List Entry) → HasRisingPlaces (e.1 + 1) es → HasRisingPlaces low es
    lower [] rest = tt
    lower (x ∷ xs) rest = (omega (arith, rising.0, rest.0), rest.1)

    by : (b : Bool) → HasRisingPlaces (e.1 + 1) (entries_at key es) → HasRisingPlaces low (cond b (e ∷ entries_at key es) (entries_at key es))
    by true rest = (rising.0, rest)
    by false rest = lower (entries_at key es) rest

-- one operation further, which has a key or none
pub with_point : (old new : List Point) (before after : List Entry) (key : Option KeyBytes) (p : Point) → new ≡ old ++ p ∷ [] → key ≡ Some p.key.now →
    entries_of old ≡ before → after ≡ before ++ entry_at p.place key → entries_of new ≡ after
with_point old new before after key p is has so more =
    ap entries_of is ∙ map-append (λ (q : Point). (q.key.now, q.place)) old (p ∷ []) ∙ ap (λ l. l ++ (p.key.now, p.place) ∷ []) so
    ∙ ap (λ (k : Option KeyBytes). before ++ entry_at p.place k) (sym has) ∙ sym more

pub without_point : (old new : List Point) (before after : List Entry) (key : Option KeyBytes) (n : ℕ) → new ≡ old → key ≡ None →
    entries_of old ≡ before → after ≡ before ++ entry_at n key → entries_of new ≡ after
without_point old new before after key n is has so more =
    ap entries_of is ∙ so ∙ sym (more ∙ ap (λ (k : Option KeyBytes). before ++ entry_at n k) has ∙ nothing_more before)
  where
    nothing_more : (es : List Entry) → es ++ [] ≡ es
    nothing_more [] = refl
    nothing_more (e ∷ es) = ap (λ l. e ∷ l) (nothing_more es)

-- a point that was told the verb of its operation, and one more of them
pub point_there : (ops : List Op) (i : ℕ) (op : Op) (p : Point) → i < length ops → op ≡ get_or ops i op → p.place ≡ i → p.verb ≡ verb_of op → IsPointOf ops p
point_there ops i op p lt is at told =
    ap (λ (n : ℕ). option_map verb_of (slice_get ops n)) at
    ∙ ap (option_map verb_of) (slice_get-get_or ops i op lt)
    ∙ ap (λ (o : Op). Some (verb_of o)) (sym is)
    ∙ ap (λ (v : Option Verb). Some v) (sym told)

pub points_more : (ops : List Op) (old new : List Point) (p : Point) → new ≡ old ++ p ∷ [] → IsPointOf ops p → AllByRecursion (IsPointOf ops) old → AllByRecursion (IsPointOf ops) new
points_more ops old new p is here all = subst (AllByRecursion (IsPointOf ops)) (sym is) (all_append (IsPointOf ops) old (p ∷ []) all (here, tt))

pub group_one : (ps : List Point) (n : ℕ) (d : Point) → n < length ps → IsOfKey (get_or ps n d).key.now (take (n + 1 - n) (drop n ps))
group_one ps n d lt =
    let p = get_or ps n d in
    let none : n - n ≡ 0 = omega arith in
    group_more p.key.now ps n n p (omega arith) lt (get_or_default ps n d p lt) (key_itself p.key.now) (subst (λ k. IsOfKey p.key.now (take k (drop n ps))) (sym none) tt)

-- what a comparison of two points' keys said
pub still_of_key : (ps : List Point) (n m : ℕ) (p s d : Point) (r : Bool) → n < length ps → p ≡ get_or ps m p →
    s ≡ get_or ps n s → r ≡ not (key_eq p.key.now s.key.now) → r ≡ false → key_eq (get_or ps n d).key.now p.key.now ≡ true
still_of_key ps n m p s d r lt is first answers taken =
    key_eq_equiv.symm (get_or ps n d).key.now p.key.now
    ∙ ap (λ (q : Point). key_eq p.key.now q.key.now) (get_or_default ps n d s lt ∙ sym first)
    ∙ equal (key_eq p.key.now s.key.now) (sym answers ∙ taken)
  where
    equal : (b : Bool) → not b ≡ false → b ≡ true
    equal true e = refl
    equal false e = sym e

pub of_other_key : (ps : List Point) (n m : ℕ) (p s d : Point) (r : Bool) → n < length ps → m < length ps →
    p ≡ get_or ps m p → s ≡ get_or ps n s → r ≡ not (key_eq p.key.now s.key.now) → r ≡ true → key_eq (get_or ps n d).key.now (get_or ps m d).key.now ≡ false
of_other_key ps n m p s d r lt lt' is first answers taken =
    key_eq_equiv.symm (get_or ps n d).key.now (get_or ps m d).key.now
    ∙ ap (λ (q : Point). key_eq q.key.now (get_or ps n d).key.now) (get_or_default ps m d p lt' ∙ sym is)
    ∙ ap (λ (q : Point). key_eq p.key.now q.key.now) (get_or_default ps n d s lt ∙ sym first)
    ∙ differs (key_eq p.key.now s.key.now) (sym answers ∙ taken)
  where
    differs : (b : Bool) → not b ≡ true → b ≡ false
    differs true e = sym e
    differs false e = refl

pub seen_length : (ps : List Point) → length (entries_of ps) ≡ length ps
seen_length [] = refl
seen_length (p ∷ ps) = ap suc (seen_length ps)

pub places_length : (ps : List Point) → length (places_of (entries_of ps)) ≡ length ps
places_length [] = refl
places_length (p ∷ ps) = ap suc (places_length ps)

-- the entry of a point
pub entry_is : (ps : List Point) (n : ℕ) (p : Point) (d : Entry) → n < length ps → p ≡ get_or ps n p → get_or (entries_of ps) n d ≡ (p.key.now, p.place)
entry_is ps n p d lt is = get_or-map (λ (q : Point). (q.key.now, q.place)) ps n p d lt ∙ ap (λ (q : Point). (q.key.now, q.place)) (sym is)

pub entry_holds : (P : Entry → Type 0) (ps : List Point) (n : ℕ) (p : Point) → n < length ps → p ≡ get_or ps n p → AllByRecursion P (entries_of ps) → P (p.key.now, p.place)
entry_holds P ps n p lt is all =
    let e : Entry = (p.key.now, p.place) in
    all_at P (entries_of ps) n e (omega (arith, lt, seen_length ps)) (sym (entry_is ps n p e lt is)) all

pub place_within : (ops : List Op) (e : Entry) → IsEntryOf ops e → e.1 < length ops
place_within ops e entry = go (slice_get ops e.1) refl entry
  where
    go : (o : Option Op) → slice_get ops e.1 ≡ o → option_map key_of o ≡ Some (Some e.0) → e.1 < length ops
    go None is has = absurd (none has)
      where
        none : None ≡ Some (Some e.0) → ⊥
        none e = cc
    go (Some op) is has = slice_get_within ops e.1 op is

-- the place of an operation without a key
pub scan_within : (ops : List Op) (place : ℕ) → IsScanOf ops place → place < length ops
scan_within ops place scan = go (slice_get ops place) refl scan
  where
    go : (o : Option Op) → slice_get ops place ≡ o → option_map key_of o ≡ Some None → place < length ops
    go None is has = absurd (none has)
      where
        none : ◌≡◌ {A = Option (Option KeyBytes)} None (Some None) → ⊥
        none e = cc
    go (Some op) is has = slice_get_within ops place op is

-- the operation at an entry's place is one on its key
pub entry_key : (ops : List Op) (e : Entry) (op : Op) → IsEntryOf ops e → slice_get ops e.1 ≡ Some op → key_of op ≡ Some e.0
entry_key ops e op entry is = one (sym (ap (option_map key_of) is) ∙ entry)
  where
    one : Some (key_of op) ≡ Some (Some e.0) → key_of op ≡ Some e.0
    one e = cc

-- it
pub record HasOp (ops : List Op) (e : Entry) : Type 0 where
  pub op : Op
  pub is : slice_get ops e.1 ≡ Some op
  pub key : key_of op ≡ Some e.0

pub entry_op : (ops : List Op) (e : Entry) → IsEntryOf ops e → HasOp ops e
entry_op ops e entry = go (slice_get ops e.1) refl
  where
    go : (o : Option Op) → slice_get ops e.1 ≡ o → HasOp ops e
    go None is = absurd (none (sym (ap (option_map key_of) is) ∙ entry))
      where
        none : ◌≡◌ {A = Option (Option KeyBytes)} None (Some (Some e.0)) → ⊥
        none e = cc
    go (Some op) is = record { op = op; is = is; key = entry_key ops e op entry is }

-- and its verb
pub point_verb : (ops : List Op) (p : Point) (op : Op) → IsPointOf ops p → slice_get ops p.place ≡ Some op → verb_of op ≡ p.verb
point_verb ops p op told is = one (sym (ap (option_map verb_of) is) ∙ told)
  where
    one : Some (verb_of op) ≡ Some p.verb → verb_of op ≡ p.verb
    one e = cc

-- the places of entries are those of operations
pub places_within : (ops : List Op) (n : ℕ) (es : List Entry) → length ops ≡ n → AllByRecursion (IsEntryOf ops) es → AllByRecursion (λ e. e.1 < n) es
places_within ops n es is = all_same (IsEntryOf ops) (λ e. e.1 < n) (λ e entry. subst (λ (m : ℕ). e.1 < m) is (place_within ops e entry)) es
