-- Packed lists that are read, added to, and cut.
use Rattle.std.proofs.Common.{◌≡◌, ℕ, zero, suc, ◌+◌, ◌-◌, ◌^◌, ◌<◌, ◌≤◌, List, [], ◌∷◌, ◌++◌, length, take, drop, map, get_or, set, slice_range, refl, sym, ap, ◌∙◌, subst, arith, length-append, length-take, length-drop}
use Rattle.std.proofs.lemmas.List.{drop_more, get_or_at, get_or-append-add, length-map, set-append_right, take_all}
use Rattle.std.proofs.lemmas.List.Edits.{map_over_more}
use Rattle.std.specs.List.{remove, sum_by}
use Rattle.bw_packed.specs.declared.list.Entry.{Entry}
use Rattle.bw_packed.specs.Lists.{IsPacked, RiseTo, moved, start_at, unpacked}
use Rattle.bw_packed.proofs.ListsLemmas.{length-unpacked, rises-append, rises-drop, rises-moved, rises-take, rises_le, start_at-drop, start_at_ge, start_at_le, start_at_next, sum_by-unpacked, unpacked-append, unpacked-drop, unpacked-moved, unpacked-take, unpacked_at}

-- nothing stands before the first entry
from_start : (n : ℕ) → n - 0 ≡ n
from_start n = omega arith

next_place : (n : ℕ) → n + 1 ≡ suc n
next_place n = omega arith

length_run : (cs : List ℕ) (from upto : ℕ) → from ≤ upto → upto ≤ length cs → length (slice_range cs from upto) ≡ upto - from
length_run cs from upto rising within = omega (arith, length-take (upto - from) (drop from cs), length-drop from cs)

-- what a loop writes over the elements behind others, one after another
module _ {X : Type 0} (f : X → X) (front rest l : List X) (n k : ℕ) (x : X) (at : n ≡ length front + k) (lt : k < length rest) (is : l ≡ front ++ (map f (take k rest) ++ drop k rest)) where
  there : x ≡ get_or l n x → x ≡ get_or (map f (take k rest) ++ drop k rest) k x
  there read = read ∙ ap (λ ys. get_or ys n x) is ∙ ap (λ i. get_or (front ++ (map f (take k rest) ++ drop k rest)) i x) at ∙ get_or-append-add front _ k x

  -- the next one isn't written yet
  pub not_written : x ≡ get_or l n x → x ≡ get_or rest k x
  not_written read =
      let written = map f (take k rest) in
      let long : length written ≡ k = length-map (take k rest) f ∙ omega (arith, length-take k rest, lt) in
      there read ∙ ap (λ ys. get_or (written ++ ys) k x) (drop_more rest k x lt) ∙ get_or_at written _ _ x k long

  pub written_more : x ≡ get_or l n x → set l n (f x) ≡ front ++ (map f (take (k + 1) rest) ++ drop (k + 1) rest)
  written_more read =
      ap (λ ys. set ys n (f x)) is
      ∙ set-append_right front (map f (take k rest) ++ drop k rest) (length front) n (f x) refl (omega (arith, at))
      ∙ ap (λ i. front ++ set (map f (take k rest) ++ drop k rest) i (f x)) (omega (arith, at))
      ∙ ap (λ ys. front ++ ys) (map_over_more f rest (map f (take k rest) ++ drop k rest) k x lt refl (there read))

-- a run up to the end of a list
run_to_end : {X : Type 0} (xs : List X) (n : ℕ) → slice_range xs n (length xs) ≡ drop n xs
run_to_end xs n = take_all (length xs - n) (drop n xs) (omega (arith, length-drop n xs))

module _ {E : Type 0} where
  pub as_many : (bs : List ℕ) (es : List (Entry E)) (xs : List (List ℕ × E)) → unpacked 0 bs es ≡ xs → length es ≡ length xs
  as_many bs es xs is = sym (length-unpacked 0 bs es) ∙ ap length is

  -- an entry that isn't the first begins where the one before it ends
  pub start_behind : (n : ℕ) (es : List (Entry E)) (d : Entry E) → (n ≡ 0 → ⊥) → n ≤ length es → start_at 0 es n ≡ (get_or es (n - 1) d).end
  start_behind zero es d some within = absurd (some refl)
  start_behind (suc n) es d some within = start_at_next 0 n es d (omega (arith, within)) ∙ ap (λ i. (get_or es i d).end) (omega arith)

  -- ends lie between those from which and to which they rise
  pub end_between : (start stop n : ℕ) (es : List (Entry E)) (d : Entry E) → RiseTo start es stop → n < length es → (start ≤ (get_or es n d).end) × ((get_or es n d).end ≤ stop)
  end_between start stop n [] d h lt = absurd (omega arith)
  end_between start stop zero (e ∷ es) d h lt = (h.0, rises_le e.end stop es h.1)
  end_between start stop (suc n) (e ∷ es) d h lt =
      let more = end_between e.end stop n es d h.1 (omega (arith, lt)) in
      (omega (arith, h.0, more.0), more.1)

  -- the entry at a place lies within the bytes, and is what the list has there
  pub record IsThere (bs : List ℕ) (start : ℕ) (e : Entry E) (xs : List (List ℕ × E)) (n : ℕ) : Type 0 where
    pub rising : start ≤ e.end
    pub within : e.end ≤ length bs
    pub bytes : (x : List ℕ × E) → slice_range bs start e.end ≡ (get_or xs n x).0
    pub tag : (x : List ℕ × E) → e.tag ≡ (get_or xs n x).1

  start_le_end : (bs : List ℕ) (es : List (Entry E)) (n : ℕ) (d : Entry E) → IsPacked bs es → n < length es → start_at 0 es n ≤ (get_or es n d).end
  start_le_end bs es n d packed lt =
      let next : start_at (start_at 0 es n) (drop n es) 1 ≡ (get_or es n d).end = start_at-drop 0 n 1 es ∙ ap (start_at 0 es) (next_place n) ∙ start_at_next 0 n es d lt in
      subst (λ i. start_at 0 es n ≤ i) next (start_at_ge (start_at 0 es n) (length bs) 1 (drop n es) (rises-drop 0 (length bs) n es packed.rises))

  entry_there : (bs : List ℕ) (es : List (Entry E)) (n : ℕ) (d : Entry E) (x : List ℕ × E) → IsPacked bs es → n < length es →
      (slice_range bs (start_at 0 es n) (get_or es n d).end, (get_or es n d).tag) ≡ get_or (unpacked 0 bs es) n x
  entry_there bs es n d x packed lt =
      ap (λ i. (take ((get_or es n d).end - start_at 0 es n) (drop i bs), (get_or es n d).tag)) (sym (from_start (start_at 0 es n)))
      ∙ sym (unpacked_at 0 (length bs) n bs es d x packed.rises lt)

  pub is_there : (bs : List ℕ) (es : List (Entry E)) (xs : List (List ℕ × E)) (n : ℕ) (e : Entry E) → IsPacked bs es → unpacked 0 bs es ≡ xs → n < length xs → e ≡ get_or es n e →
      IsThere bs (start_at 0 es n) e xs n
  is_there bs es xs n e packed is lt read =
      let at : n < length es = omega (arith, lt, as_many bs es xs is) in
      subst (λ ys. IsThere bs (start_at 0 es n) e ys n) is
      (subst (λ y. IsThere bs (start_at 0 es n) y (unpacked 0 bs es) n) (sym read) record {
        rising = start_le_end bs es n e packed at;
        within = (end_between 0 (length bs) n es e packed.rises at).1;
        bytes = λ x. ap (λ (y : List ℕ × E). y.0) (entry_there bs es n e x packed at);
        tag = λ x. ap (λ (y : List ℕ × E). y.1) (entry_there bs es n e x packed at);
      })

  -- one more entry
  pub pushed : (bs ys : List ℕ) (es : List (Entry E)) (e : Entry E) → IsPacked bs es → e.end ≡ length bs + length ys →
      unpacked 0 (bs ++ ys) (es ++ e ∷ []) ≡ unpacked 0 bs es ++ (ys, e.tag) ∷ []
  pushed bs ys es e packed ends =
      let all : take (e.end - length bs) ys ≡ ys = take_all (e.end - length bs) ys (omega (arith, ends)) in
      unpacked-append 0 (length bs) bs ys es (e ∷ []) packed.rises (omega arith)
      ∙ ap (λ (zs : List ℕ). unpacked 0 bs es ++ (zs, e.tag) ∷ []) all

  pub pushed_packed : (bs ys : List ℕ) (es : List (Entry E)) (e : Entry E) → IsPacked bs es → e.end ≡ length bs + length ys → e.end < 2 ^ 32 → IsPacked (bs ++ ys) (es ++ e ∷ [])
  pushed_packed bs ys es e packed ends fits = record {
    rises = rises-append 0 (length bs) (length (bs ++ ys)) es (e ∷ []) packed.rises (omega (arith, ends), ends ∙ sym (length-append bs ys));
    fits = omega (arith, length-append bs ys);
  }

  -- the entries of a run of places
  pub run_rises : (cs : List ℕ) (fs : List (Entry E)) (i j : ℕ) → IsPacked cs fs → i ≤ j → RiseTo (start_at 0 fs i) (slice_range fs i j) (start_at 0 fs j)
  run_rises cs fs i j packed le =
      let end : start_at (start_at 0 fs i) (drop i fs) (j - i) ≡ start_at 0 fs j = start_at-drop 0 i (j - i) fs ∙ ap (start_at 0 fs) (omega (arith, le)) in
      subst (RiseTo (start_at 0 fs i) (slice_range fs i j)) end
      (rises-take (start_at 0 fs i) (length cs) (j - i) (drop i fs) (rises-drop 0 (length cs) i fs packed.rises))

  pub run_is : (cs : List ℕ) (fs : List (Entry E)) (i j : ℕ) → IsPacked cs fs → i ≤ j →
      unpacked (start_at 0 fs i) (slice_range cs (start_at 0 fs i) (start_at 0 fs j)) (slice_range fs i j) ≡ slice_range (unpacked 0 cs fs) i j
  run_is cs fs i j packed le =
      let from = start_at 0 fs i in
      let end : start_at from (drop i fs) (j - i) ≡ start_at 0 fs j = start_at-drop 0 i (j - i) fs ∙ ap (start_at 0 fs) (omega (arith, le)) in
      sym (ap (take (j - i)) (unpacked-drop 0 (length cs) i cs fs packed.rises ∙ ap (λ n. unpacked from (drop n cs) (drop i fs)) (from_start from))
      ∙ unpacked-take from (length cs) (j - i) (drop from cs) (drop i fs) (rises-drop 0 (length cs) i fs packed.rises)
      ∙ ap (λ n. unpacked from (take (n - from) (drop from cs)) (slice_range fs i j)) end)

  -- their bytes, by where they were found to begin and to end
  pub record IsRun (cs : List ℕ) (fs : List (Entry E)) (i j from upto : ℕ) : Type 0 where
    pub begins : from ≡ start_at 0 fs i
    pub ends : upto ≡ start_at 0 fs j
    pub rising : from ≤ upto
    pub within : upto ≤ length cs
    pub count : length (slice_range cs from upto) ≡ upto - from

  pub is_run : (cs : List ℕ) (fs gs : List (Entry E)) (i j from upto : ℕ) → IsPacked cs fs → i ≤ j → gs ≡ fs → from ≡ start_at 0 gs i → upto ≡ start_at 0 gs j → IsRun cs fs i j from upto
  is_run cs fs gs i j from upto packed le same begins ends =
      let first : from ≡ start_at 0 fs i = begins ∙ ap (λ es. start_at 0 es i) same in
      let last : upto ≡ start_at 0 fs j = ends ∙ ap (λ es. start_at 0 es j) same in
      let rising : start_at 0 fs i ≤ start_at 0 fs j = rises_le (start_at 0 fs i) (start_at 0 fs j) (slice_range fs i j) (run_rises cs fs i j packed le) in
      let within : start_at 0 fs j ≤ length cs = start_at_le 0 (length cs) j fs packed.rises in
      let up : from ≤ upto = omega arith in
      let in_bytes : upto ≤ length cs = omega arith in
      record { begins = first; ends = last; rising = up; within = in_bytes; count = length_run cs from upto up in_bytes }

  pub run_bytes : (cs : List ℕ) (fs : List (Entry E)) (xs : List (List ℕ × E)) (i j from upto : ℕ) → IsPacked cs fs → i ≤ j → unpacked 0 cs fs ≡ xs → IsRun cs fs i j from upto →
      upto - from ≡ sum_by (λ (e : List ℕ × E). length e.0) (slice_range xs i j)
  run_bytes cs fs xs i j from upto packed le is run =
      let gs = slice_range fs i j in
      let part = slice_range cs from upto in
      let rises : RiseTo from gs upto = rw (run.begins, run.ends) (run_rises cs fs i j packed le) in
      let same : unpacked from part gs ≡ slice_range (unpacked 0 cs fs) i j = rw (run.begins, run.ends) (run_is cs fs i j packed le) in
      let size : List (List ℕ × E) → ℕ = λ l. sum_by (λ (e : List ℕ × E). length e.0) l in
      sym (sum_by-unpacked from upto part gs rises (omega (arith, run.rising, run.count)))
      ∙ ap size same ∙ ap (λ l. size (slice_range l i j)) is

  -- and behind other entries
  pub extended : (bs cs : List ℕ) (es fs : List (Entry E)) (i j from upto : ℕ) → IsPacked bs es → IsPacked cs fs → i ≤ j → IsRun cs fs i j from upto →
      unpacked 0 (bs ++ slice_range cs from upto) (es ++ map (moved from (length bs)) (slice_range fs i j))
      ≡ unpacked 0 bs es ++ slice_range (unpacked 0 cs fs) i j
  extended bs cs es fs i j from upto packed other le run =
      let gs = slice_range fs i j in
      let part = slice_range cs from upto in
      let rises : RiseTo from gs upto = rw (run.begins, run.ends) (run_rises cs fs i j other le) in
      let is : unpacked from part gs ≡ slice_range (unpacked 0 cs fs) i j = rw (run.begins, run.ends) (run_is cs fs i j other le) in
      let begins : (from - from) + length bs ≡ length bs = omega arith in
      let same : unpacked (length bs) part (map (moved from (length bs)) gs) ≡ unpacked from part gs =
      ap (λ n. unpacked n part (map (moved from (length bs)) gs)) (sym begins)
      ∙ unpacked-moved from (length bs) from upto part gs (omega arith) rises in
      unpacked-append 0 (length bs) bs part es (map (moved from (length bs)) gs) packed.rises (omega arith)
      ∙ ap (λ (zs : List (List ℕ × E)). unpacked 0 bs es ++ zs) (same ∙ is)

  pub extended_packed : (bs cs : List ℕ) (es fs : List (Entry E)) (i j from upto : ℕ) → IsPacked bs es → IsPacked cs fs → i ≤ j → IsRun cs fs i j from upto →
      length bs + (upto - from) < 2 ^ 32 → IsPacked (bs ++ slice_range cs from upto) (es ++ map (moved from (length bs)) (slice_range fs i j))
  extended_packed bs cs es fs i j from upto packed other le run fits =
      let gs = slice_range fs i j in
      let rises : RiseTo from gs upto = rw (run.begins, run.ends) (run_rises cs fs i j other le) in
      let all : (upto - from) + length bs ≡ length (bs ++ slice_range cs from upto) = omega (arith, length-append bs (slice_range cs from upto)) in
      let begins : (from - from) + length bs ≡ length bs = omega arith in
      let moved_on : RiseTo (length bs) (map (moved from (length bs)) gs) ((upto - from) + length bs) =
      subst (λ n. RiseTo n (map (moved from (length bs)) gs) ((upto - from) + length bs)) begins
      (rises-moved from (length bs) from upto gs (omega arith) rises) in
      record {
        rises = rises-append 0 (length bs) (length (bs ++ slice_range cs from upto)) es (map (moved from (length bs)) gs) packed.rises
            (subst (RiseTo (length bs) (map (moved from (length bs)) gs)) all moved_on);
        fits = omega (arith, all);
      }

  -- the lists that this was said of, by what was read and written
  pub copied : (bs cs ds new : List ℕ) (es fs gs hs more : List (Entry E)) (i j from upto to : ℕ) → to ≡ length bs → ds ≡ cs → gs ≡ fs → hs ≡ es →
      new ≡ bs ++ slice_range ds from upto → more ≡ hs ++ map (moved from to) (slice_range gs i j) →
      (new ≡ bs ++ slice_range cs from upto) × (more ≡ es ++ map (moved from (length bs)) (slice_range fs i j))
  copied bs cs ds new es fs gs hs more i j from upto to at read run before bytes entries =
      (rw (← read) bytes, rw (← at, ← run, ← before) entries)

  -- the first entries
  pub truncated : (bs : List ℕ) (es : List (Entry E)) (n : ℕ) → IsPacked bs es → unpacked 0 (take (start_at 0 es n) bs) (take n es) ≡ take n (unpacked 0 bs es)
  truncated bs es n packed =
      ap (λ i. unpacked 0 (take i bs) (take n es)) (sym (from_start (start_at 0 es n))) ∙ sym (unpacked-take 0 (length bs) n bs es packed.rises)

  pub truncated_packed : (bs : List ℕ) (es : List (Entry E)) (n : ℕ) → IsPacked bs es → IsPacked (take (start_at 0 es n) bs) (take n es)
  truncated_packed bs es n packed =
      let within : start_at 0 es n ≤ length bs = start_at_le 0 (length bs) n es packed.rises in
      let all : start_at 0 es n ≡ length (take (start_at 0 es n) bs) = omega (arith, length-take (start_at 0 es n) bs) in
      record {
        rises = subst (RiseTo 0 (take n es)) all (rises-take 0 (length bs) n es packed.rises);
        fits = omega (arith, all, packed.fits);
      }

  -- all ends rise up to that of the last entry
  start_at_end : (start stop : ℕ) (es : List (Entry E)) → RiseTo start es stop → start_at start es (length es) ≡ stop
  start_at_end start stop [] h = h
  start_at_end start stop (e ∷ es) h = start_at_end e.end stop es h.1

  -- where the bytes of one entry lie, and the entries behind it
  pub record IsCut (bs : List ℕ) (es : List (Entry E)) (n from upto : ℕ) : Type 0 where
    pub there : n < length es
    pub begins : from ≡ start_at 0 es n
    pub ends : upto ≡ start_at 0 es (suc n)
    pub rising : from ≤ upto
    pub within : upto ≤ length bs
    pub behind : RiseTo upto (drop (suc n) es) (length bs)

  pub is_cut : (bs : List ℕ) (es fs : List (Entry E)) (n from : ℕ) (e : Entry E) → IsPacked bs es → n < length es → fs ≡ es → from ≡ start_at 0 fs n → e ≡ get_or es n e →
      IsCut bs es n from e.end
  is_cut bs es fs n from e packed lt same first read =
      let at : from ≡ start_at 0 es n = first ∙ ap (λ l. start_at 0 l n) same in
      let here : e.end ≡ (get_or es n e).end = ap (λ (x : Entry E). x.end) read in
      let end : e.end ≡ start_at 0 es (suc n) = here ∙ sym (start_at_next 0 n es e lt) in
      record {
        there = lt;
        begins = at;
        ends = end;
        rising = omega (arith, at, start_le_end bs es n e packed lt, here);
        within = omega (arith, end, start_at_le 0 (length bs) (suc n) es packed.rises);
        behind = subst (λ m. RiseTo m (drop (suc n) es) (length bs)) (sym end) (rises-drop 0 (length bs) (suc n) es packed.rises);
      }

  run_behind : (bs : List ℕ) (es : List (Entry E)) (n from upto : ℕ) → IsPacked bs es → IsCut bs es n from upto → IsRun bs es (suc n) (length es) upto (length bs)
  run_behind bs es n from upto packed cut = record {
    begins = cut.ends;
    ends = sym (start_at_end 0 (length bs) es packed.rises);
    rising = cut.within;
    within = omega arith;
    count = length_run bs upto (length bs) cut.within (omega arith);
  }

  front_packed : (bs : List ℕ) (es : List (Entry E)) (n from upto : ℕ) → IsPacked bs es → IsCut bs es n from upto → IsPacked (take from bs) (take n es)
  front_packed bs es n from upto packed cut = subst (λ i. IsPacked (take i bs) (take n es)) (sym cut.begins) (truncated_packed bs es n packed)

  -- one entry is taken away, by the bytes and the entries that are left
  removed_parts : (bs : List ℕ) (es : List (Entry E)) (n from upto : ℕ) → IsCut bs es n from upto →
      (take from bs ++ drop upto bs ≡ take from bs ++ slice_range bs upto (length bs))
      × (take n es ++ map (moved upto from) (drop (suc n) es) ≡ take n es ++ map (moved upto (length (take from bs))) (slice_range es (suc n) (length es)))
  removed_parts bs es n from upto cut =
      let front : from ≡ length (take from bs) = omega (arith, length-take from bs, cut.rising, cut.within) in (
        ap (λ l. take from bs ++ l) (sym (run_to_end bs upto)),
        ap (λ l. take n es ++ map (moved upto from) l) (sym (run_to_end es (suc n)))
            ∙ ap (λ i. take n es ++ map (moved upto i) (slice_range es (suc n) (length es))) front,
      )

  pub removed : (bs cs : List ℕ) (es fs : List (Entry E)) (n from upto : ℕ) → IsPacked bs es → IsCut bs es n from upto → cs ≡ take from bs ++ drop upto bs →
      fs ≡ take n es ++ map (moved upto from) (drop (suc n) es) → unpacked 0 cs fs ≡ remove (unpacked 0 bs es) n
  removed bs cs es fs n from upto packed cut bytes entries =
      let parts = removed_parts bs es n from upto cut in
      let xs = unpacked 0 bs es in
      let front = take from bs in
      let all : length es ≡ length xs = sym (length-unpacked 0 bs es) in
      ap (λ l. unpacked 0 l fs) (bytes ∙ parts.0)
      ∙ ap (λ l. unpacked 0 (front ++ slice_range bs upto (length bs)) l) (entries ∙ parts.1)
      ∙ extended front bs (take n es) es (suc n) (length es) upto (length bs) (front_packed bs es n from upto packed cut) packed (omega (arith, cut.there)) (run_behind bs es n from upto packed cut)
      ∙ ap (λ l. l ++ slice_range xs (suc n) (length es)) (ap (λ i. unpacked 0 (take i bs) (take n es)) cut.begins ∙ truncated bs es n packed)
      ∙ ap (λ i. take n xs ++ slice_range xs (suc n) i) all
      ∙ ap (λ l. take n xs ++ l) (run_to_end xs (suc n))

  pub removed_packed : (bs cs : List ℕ) (es fs : List (Entry E)) (n from upto : ℕ) → IsPacked bs es → IsCut bs es n from upto → cs ≡ take from bs ++ drop upto bs →
      fs ≡ take n es ++ map (moved upto from) (drop (suc n) es) → IsPacked cs fs
  removed_packed bs cs es fs n from upto packed cut bytes entries =
      let parts = removed_parts bs es n from upto cut in
      let front = take from bs in
      let few : length front + (length bs - upto) < 2 ^ 32 = omega (arith, length-take from bs, cut.rising, cut.within, packed.fits) in
      subst (λ l. IsPacked l fs) (sym (bytes ∙ parts.0))
      (subst (λ l. IsPacked (front ++ slice_range bs upto (length bs)) l) (sym (entries ∙ parts.1))
      (extended_packed front bs (take n es) es (suc n) (length es) upto (length bs) (front_packed bs es n from upto packed cut) packed (omega (arith, cut.there)) (run_behind bs es n from upto packed cut) few))
