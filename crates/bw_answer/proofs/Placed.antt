-- Answers that are put at their places.
use Rattle.std.proofs.Common.{◌≡◌, inl, inr, ℕ, zero, suc, ◌-◌, ◌<◌, ◌≤◌, take, drop, List, [], ◌∷◌, ◌++◌, length, get_or, slice_get, slice_set, Some, refl, sym, ap, ◌∙◌, subst, arith}
use Rattle.std.specs.List.{AllByRecursion}
use Rattle.std.proofs.lemmas.Bool.{cases_eq}
use Rattle.std.proofs.lemmas.List.{length-set, length-take, map-append, take-append-drop}
use Rattle.bw_model.specs.declared.operations.Reply.{Reply}
use Rattle.bw_model.specs.declared.operations.Reply.TheVariants.{Absent}
use Rattle.bw_group.specs.Points.{Entry, entries_of, places_of}
use Rattle.bw_group.specs.declared.points.Point.{Point}
use Rattle.bw_answer.specs.Replies.{ReaderView, answer_to, answers_to, contents_before, point_places, replies_to}
use Rattle.bw_answer.specs.Sections.{IsAnswerFrom, with_answers_from}
use Rattle.bw_group.proofs.ListParts.{get_other, get_set}
use Rattle.bw_answer.proofs.ListLemmas.{all_back, all_front, same_list}
use Rattle.bw_answer.proofs.PlacedFrom.{append_from, length_from}
use Rattle.bw_answer.proofs.ReplyLemmas.{replies_length}

-- the reply at this place is the one that the batch wants there
abbrev pub IsAnswered : ReaderView → List Reply → ℕ → Type 0
IsAnswered batch replies place = slice_get replies place ≡ slice_get (replies_to batch) place

abbrev pub IsPlace : ReaderView → ℕ → Type 0
IsPlace batch place = place < length (replies_to batch)

-- the answers to places are at these places
pub all_within : (batch : ReaderView) (n : ℕ) (places : List ℕ) → AllByRecursion (λ place. place < n) places → AllByRecursion (IsAnswerFrom 0 n) (answers_to batch places)
all_within batch n [] all = tt
all_within batch n (place ∷ places) all = let lt = all.0 in ((omega arith, omega (arith, lt)), all_within batch n places all.1)

module _ (batch : ReaderView) where
  there : (rs : List Reply) (i : ℕ) → i < length rs → slice_get rs i ≡ Some (get_or rs i Absent)
  there [] i lt = absurd (omega arith)
  there (r ∷ rs) zero lt = refl
  there (r ∷ rs) (suc i) lt = there rs i (omega arith)

  answered : (replies : List Reply) (place : ℕ) → length (replies_to batch) ≤ length replies → IsPlace batch place → IsAnswered batch (slice_set replies place (get_or (replies_to batch) place Absent)) place
  answered replies place len lt = get_set replies place (get_or (replies_to batch) place Absent) (omega (arith, len, lt)) ∙ sym (there (replies_to batch) place lt)

  -- an answer leaves the others
  still : (replies : List Reply) (place other : ℕ) → length (replies_to batch) ≤ length replies → IsPlace batch place → IsAnswered batch replies other → IsAnswered batch (slice_set replies place (get_or (replies_to batch) place Absent)) other
  still replies place other len lt old =
      let reply = get_or (replies_to batch) place Absent in
      elim (cases_eq place other) [
        | inl same ↦ subst (IsAnswered batch (slice_set replies place reply)) same (answered replies place len lt)
        | inr apart ↦ get_other replies place other reply apart ∙ old
      ]

  -- the replies with one more answer
  abbrev next_replies : List Reply → ℕ → List Reply
  next_replies replies place = slice_set replies (place - 0) (get_or (replies_to batch) place Absent)

  at_first : (P : List Reply → Type 0) (replies : List Reply) (place : ℕ) → P (slice_set replies place (get_or (replies_to batch) place Absent)) → P (next_replies replies place)
  at_first P replies place is = subst (λ (k : ℕ). P (slice_set replies k (get_or (replies_to batch) place Absent))) (same place) is
    where
      same : (n : ℕ) → n ≡ n - 0
      same n = omega arith

  as_long : (replies : List Reply) (place : ℕ) → length (replies_to batch) ≤ length replies → length (replies_to batch) ≤ length (next_replies replies place)
  as_long replies place len = subst (λ (n : ℕ). length (replies_to batch) ≤ n) (sym (length-set replies (place - 0) (get_or (replies_to batch) place Absent))) len

  kept : (places : List ℕ) (replies : List Reply) (other : ℕ) → length (replies_to batch) ≤ length replies → AllByRecursion (IsPlace batch) places → IsAnswered batch replies other → IsAnswered batch (with_answers_from 0 replies (answers_to batch places)) other
  kept [] replies other len all old = old
  kept (place ∷ places) replies other len all old =
      kept places (next_replies replies place) other (as_long replies place len) all.1 (at_first (λ l. IsAnswered batch l other) replies place (still replies place other len all.0 old))

  pub all_placed : (places : List ℕ) (replies : List Reply) → length (replies_to batch) ≤ length replies → AllByRecursion (IsPlace batch) places → AllByRecursion (IsAnswered batch (with_answers_from 0 replies (answers_to batch places))) places
  all_placed [] replies len all = tt
  all_placed (place ∷ places) replies len all =
      let next = next_replies replies place in
      let size = as_long replies place len in
      (kept places next place size all.1 (at_first (λ l. IsAnswered batch l place) replies place (answered replies place len all.0)), all_placed places next size all.1)

  front : (replies : List Reply) (n i : ℕ) → i < n → slice_get (take n replies) i ≡ slice_get replies i
  front replies zero i lt = absurd (omega arith)
  front [] (suc n) i lt = refl
  front (r ∷ replies) (suc n) zero lt = refl
  front (r ∷ replies) (suc n) (suc i) lt = front replies n i (omega arith)

  -- where each place is answered, the batch is
  pub all_replied : (replies : List Reply) → length (replies_to batch) ≤ length replies → ((place : ℕ) → place < length batch.ops → IsAnswered batch replies place) → take (length batch.ops) replies ≡ replies_to batch
  all_replied replies len each =
      let n = length batch.ops in
      let size = replies_length batch.ops (contents_before batch) in
      let cut = length-take n replies in
      same_list (take n replies) (replies_to batch) (omega (arith, len, size, cut)) (λ i lt. let within : i < n = omega (arith, lt, cut) in front replies n i within ∙ each i within)

-- the answers to some places, and then those to the others
pub both_placed : (batch : ReaderView) (replies replies' : List Reply) (here more : List ℕ) → replies' ≡ with_answers_from 0 replies (answers_to batch here) →
    AllByRecursion (λ place. place < length replies) (here ++ more) →
    (with_answers_from 0 replies' (answers_to batch more) ≡ with_answers_from 0 replies (answers_to batch (here ++ more))) × AllByRecursion (λ place. place < length replies') more
both_placed batch replies replies' here more placed within =
    let size : length replies ≡ length replies' = sym (ap length placed ∙ length_from 0 replies (answers_to batch here)) in (
      ap (λ r. with_answers_from 0 r (answers_to batch more)) placed
          ∙ sym (append_from 0 replies (answers_to batch here) (answers_to batch more))
          ∙ ap (with_answers_from 0 replies) (sym (map-append (answer_to batch) here more)),
      subst (λ (m : ℕ). AllByRecursion (λ place. place < m) more) size (all_back (λ place. place < length replies) here more within),
    )

-- the places of the points from one on, in two parts
pub places_parted : (points : List Point) (n m : ℕ) → n ≤ m → point_places (drop n points) ≡ point_places (take (m - n) (drop n points)) ++ point_places (drop m points)
places_parted points n m le =
    ap point_places (sym (take-append-drop (m - n) (drop n points)))
    ∙ ap (λ (l : List Point). point_places (take (m - n) (drop n points) ++ l)) (drop-drop-here n m points le)
    ∙ ap places_of (map-append (λ (p : Point). (p.key.now, p.place)) (take (m - n) (drop n points)) (drop m points))
    ∙ map-append (λ (e : Entry). e.1) (entries_of (take (m - n) (drop n points))) (entries_of (drop m points))
  where
    drop-drop-here : (n m : ℕ) (xs : List Point) → n ≤ m → drop (m - n) (drop n xs) ≡ drop m xs
    drop-drop-here zero m xs le = ap (λ (k : ℕ). drop k xs) (from_none m)
      where
        from_none : (m : ℕ) → m - 0 ≡ m
        from_none m = omega arith
    drop-drop-here (suc n) zero xs le = absurd (omega (arith, le))
    drop-drop-here (suc n) (suc m) [] le = none (suc m - suc n)
      where
        none : (k : ℕ) → ◌≡◌ {A = List Point} (drop k []) []
        none zero = refl
        none (suc k) = refl
    drop-drop-here (suc n) (suc m) (x ∷ xs) le = ap (λ (k : ℕ). drop k (drop n xs)) (both_less n m) ∙ drop-drop-here n m xs (omega (arith, le))
      where
        both_less : (n m : ℕ) → suc m - suc n ≡ m - n
        both_less n m = omega arith

-- the answers to some points further
pub points_placed : (batch : ReaderView) (points : List Point) (n m : ℕ) (replies replies' : List Reply) → n ≤ m → replies' ≡ with_answers_from 0 replies (answers_to batch (point_places (take (m - n) (drop n points)))) →
    AllByRecursion (λ place. place < length replies) (point_places (drop n points)) →
    (with_answers_from 0 replies' (answers_to batch (point_places (drop m points))) ≡ with_answers_from 0 replies (answers_to batch (point_places (drop n points)))) × AllByRecursion (λ place. place < length replies') (point_places (drop m points))
points_placed batch points n m replies replies' le placed within =
    let parted = places_parted points n m le in
    let both = both_placed batch replies replies' (point_places (take (m - n) (drop n points))) (point_places (drop m points)) placed (subst (AllByRecursion (λ place. place < length replies)) parted within) in
    (both.0 ∙ ap (λ (l : List ℕ). with_answers_from 0 replies (answers_to batch l)) (sym parted), both.1)

pub points_within : (batch : ReaderView) (points : List Point) (n m size : ℕ) → n ≤ m → AllByRecursion (λ place. place < size) (point_places (drop n points)) →
    AllByRecursion (IsAnswerFrom 0 size) (answers_to batch (point_places (take (m - n) (drop n points))))
points_within batch points n m size le within =
    let here = point_places (take (m - n) (drop n points)) in
    all_within batch size here (all_front (λ place. place < size) here (point_places (drop m points)) (subst (AllByRecursion (λ place. place < size)) (places_parted points n m le) within))

pub no_points : (batch : ReaderView) (points : List Point) (n : ℕ) (replies : List Reply) → length points ≤ n → replies ≡ with_answers_from 0 replies (answers_to batch (point_places (drop n points)))
no_points batch [] zero replies past = refl
no_points batch [] (suc n) replies past = refl
no_points batch (p ∷ points) zero replies past = absurd (omega (arith, past))
no_points batch (p ∷ points) (suc n) replies past = no_points batch points n replies (omega (arith, past))
