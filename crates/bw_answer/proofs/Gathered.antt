-- The answers to the parts of a batch, side by side.
use Rattle.std.proofs.Common.{◌≡◌, ℕ, ◌-◌, ◌<◌, ◌≤◌, List, length, arith, [], ◌∷◌, ◌++◌, map, take, drop, Result, Ok, Err, IfOk, refl, sym, ap, ◌∙◌, subst}
use Rattle.std.specs.List.{AllByRecursion, AllZip, Contains, flat_map}
use Rattle.std.specs.List.Sorted.{IsPermutation}
use Rattle.std.specs.Prelude.{MatchResult}
use Rattle.std.specs.declared.vec.Vec.{Vec}
use Rattle.std.proofs.lemmas.List.{map-append, take-map}
use Rattle.std.proofs.lemmas.List.Sorted.{IsPermutation-append, IsPermutation-refl}
use Rattle.bw_model.specs.declared.operations.Op.{Op}
use Rattle.bw_answer.specs.Parts.{places_in, elements_in}
use Rattle.bw_group.specs.Points.{Entry, entries_of, places_of, IsScanOf}
use Rattle.bw_answer.specs.Replies.{ArePointsOf, GoesOnTo, ReaderView, answer_to, answers_to, point_places}
use Rattle.bw_answer.specs.Sections.{answers_in, AreBySection}
use Rattle.bw_answer.specs.declared.sections.Cut.{Cut}
use Rattle.bw_answer.specs.declared.parts.Part.{Part}
use Rattle.bw_answer.specs.declared.parts.Span.{Span}
use Rattle.bw_group.specs.declared.points.Point.{Point}
use Rattle.bw_tidy.specs.declared.leaf_findings.Findings.{Findings}
use Rattle.bw_answer.specs.declared.batch_reader.Answer.{Answer}
use Rattle.bw_answer.specs.declared.batch_reader.PartAnswers.{PartAnswers}
use Rattle.bw_group.proofs.ListParts.{all_append, all_same, seen_rest}
use Rattle.bw_group.proofs.PointGroups.{places_within, scan_within}
use Rattle.bw_answer.proofs.PartPlaces.{spanned_holds}
use Rattle.bw_answer.proofs.Replied.{of_entries}

-- a span of a list whose elements are seen through a function
spanned_seen : {X Y : Type 0} (f : X → Y) (span : Span) (xs : List X) → map f (elements_in span xs) ≡ elements_in span (map f xs)
spanned_seen f span xs = sym (take-map f (span.end - span.start) (drop span.start xs)) ∙ ap (take (span.end - span.start)) (seen_rest f span.start xs)

-- the points of a part and its scans, answered one after the other
pub both_answered : (batch : ReaderView) (ps : List Point) (scans : List ℕ) (part : Part) (none some all : List Answer) → none ≡ [] →
    some ≡ none ++ answers_to batch (places_of (entries_of (elements_in part.points ps))) → all ≡ some ++ answers_to batch (elements_in part.scans scans) →
    all ≡ answers_to batch (places_in (places_of (entries_of ps)) scans part)
both_answered batch ps scans part none some all empty points rest =
    let places : places_of (entries_of (elements_in part.points ps)) ≡ elements_in part.points (places_of (entries_of ps)) =
    ap places_of (spanned_seen (λ (p : Point). (p.key.now, p.place)) part.points ps) ∙ spanned_seen (λ (e : Entry). e.1) part.points (entries_of ps) in
    rest
    ∙ ap (λ l. l ++ answers_to batch (elements_in part.scans scans)) (points ∙ ap (λ l. l ++ answers_to batch (places_of (entries_of (elements_in part.points ps)))) empty)
    ∙ sym (map-append (answer_to batch) (places_of (entries_of (elements_in part.points ps))) (elements_in part.scans scans))
    ∙ ap (λ l. answers_to batch (l ++ elements_in part.scans scans)) places

-- the places of a part are those of operations
pub part_within : (ops : List Op) (points : List Point) (scans : List ℕ) (part : Part) (n : ℕ) → ArePointsOf ops points → AllByRecursion (IsScanOf ops) scans → length ops ≤ n →
    AllByRecursion (λ place. place < n) (places_in (point_places points) scans part)
part_within ops points scans part n points_are scans_are le =
    let P : ℕ → Type 0 = λ place. place < length ops in
    let entries = entries_of points in
    let at_points = of_entries P entries (places_within ops (length ops) entries refl points_are.entries) in
    let at_scans = all_same (IsScanOf ops) P (λ place scan. scan_within ops place scan) scans scans_are in
    let ours = elements_in part.points (point_places points) in
    let others = elements_in part.scans scans in
    all_same P (λ place. place < n) (λ place lt. omega (arith, lt, le)) (ours ++ others)
    (all_append P ours others (spanned_holds P part.points (point_places points) at_points) (spanned_holds P part.scans scans at_scans))

module _ (batch : ReaderView) (points scans : List ℕ) (cut : Cut) (first : Findings) where
  -- the part was answered, by share, and what was found of its leaves goes on from the first findings
  abbrev IsAnswered : Part → PartAnswers → Type 0
  IsAnswered part answers = IsPermutation (answers_to batch (places_in points scans part)) (answers_in answers) × AreBySection cut answers.lists.items × GoesOnTo batch first answers.findings

  gathered : (E : Type 0) (parts : List Part) (all : List PartAnswers) →
      AllZip (λ part (r : Result PartAnswers E). IfOk r (IsAnswered part)) parts (map Ok all) →
      IsPermutation (answers_to batch (flat_map (places_in points scans) parts)) (flat_map answers_in all)
      × AllByRecursion (λ (answers : PartAnswers). AreBySection cut answers.lists.items) all
      × AllByRecursion (λ (answers : PartAnswers). GoesOnTo batch first answers.findings) all
  gathered E [] [] answered = (IsPermutation-refl [], tt, tt)
  gathered E [] (answers ∷ all) answered = absurd answered
  gathered E (part ∷ parts) [] answered = absurd answered
  gathered E (part ∷ parts) (answers ∷ all) answered =
      let rest = gathered E parts all answered.1 in
      let here = places_in points scans part in
      let more = flat_map (places_in points scans) parts in (
        subst (λ l. IsPermutation l (answers_in answers ++ flat_map answers_in all)) (sym (map-append (answer_to batch) here more))
            (IsPermutation-append (answers_to batch here) (answers_in answers) (answers_to batch more) (flat_map answers_in all) answered.0.0 rest.0),
        (answered.0.1, rest.1),
        (answered.0.2, rest.2),
      )

  -- where every part was answered, their lists have the answers to all parts
  pub all_gathered : {W E : Type 0} (parts : List Part) (rs : List (Result PartAnswers E)) (r : Result (Vec PartAnswers W) E) →
      AllZip (λ part (r : Result PartAnswers E). IfOk r (IsAnswered part)) parts rs →
      MatchResult r (λ v. (all : List PartAnswers) × (rs ≡ map Ok all) × (v.items ≡ all)) (λ e. Contains rs (Err e)) →
      IfOk r (λ v. IsPermutation (answers_to batch (flat_map (places_in points scans) parts)) (flat_map answers_in v.items))
      × IfOk r (λ v. AllByRecursion (λ (answers : PartAnswers). AreBySection cut answers.lists.items) v.items)
      × IfOk r (λ v. AllByRecursion (λ (answers : PartAnswers). GoesOnTo batch first answers.findings) v.items)
  all_gathered {W} {E} parts rs (Ok v) all h =
      let all_of = gathered E parts h.0 (subst (AllZip (λ part (r : Result PartAnswers E). IfOk r (IsAnswered part)) parts) h.1 all) in (
        subst (λ l. IsPermutation (answers_to batch (flat_map (places_in points scans) parts)) (flat_map answers_in l)) (sym h.2) all_of.0,
        subst (AllByRecursion (λ (answers : PartAnswers). AreBySection cut answers.lists.items)) (sym h.2) all_of.1,
        subst (AllByRecursion (λ (answers : PartAnswers). GoesOnTo batch first answers.findings)) (sym h.2) all_of.2,
      )
  all_gathered parts rs (Err e) all h = (tt, tt, tt)
