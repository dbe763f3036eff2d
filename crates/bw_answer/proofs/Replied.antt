-- All replies of a batch, from the answers to its parts.
use Rattle.std.proofs.Common.{◌≡◌, ℕ, ◌-◌, ◌<◌, ◌≤◌, List, [], ◌∷◌, ◌++◌, length, map, take, drop, refl, sym, ap, ◌∙◌, subst, arith}
use Rattle.std.proofs.lemmas.List.{append-nil, take_all}
use Rattle.std.specs.List.{AllByRecursion, flat_map}
use Rattle.std.specs.List.Sorted.{IsPermutation, IsSortedBy}
use Rattle.std.proofs.ByRecursion.{all_shuffled}
use Rattle.std.proofs.lemmas.List.Sorted.{IsPermutation-map, IsPermutation-refl, IsPermutation-sym}
use Rattle.std.specs.Ordering.{is_lt}
use Rattle.bw_key.specs.Order.{KeyBytes, key_cmp}
use Rattle.bw_model.specs.declared.operations.Op.{Op}
use Rattle.bw_model.specs.declared.operations.Reply.{Reply}
use Rattle.bw_answer.specs.Parts.{Cover, places_in, elements_in}
use Rattle.bw_group.specs.Points.{Entry, entries_at, entries_from, entries_of, places_of, scans_from, AreGrouped, GroupingView, HasRisingPlaces, IsPointOf, IsScanOf}
use Rattle.bw_group.specs.declared.points.Point.{Point}
use Rattle.bw_answer.specs.Replies.{ArePointsOf, ReaderView, answer_to, contents_before, replies_to, answers_to, point_places}
use Rattle.bw_answer.specs.Sections.{with_answers_from}
use Rattle.bw_answer.specs.declared.batch_reader.Answer.{Answer}
use Rattle.bw_answer.specs.declared.parts.Part.{Part}
use Rattle.bw_group.proofs.PointGroups.{entries_rise, places_length, places_within, rising_at, scan_within}
use Rattle.bw_group.proofs.ListParts.{all_same}
use Rattle.bw_answer.proofs.PartPlaces.{in_parts, points_of_parts, scans_of_parts}
use Rattle.bw_answer.proofs.Placed.{all_placed, all_replied, both_placed, IsAnswered, IsPlace}
use Rattle.bw_answer.proofs.PlacedFrom.{length_from}
use Rattle.bw_answer.proofs.ReplyLemmas.{replies_length}
use Rattle.bw_group.proofs.Wholes.{at_each_place, batch_entries, batch_scans}

pub of_entries : (P : ℕ → Type 0) (es : List Entry) → AllByRecursion (λ e. P e.1) es → AllByRecursion P (places_of es)
of_entries P [] all = tt
of_entries P (e ∷ es) all = (all.0, of_entries P es all.1)

-- the points of a batch, and its scans
pub grouped_points : (batch : GroupingView) → AreGrouped batch → (ops : List Op) (points : List Point) → ops ≡ batch.ops → entries_of points ≡ batch.points → AllByRecursion (IsPointOf batch.ops) points → ArePointsOf ops points
grouped_points batch grouped ops points ops_are points_are verbs =
    let same = λ (key : KeyBytes). ap (entries_at key) points_are ∙ grouped.same key in
    subst (λ (l : List Op). ArePointsOf l points) (sym ops_are) (record {
      sorted = subst (IsSortedBy (λ d e. is_lt (key_cmp d.0 e.0))) (sym points_are) grouped.sorted;
      entries = batch_entries batch.ops (entries_of points) same;
      rising = λ key. subst (HasRisingPlaces 0) (sym (same key)) (rising_at key 0 (entries_from 0 batch.ops) (entries_rise 0 batch.ops));
      verbs = verbs;
    })

pub grouped_scans : (batch : GroupingView) → AreGrouped batch → (ops : List Op) (scans : List ℕ) → ops ≡ batch.ops → scans ≡ batch.scans → AllByRecursion (IsScanOf ops) scans
grouped_scans batch grouped ops scans ops_are scans_are = batch_scans ops scans (scans_are ∙ grouped.scans ∙ ap (scans_from 0) (sym ops_are))

-- the places of all parts are those of operations
pub places_are : (batch : GroupingView) → AreGrouped batch → (n : ℕ) → length batch.ops ≡ n → (parts : List Part) → AllByRecursion (λ place. place < n) (flat_map (places_in (places_of batch.points) batch.scans) parts)
places_are batch grouped n size parts =
    in_parts (λ place. place < n) (places_of batch.points) batch.scans
    (of_entries (λ place. place < n) batch.points (places_within batch.ops n batch.points size (batch_entries batch.ops batch.points grouped.same)))
    (all_same (IsScanOf batch.ops) (λ place. place < n) (λ place scan. subst (λ (m : ℕ). place < m) size (scan_within batch.ops place scan)) batch.scans (batch_scans batch.ops batch.scans grouped.scans))
    parts

-- answers in another order are to the same places in another order
reordered : (batch : ReaderView) (places : List ℕ) (answers : List Answer) → IsPermutation (answers_to batch places) answers → (answers ≡ answers_to batch (map (λ a. a.place) answers)) × IsPermutation places (map (λ a. a.place) answers)
reordered batch places answers same = (
  right answers (all_shuffled (λ a. a ≡ answer_to batch a.place) (answers_to batch places) answers same (each places)),
  subst (λ l. IsPermutation l (map (λ a. a.place) answers)) (back places) (IsPermutation-map (λ (a : Answer). a.place) (answers_to batch places) answers same),
)
  where
    each : (places : List ℕ) → AllByRecursion (λ (a : Answer). a ≡ answer_to batch a.place) (answers_to batch places)
    each [] = tt
    each (place ∷ places) = (refl, each places)

    right : (answers : List Answer) → AllByRecursion (λ (a : Answer). a ≡ answer_to batch a.place) answers → answers ≡ answers_to batch (map (λ a. a.place) answers)
    right [] all = refl
    right (a ∷ answers) all = ap (λ b. b ∷ answers) all.0 ∙ ap (λ l. answer_to batch a.place ∷ l) (right answers all.1)

    back : (places : List ℕ) → map (λ (a : Answer). a.place) (answers_to batch places) ≡ places
    back [] = refl
    back (place ∷ places) = ap (λ l. place ∷ l) (back places)

-- where the parts have all points and all scans, their answers are all replies, in whatever order they are
pub parts_replied : (batch : ReaderView) (grouping : GroupingView) → AreGrouped grouping → grouping.ops ≡ batch.ops → (parts : List Part) →
    flat_map (λ part. elements_in part.points (places_of grouping.points)) parts ≡ places_of grouping.points → flat_map (λ part. elements_in part.scans grouping.scans) parts ≡ grouping.scans →
    (replies : List Reply) (answers : List Answer) → length batch.ops ≤ length replies → IsPermutation (answers_to batch (flat_map (places_in (places_of grouping.points) grouping.scans) parts)) answers →
    take (length batch.ops) (with_answers_from 0 replies answers) ≡ replies_to batch
parts_replied batch grouping grouped ops parts points scans replies answers len same =
    let places = flat_map (places_in (places_of grouping.points) grouping.scans) parts in
    let others = map (λ (a : Answer). a.place) answers in
    let order = reordered batch places answers same in
    let whole = with_answers_from 0 replies answers in
    let count = replies_length batch.ops (contents_before batch) in
    let size : length (replies_to batch) ≤ length replies = omega (arith, len, count) in
    let within = places_are grouping grouped (length (replies_to batch)) (ap length ops ∙ sym count) parts in
    let answered = IsAnswered batch whole in
    let placed : AllByRecursion answered others =
    subst (λ (l : List Answer). AllByRecursion (IsAnswered batch (with_answers_from 0 replies l)) others) (sym order.0) (all_placed batch others replies size (all_shuffled (IsPlace batch) places others order.1 within)) in
    let each = all_shuffled answered others places (IsPermutation-sym places others order.1) placed in
    let long = length_from 0 replies answers in
    all_replied batch whole (omega (arith, size, long))
    (λ place lt. at_each_place answered grouping grouped
    (subst (AllByRecursion answered) points (points_of_parts answered (places_of grouping.points) grouping.scans parts each))
    (subst (AllByRecursion answered) scans (scans_of_parts answered (places_of grouping.points) grouping.scans parts each))
    place (subst (λ (l : List Op). place < length l) (sym ops) lt))

-- The places of parts of a batch's points and scans, by the lists that a program has of them.
module _ (grouping : GroupingView) (grouped : AreGrouped grouping) (points : List Point) (scans : List ℕ) (parts parts' : List Part) (points_are : entries_of points ≡ grouping.points) (scans_are : scans ≡ grouping.scans) (parts_are : parts' ≡ parts) where
  listed : flat_map (places_in (point_places points) scans) parts' ≡ flat_map (places_in (places_of grouping.points) grouping.scans) parts
  listed =
      ap (λ (l : List Entry). flat_map (places_in (places_of l) scans) parts') points_are
      ∙ ap (λ (l : List ℕ). flat_map (places_in (places_of grouping.points) l) parts') scans_are
      ∙ ap (flat_map (places_in (places_of grouping.points) grouping.scans)) parts_are

  pub parts_within : (n : ℕ) → n ≡ length grouping.ops → AllByRecursion (λ place. place < n) (flat_map (places_in (point_places points) scans) parts')
  parts_within n size = subst (AllByRecursion (λ place. place < n)) (sym listed) (places_are grouping grouped n (sym size) parts)

  pub listed_replied : (batch : ReaderView) → batch.ops ≡ grouping.ops → Cover (λ part. part.points) (length points) parts → Cover (λ part. part.scans) (length scans) parts →
      (replies : List Reply) (answers : List Answer) → length grouping.ops ≤ length replies → IsPermutation (answers_to batch (flat_map (places_in (point_places points) scans) parts')) answers →
      take (length grouping.ops) (with_answers_from 0 replies answers) ≡ replies_to batch
  listed_replied batch ops all_points all_scans replies answers size same =
      ap (λ (l : List Op). take (length l) (with_answers_from 0 replies answers)) (sym ops)
      ∙ parts_replied batch grouping grouped (sym ops) parts
      (all_points (places_of grouping.points) (ap (λ (l : List Entry). length (places_of l)) (sym points_are) ∙ places_length points))
      (all_scans grouping.scans (ap length (sym scans_are))) replies answers (subst (λ (l : List Op). length l ≤ length replies) (sym ops) size)
      (subst (λ (l : List ℕ). IsPermutation (answers_to batch l) answers) listed same)

-- The same where one thread puts the answers to all points at their places, and then those to all scans.
module _ (grouping : GroupingView) (grouped : AreGrouped grouping) (points : List Point) (scans : List ℕ) (points_are : entries_of points ≡ grouping.points) (scans_are : scans ≡ grouping.scans) where
  whole : List Part
  whole = record { points = record { start = 0; end = length points }; scans = record { start = 0; end = length scans } } ∷ []

  all_of : (n : ℕ) (xs : List ℕ) → length xs ≡ n → take (n - 0) (drop 0 xs) ≡ xs
  all_of n xs size = take_all (n - 0) xs (omega (arith, size))

  all_covered : (n : ℕ) (xs : List ℕ) → length xs ≡ n → take (n - 0) (drop 0 xs) ++ [] ≡ xs
  all_covered n xs size = append-nil (take (n - 0) (drop 0 xs)) ∙ all_of n xs size

  whole_places : flat_map (places_in (point_places points) scans) whole ≡ point_places points ++ scans
  unfolding whole
  whole_places =
      append-nil (take (length points - 0) (drop 0 (point_places points)) ++ take (length scans - 0) (drop 0 scans))
      ∙ ap (λ (l : List ℕ). l ++ take (length scans - 0) (drop 0 scans)) (all_of (length points) (point_places points) (places_length points))
      ∙ ap (λ (l : List ℕ). point_places points ++ l) (all_of (length scans) scans refl)

  pub batch_within : (n : ℕ) → n ≡ length grouping.ops → AllByRecursion (λ place. place < n) (point_places points ++ scans)
  batch_within n size = subst (AllByRecursion (λ place. place < n)) whole_places (parts_within grouping grouped points scans whole whole points_are scans_are refl n size)

  pub replied_in_turn : (batch : ReaderView) → batch.ops ≡ grouping.ops → (replies replies' : List Reply) → length replies ≡ length grouping.ops → replies' ≡ with_answers_from 0 replies (answers_to batch (point_places points)) →
      (with_answers_from 0 replies' (answers_to batch scans) ≡ replies_to batch) × AllByRecursion (λ place. place < length replies') scans
  unfolding whole
  replied_in_turn batch ops replies replies' size placed =
      let both = both_placed batch replies replies' (point_places points) scans placed (batch_within (length replies) size) in
      let answers = answers_to batch (flat_map (places_in (point_places points) scans) whole) in
      let long = length_from 0 replies answers in (
        both.0 ∙ ap (λ (l : List ℕ). with_answers_from 0 replies (answers_to batch l)) (sym whole_places)
            ∙ sym (take_all (length grouping.ops) (with_answers_from 0 replies answers) (omega (arith, size, long)))
            ∙ listed_replied grouping grouped points scans whole whole points_are scans_are refl batch ops (λ xs len. all_covered (length points) xs len) (λ xs len. all_covered (length scans) xs len) replies answers
            (omega (arith, size)) (IsPermutation-refl answers),
        both.1,
      )
