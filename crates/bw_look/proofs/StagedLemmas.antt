-- What is known of a staged batch.
use Rattle.std.proofs.Common.{◌≡◌, ℕ, zero, suc, ◌+◌, ◌-◌, ◌<◌, ◌≤◌, ◌^◌, true, false, cond, List, [], ◌∷◌, ◌++◌, length, take, drop, Option, Some, None, nat_lt, is_some, refl, sym, ap, ◌∙◌, subst, arith, inl, inr, length-append}
use Rattle.std.specs.Prelude.{slice_get, slice_index}
use Rattle.std.proofs.lemmas.Bool.{cases_lt}
use Rattle.std.proofs.lemmas.Bool.Decides.{nat_tests}
use Rattle.std.proofs.lemmas.Option.{slice_get_within}
use Rattle.bw_delta.specs.Writes.{WriteView}
use Rattle.bw_delta.specs.declared.deltas.Delta.{Delta}
use Rattle.bw_delta.specs.declared.deltas.Delta.TheVariants.{Put}
use Rattle.bw_level.specs.Changes.{Bases}
use Rattle.bw_chain.specs.Chains.{Records, Ends, EndsAt, floor_word, record_at}
use Rattle.bw_look.specs.Trees.{IsTree, IsStaged, StageWords, stage_of, view_of}
use Rattle.bw_look.specs.Words.{bases_before, words_before}
use Rattle.bw_look.specs.declared.words_before.WordsBefore.{WordsBefore}
use Rattle.bw_chain.specs.Records.{put_records, writes_in}
use Rattle.bw_look.specs.StagedBatches.{IsStagedAs}
use Rattle.bw_look.specs.View.{TreeView, staged_writes}
use Rattle.bw_look.specs.declared.staging.Staged.{Staged}
use Rattle.bw_chain.proofs.ChainLemmas.{linked}
use Rattle.bw_chain.proofs.GrowthLemmas.{drop_front}

pub read_both : (ws : List WriteView) (links : List ℕ) (r : ℕ) → r < length links → length links ≡ length ws → (w : WriteView) × (slice_get ws r ≡ Some w) × (slice_get (put_records ws links) r ≡ Some (Put w, slice_index links r))
read_both [] [] r lt same = absurd (omega arith)
read_both [] (l ∷ links) r lt same = absurd (omega (arith, same))
read_both (w ∷ ws) [] r lt same = absurd (omega arith)
read_both (w ∷ ws) (l ∷ links) zero lt same = (w, refl, refl)
read_both (w ∷ ws) (l ∷ links) (suc r) lt same = read_both ws links r (omega arith) (omega (arith, same))

pub read_behind : (old more : Records) (r : ℕ) → slice_get (old ++ more) (length old + r) ≡ slice_get more r
read_behind [] more r = ap (slice_get more) (from_none r)
  where
    from_none : (r : ℕ) → 0 + r ≡ r
    from_none r = omega arith
read_behind (x ∷ old) more r = read_next old more r (read_behind old more r)
  where
    read_next : (old more : Records) (r : ℕ) → slice_get (old ++ more) (length old + r) ≡ slice_get more r → slice_get (x ∷ (old ++ more)) (suc (length old) + r) ≡ slice_get more r
    read_next old more r e = ap (slice_get (x ∷ (old ++ more))) (shifted (length old) r) ∙ e
      where
        shifted : (n r : ℕ) → suc n + r ≡ suc (n + r)
        shifted n r = omega arith

pub writes_put_in : (ws : List WriteView) (links : List ℕ) → length links ≡ length ws → writes_in (put_records ws links) ≡ ws
writes_put_in [] [] e = refl
writes_put_in [] (l ∷ links) e = absurd (omega (arith, e))
writes_put_in (w ∷ ws) [] e = absurd (omega (arith, e))
writes_put_in (w ∷ ws) (l ∷ links) e = ap (λ (vs : List WriteView). w ∷ vs) (writes_put_in ws links (omega (arith, e)))

pub take_length : (n : ℕ) (xs : Records) → n ≤ length xs → length (take n xs) ≡ n
take_length zero [] le = refl
take_length zero (x ∷ xs) le = refl
take_length (suc n) [] le = absurd (omega arith)
take_length (suc n) (x ∷ xs) le = ap suc (take_length n xs (omega arith))

put_length : (vs : List WriteView) (ls : List ℕ) → length ls ≡ length vs → length (put_records vs ls) ≡ length vs
put_length [] [] e = refl
put_length [] (l ∷ ls) e = absurd (omega (arith, e))
put_length (v ∷ vs) [] e = absurd (omega (arith, e))
put_length (v ∷ vs) (l ∷ ls) e = ap suc (put_length vs ls (omega (arith, e)))

-- how many records there are with those of writes behind others
pub length_behind : (old : Records) (ws : List WriteView) (links : List ℕ) → length links ≡ length ws → length (old ++ put_records ws links) ≡ length old + length ws
length_behind old ws links same = length-append old (put_records ws links) ∙ ap (λ n. length old + n) (put_length ws links same)

-- a word that leads to a base page names that page or a record
ends_low : (bases : Bases) (records : Records) (word : ℕ) → Ends bases records word → word < floor_word + length records
ends_low bases records word ends = by ends.0 ends.1.0 ends.1.1
  where
    named : (r : Delta × ℕ) → record_at records word ≡ Some r → word < floor_word + length records
    named r at = elim (cases_lt word floor_word) [
      | inl lt ↦ omega (arith, lt)
      | inr ge ↦
          let test : nat_lt word floor_word ≡ false = grind (arith, nat_tests) in
          let there = slice_get_within records (word - floor_word) r (sym (ap (λ b. cond b None (slice_get records (word - floor_word))) test) ∙ at) in
          omega (arith, there, ge)
    ]

    by : (ws : List ℕ) (e : ℕ) → EndsAt bases records word ws e → word < floor_word + length records
    by [] e h = omega (arith, h.way.0, h.limit)
    by (w ∷ ws) e h = let r = linked records word h.way.1.0 h.way.1.1 in named r.0 r.1

module _ (heads : List ℕ) (bases : Bases) (records : Records) (root next : ℕ) (s : StageWords) (st : IsStaged heads bases records root next s) where
  abbrev earlier : Records
  earlier = take s.records records

  count : length earlier ≡ s.records
  count = take_length s.records records st.earlier

  whole : length records ≡ s.records + length st.writes
  whole = omega (arith, ap length st.parts, length_behind earlier st.writes st.links st.linked, count)

  pub writes_staged : writes_in (drop s.records records) ≡ st.writes
  writes_staged =
      ap (λ (r : Records). writes_in (drop s.records r)) st.parts ∙ ap (λ k. writes_in (drop k (earlier ++ put_records st.writes st.links))) (sym count)
      ∙ ap writes_in (drop_front earlier (put_records st.writes st.links)) ∙ writes_put_in st.writes st.links st.linked

  -- the record of a staged write
  pub staged_there : (place : ℕ) → place < length (writes_in (drop s.records records)) →
      (w : WriteView) × (link : ℕ) × (slice_get records (s.records + place) ≡ Some (Put w, link)) × (slice_get (writes_in (drop s.records records)) place ≡ Some w) × (s.records + place < length records)
  staged_there place lt =
      let within : place < length st.writes = omega (arith, lt, ap length writes_staged) in
      let both = read_both st.writes st.links place (omega (arith, within, st.linked)) st.linked in (
        both.0,
        slice_index st.links place,
        ap (λ (r : Records). slice_get r (s.records + place)) st.parts ∙ ap (λ k. slice_get (earlier ++ put_records st.writes st.links) (k + place)) (sym count) ∙ read_behind earlier (put_records st.writes st.links) place ∙ both.2,
        ap (λ (l : List WriteView). slice_get l place) writes_staged ∙ both.1,
        omega (arith, whole, within),
      )

  no_word : (b : Option WordsBefore) → s.before ≡ b → is_some s.before ≡ false → words_before s.before heads ≡ heads
  no_word None e none = ap (λ b. words_before b heads) e
  no_word (Some b) e none = absurd (different (sym (ap is_some e) ∙ none))
    where
      different : true ≡ false → ⊥
      different e = cc

  there : (xs : List ℕ) (i : ℕ) → i < length xs → slice_get xs i ≡ Some (slice_index xs i)
  there [] i lt = absurd (omega arith)
  there (x ∷ xs) zero lt = refl
  there (x ∷ xs) (suc i) lt = there xs i (omega arith)

  words_low : is_some s.before ≡ false → (p : ℕ) → p < length heads → slice_index heads p < floor_word + s.records
  words_low none p lt =
      let same = no_word s.before refl none in
      let at : slice_get (words_before s.before heads) p ≡ Some (slice_index heads p) = ap (λ (l : List ℕ). slice_get l p) same ∙ there heads p lt in
      omega (arith, ends_low (bases_before s.before bases) earlier (slice_index heads p) (st.before.ends p (slice_index heads p) at), count)

  pub staged_is : (batch : Staged) → length records ≤ 2 ^ 32 → batch.base ≡ next → batch.floor ≡ floor_word + s.records → batch.records ≡ length records - s.records → IsStagedAs (view_of heads bases records root next (Some s)) batch
  staged_is batch few base floor records_are = record {
    stage = stage_of heads bases records root s;
    is = refl;
    base = base;
    floor = floor;
    records = omega (arith, records_are, whole, ap length writes_staged);
    fits = omega (arith, floor, records_are, few, st.earlier);
    low = λ none p lt. omega (arith, words_low none p lt, floor);
  }

pub staged_as : (heads : List ℕ) (bases : Bases) (records : Records) (root next : ℕ) (staged : Option StageWords) (tree : TreeView) (s : StageWords) (batch : Staged) → IsTree heads bases records root next staged → view_of heads bases records root next staged ≡ tree → Some s ≡ staged →
    batch.base ≡ next → batch.floor ≡ floor_word + s.records → batch.records ≡ length records - s.records → IsStagedAs tree batch
staged_as heads bases records root next staged tree s batch t is some base floor records_are =
    let t' = subst (IsTree heads bases records root next) (sym some) t in
    subst (λ (v : TreeView). IsStagedAs v batch) (ap (view_of heads bases records root next) some ∙ is) (staged_is heads bases records root next s t'.stage batch t'.now.few_records base floor records_are)

-- a staged record, as a call sees it
pub record StagedRecord (records : Records) (tree : TreeView) (at place : ℕ) : Type 0 where
  pub write : WriteView
  pub link : ℕ
  pub record_is : slice_get records at ≡ Some (Put write, link)
  pub write_is : slice_get (staged_writes tree.staged) place ≡ Some write
  pub within : at < length records
  pub few : length records ≤ 2 ^ 32

pub staged_record : (heads : List ℕ) (bases : Bases) (records : Records) (root next : ℕ) (staged : Option StageWords) (tree : TreeView) (s : StageWords) (place : ℕ) → IsTree heads bases records root next staged → view_of heads bases records root next staged ≡ tree → Some s ≡ staged →
    place < length (staged_writes tree.staged) → StagedRecord records tree (s.records + place) place
staged_record heads bases records root next staged tree s place t is some lt =
    let t' = subst (IsTree heads bases records root next) (sym some) t in
    let same : view_of heads bases records root next (Some s) ≡ tree = ap (view_of heads bases records root next) some ∙ is in
    let r = staged_there heads bases records root next s t'.stage place (subst (λ (v : TreeView). place < length (staged_writes v.staged)) (sym same) lt) in
    subst (λ (v : TreeView). StagedRecord records v (s.records + place) place) same (record { write = r.0; link = r.1; record_is = r.2; write_is = r.3; within = r.4; few = t'.now.few_records })
