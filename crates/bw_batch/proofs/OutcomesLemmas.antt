-- What `run` ensures of one batch, and a run of batches one batch further.
use Rattle.std.proofs.Common.{◌≡◌, ℕ, ◌+◌, ◌<◌, ◌≤◌, Bool, true, false, cond, subst, List, [], ◌∷◌, ◌++◌, length, take, get_or, Option, Some, None, Result, Ok, Err, IfOk, OnOk, OnErr, inl, inr, refl, sym, ap, ◌∙◌, arith, length-append}
use Rattle.std.specs.Result.{IsOkUnless}
use Rattle.std.proofs.lemmas.Bool.{cases_lt}
use Rattle.std.proofs.lemmas.List.{take_more, map-append}
use Rattle.bw_memory.specs.Alloc.{Vec}
use Rattle.bw_key.specs.Order.{KeyBytes}
use Rattle.bw_delta.specs.Batches.{stamped, write_of, writes_of}
use Rattle.bw_delta.specs.Writes.{WriteView}
use Rattle.bw_model.specs.Values.{ValueBytes}
use Rattle.bw_model.specs.Contents.{Contents}
use Rattle.bw_model.specs.Model.{replies_of, contents_after}
use Rattle.bw_model.specs.Runs.{Outcome, Answers, AnswersInTurn, left_by, left_in_turn}
use Rattle.bw_model.specs.declared.operations.Action.{Action}
use Rattle.bw_model.specs.declared.operations.Op.{Op}
use Rattle.bw_model.specs.declared.outcomes.Refusal.{Refusal}
use Rattle.bw_model.specs.declared.outcomes.Refusal.TheVariants.{TooLong, Memory}
use Rattle.bw_model.proofs.RunsLemmas.{one_more, left_one_more}
use Rattle.bw_batch.specs.Outcomes.{batches_of, outcome_of, outcomes_of, IsCounted, AreCounted}
use Rattle.bw_batch.specs.Settings.{Settings, most_lost}
use Rattle.bw_batch.specs.View.{IndexView, contents_of}
use Rattle.bw_batch.specs.declared.index.Done.{Done}

-- what `run` ensures, as one fact on its outcome
pub answered : (most : ℕ) (ops : List Op) (m : Contents ValueBytes) (outcome : Result Done Refusal) → IfOk outcome (λ done. done.replies ≡ replies_of ops m) →
    (most < length ops → outcome ≡ Err (TooLong (length ops) most)) → (length ops ≤ most → IsOkUnless outcome Memory) → Answers most ops m (outcome_of outcome)
answered most ops m (Ok done) replies long fits = elim (cases_lt most (length ops)) [
  | inl lt ↦ let e = long lt in absurd (cc)
  | inr le ↦ (le, replies)
]
answered most ops m (Err (TooLong n limit)) replies long fits = elim (cases_lt most (length ops)) [
  | inl lt ↦ let e = long lt in (lt, cc, cc)
  | inr le ↦ let e = fits le in absurd (cc)
]
answered most ops m (Err Memory) replies long fits = elim (cases_lt most (length ops)) [
  | inl lt ↦ let e = long lt in absurd (cc)
  | inr le ↦ le
]

-- and on what it leaves
pub left_done : (ops : List Op) (old new : IndexView) (outcome : Result Done Refusal) → OnOk outcome (contents_of new ≡ contents_after ops (contents_of old)) → OnErr outcome (contents_of new ≡ contents_of old) →
    contents_of new ≡ left_by ops (contents_of old) (outcome_of outcome)
left_done ops old new (Ok done) ok err = ok
left_done ops old new (Err refusal) ok err = err

-- the batches up to the next
pub batches_more : (vs : List (Vec Op)) (i : ℕ) (v : Vec Op) → i < length vs → v ≡ get_or vs i v → batches_of (take (i + 1) vs) ≡ batches_of (take i vs) ++ v.items ∷ []
batches_more vs i v lt is = ap batches_of (take_more vs i v lt) ∙ map-append (λ (w : Vec Op). w.items) (take i vs) (get_or vs i v ∷ []) ∙ ap (λ (w : Vec Op). batches_of (take i vs) ++ w.items ∷ []) (sym is)

-- a push that went well
pub pushed : {X : Type 0} (xs ys : List X) (x : X) (b : Bool) → ys ≡ cond b (xs ++ x ∷ []) xs → b ≡ true → ys ≡ xs ++ x ∷ []
pushed xs ys x b is done = is ∙ ap (λ c. cond c (xs ++ x ∷ []) xs) done

pub pushed_len : (m n i : ℕ) (b : Bool) → n ≡ cond b (m + 1) m → b ≡ true → m ≡ i → n ≡ i + 1
pushed_len m n i b is done count = is ∙ ap (λ c. cond c (m + 1) m) done ∙ ap (λ k. k + 1) count

-- the outcomes with one more
pub outcomes_more : (old new : List (Result Done Refusal)) (outcome : Result Done Refusal) → new ≡ old ++ outcome ∷ [] → outcomes_of new ≡ outcomes_of old ++ outcome_of outcome ∷ []
outcomes_more old new outcome is = ap outcomes_of is ∙ map-append outcome_of old (outcome ∷ [])

-- a run goes on by one batch
pub run_more : (most : ℕ) (vs : List (Vec Op)) (i : ℕ) (v : Vec Op) (m now new : Contents ValueBytes) (outcomes outcomes' : List Outcome) (outcome : Outcome) →
    i < length vs → v ≡ get_or vs i v → outcomes' ≡ outcomes ++ outcome ∷ [] →
    AnswersInTurn most (batches_of (take i vs)) m outcomes → now ≡ left_in_turn (batches_of (take i vs)) m outcomes →
    Answers most v.items now outcome → new ≡ left_by v.items now outcome →
    AnswersInTurn most (batches_of (take (i + 1) vs)) m outcomes' × (new ≡ left_in_turn (batches_of (take (i + 1) vs)) m outcomes')
run_more most vs i v m now new outcomes outcomes' outcome lt is more told left here after =
    rw (batches_more vs i v lt is, more) (
      one_more most (batches_of (take i vs)) v.items m outcomes outcome told (subst (λ n. Answers most v.items n outcome) left here),
      after ∙ ap (λ n. left_by v.items n outcome) left ∙ sym (left_one_more most (batches_of (take i vs)) v.items m outcomes outcome told),
    )

-- how many writes a batch has doesn't depend on their stamps
one_stamped : (write : Option (KeyBytes × Action)) (i j : ℕ) → length (stamped i write) ≡ length (stamped j write)
one_stamped None i j = refl
one_stamped (Some write) i j = refl

pub same_writes : (ops : List Op) (i j : ℕ) → length (writes_of i ops) ≡ length (writes_of j ops)
same_writes [] i j = refl
same_writes (op ∷ ops) i j =
    omega (
      arith,
      length-append (stamped i (write_of op)) (writes_of (i + 1) ops),
      length-append (stamped j (write_of op)) (writes_of (j + 1) ops),
      one_stamped (write_of op) i j,
      same_writes ops (i + 1) (j + 1),
    )

-- a batch that has no write as of one stamp has none as of another
pub no_writes : (ops : List Op) (i j : ℕ) → length (writes_of i ops) ≡ 0 → writes_of j ops ≡ []
no_writes ops i j none = empty (writes_of j ops) (same_writes ops j i ∙ none)
  where
    empty : (ws : List WriteView) → length ws ≡ 0 → ws ≡ []
    empty [] is = refl
    empty (w ∷ ws) is = absurd (omega (arith, is))

-- what `run` tells besides of a batch
pub told_by : (settings : Settings) (ops : List Op) (next : ℕ) (outcome : Result Done Refusal) → IfOk outcome (λ done. done.lost ≤ most_lost settings (length (writes_of next ops))) → (settings.beside ≡ false → IfOk outcome (λ done. done.replaced ≡ 0)) → IsCounted settings ops outcome
told_by settings ops next (Ok done) lost replaced = (subst (λ n. done.lost ≤ most_lost settings n) (same_writes ops next 0) lost, replaced)
told_by settings ops next (Err refusal) lost replaced = tt

one_told : (settings : Settings) (batches : List (List Op)) (outcomes : List (Result Done Refusal)) (ops : List Op) (outcome : Result Done Refusal) → AreCounted settings batches outcomes → IsCounted settings ops outcome → AreCounted settings (batches ++ ops ∷ []) (outcomes ++ outcome ∷ [])
one_told settings [] [] ops outcome told here = (here, tt)
one_told settings (b ∷ batches) (o ∷ outcomes) ops outcome told here = (told.0, one_told settings batches outcomes ops outcome told.1 here)
one_told settings [] (o ∷ outcomes) ops outcome told here = absurd told
one_told settings (b ∷ batches) [] ops outcome told here = absurd told

-- and of one batch more
pub told_more : (settings : Settings) (vs : List (Vec Op)) (i : ℕ) (v : Vec Op) (outcomes outcomes' : List (Result Done Refusal)) (outcome : Result Done Refusal) →
    i < length vs → v ≡ get_or vs i v → outcomes' ≡ outcomes ++ outcome ∷ [] → AreCounted settings (batches_of (take i vs)) outcomes → IsCounted settings v.items outcome → AreCounted settings (batches_of (take (i + 1) vs)) outcomes'
told_more settings vs i v outcomes outcomes' outcome lt is more told here = rw (batches_more vs i v lt is, more) (one_told settings (batches_of (take i vs)) outcomes v.items outcome told here)
