-- What a batch makes of an index, and batches in turn.
use Rattle.std.proofs.Common.{◌≡◌, ℕ, ◌+◌, ◌<◌, ◌≤◌, List, [], ◌∷◌, ◌++◌, length, take, get_or, false, Result, Ok, Err, IfOk, OnOk, OnErr, refl, subst}
use Rattle.bw_memory.specs.Alloc.{Vec}
use Rattle.bw_delta.specs.Batches.{writes_of}
use Rattle.bw_model.specs.Model.{contents_after}
use Rattle.bw_model.specs.declared.operations.Op.{Op}
use Rattle.bw_model.specs.declared.outcomes.Refusal.{Refusal}
use Rattle.bw_batch.specs.IndexLeaves.{leaves_of}
use Rattle.bw_batch.specs.Outcomes.{Changes, ChangesInTurn, batches_of}
use Rattle.bw_batch.specs.DueSweeps.{base_of, is_sweep_due, records_before}
use Rattle.bw_batch.specs.View.{IndexView, contents_of, next_stamp_of, settings_of}
use Rattle.bw_batch.specs.declared.index.Done.{Done}
use Rattle.bw_batch.proofs.OutcomesLemmas.{batches_more}

-- what `run` ensures, as one fact on the index before and behind it
pub changed_by : (old new : IndexView) (ops : List Op) (outcome : Result Done Refusal) → settings_of new ≡ settings_of old → OnOk outcome (contents_of new ≡ contents_after ops (contents_of old)) →
    OnOk outcome (next_stamp_of new ≡ base_of old (length ops) + length ops) → OnOk outcome (records_before old (length ops) + length (writes_of 0 ops) ≤ new.records) →
    OnOk outcome (new.records ≡ records_before old (length ops) + length (writes_of 0 ops) → leaves_of new.pages ≡ leaves_of old.pages) → OnErr outcome (leaves_of new.pages ≡ leaves_of old.pages) →
    IfOk outcome (λ done. done.tidy.stopped ≡ false → new.due ≡ []) → OnErr outcome (contents_of new ≡ contents_of old) → ((settings_of old).batch_max < length ops → new ≡ old) →
    (is_sweep_due old (length ops) ≡ false → OnErr outcome (new ≡ old)) → Changes old new ops outcome
changed_by old new ops (Ok done) settings contents stamp recorded leaves kept tidied err untried unswept =
    record { settings = settings; contents = contents; stamp = stamp; recorded = recorded; leaves = leaves; tidied = tidied }
changed_by old new ops (Err refusal) settings contents stamp recorded leaves kept tidied err untried unswept =
    record { settings = settings; contents = err; leaves = kept; untried = untried; unswept = unswept }

one_changed : (old now new : IndexView) (batches : List (List Op)) (outcomes : List (Result Done Refusal)) (ops : List Op) (outcome : Result Done Refusal) →
    ChangesInTurn old now batches outcomes → Changes now new ops outcome → ChangesInTurn old new (batches ++ ops ∷ []) (outcomes ++ outcome ∷ [])
one_changed old now new [] [] ops outcome before here = (new, (subst (λ v. Changes v new ops outcome) before here, refl))
one_changed old now new (b ∷ batches) (o ∷ outcomes) ops outcome before here = (before.0, (before.1.0, one_changed before.0 now new batches outcomes ops outcome before.1.1 here))
one_changed old now new [] (o ∷ outcomes) ops outcome before here = absurd before
one_changed old now new (b ∷ batches) [] ops outcome before here = absurd before

-- batches in turn, and one more
pub changes_more : (old now new : IndexView) (vs : List (Vec Op)) (i : ℕ) (v : Vec Op) (outcomes outcomes' : List (Result Done Refusal)) (outcome : Result Done Refusal) →
    i < length vs → v ≡ get_or vs i v → outcomes' ≡ outcomes ++ outcome ∷ [] → ChangesInTurn old now (batches_of (take i vs)) outcomes → Changes now new v.items outcome →
    ChangesInTurn old new (batches_of (take (i + 1) vs)) outcomes'
changes_more old now new vs i v outcomes outcomes' outcome lt is more before here =
    rw (batches_more vs i v lt is, more) (one_changed old now new (batches_of (take i vs)) outcomes v.items outcome before here)
