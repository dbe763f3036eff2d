-- What became of batches, as the model knows it.
use Rattle.std.specs.Prelude.{◌≡◌, ◌+◌, ◌<◌, ◌≤◌, List, [], ◌∷◌, length, map, false, Result, Ok, Err}
use Rattle.bw_memory.specs.Alloc.{Vec}
use Rattle.bw_delta.specs.Batches.{writes_of}
use Rattle.bw_model.specs.Model.{contents_after}
use Rattle.bw_model.specs.Runs.{Outcome}
use Rattle.bw_model.specs.declared.operations.Op.{Op}
use Rattle.bw_model.specs.declared.outcomes.Refusal.{Refusal}
use Rattle.bw_batch.specs.IndexLeaves.{leaves_of}
use Rattle.bw_batch.specs.Settings.{Settings, most_lost}
use Rattle.bw_batch.specs.DueSweeps.{base_of, is_sweep_due, records_before}
use Rattle.bw_batch.specs.View.{IndexView, contents_of, next_stamp_of, settings_of}
use Rattle.bw_batch.specs.declared.index.Done.{Done}

-- the batches that vectors hold
abbrev pub batches_of : List (Vec Op) → List (List Op)
batches_of = map (λ v. v.items)

-- the replies of an accepted batch, or why it was refused
abbrev pub outcome_of : Result Done Refusal → Outcome
outcome_of (Ok done) = Ok done.replies
outcome_of (Err refusal) = Err refusal

abbrev pub outcomes_of : List (Result Done Refusal) → List Outcome
outcomes_of = map outcome_of

-- What else is told of an accepted batch: no more exchanges were lost than its writes can lose, and no leaf was replaced where
-- none is consolidated beside the posting.
abbrev pub IsCounted : Settings → List Op → Result Done Refusal → Type 0
IsCounted settings ops (Ok done) = (done.lost ≤ most_lost settings (length (writes_of 0 ops)))
    × (settings.beside ≡ false → done.replaced ≡ 0)
IsCounted settings ops (Err refusal) = Unit {0}

-- the same of batches in turn
abbrev pub AreCounted : Settings → List (List Op) → List (Result Done Refusal) → Type 0
AreCounted settings [] [] = Unit {0}
AreCounted settings (ops ∷ batches) (outcome ∷ outcomes) =
    IsCounted settings ops outcome × AreCounted settings batches outcomes
AreCounted settings [] (outcome ∷ outcomes) = ⊥
AreCounted settings (ops ∷ batches) [] = ⊥

-- the index before and behind an accepted batch, of which this is told
pub record IsBehind (old new : IndexView) (ops : List Op) (done : Done) : Type 0 where
  pub settings : settings_of new ≡ settings_of old
  pub contents : contents_of new ≡ contents_after ops (contents_of old)
  pub stamp : next_stamp_of new ≡ base_of old (length ops) + length ops
  pub recorded : records_before old (length ops) + length (writes_of 0 ops) ≤ new.records
  pub leaves : new.records ≡ records_before old (length ops) + length (writes_of 0 ops) →
      leaves_of new.pages ≡ leaves_of old.pages
  pub tidied : done.tidy.stopped ≡ false → new.due ≡ []

-- the index before and behind a refused batch: without a sweep, and where it was too long, it is the same
pub record IsKept (old new : IndexView) (ops : List Op) : Type 0 where
  pub settings : settings_of new ≡ settings_of old
  pub contents : contents_of new ≡ contents_of old
  pub leaves : leaves_of new.pages ≡ leaves_of old.pages
  pub untried : (settings_of old).batch_max < length ops → new ≡ old
  pub unswept : is_sweep_due old (length ops) ≡ false → new ≡ old

abbrev pub Changes : IndexView → IndexView → List Op → Result Done Refusal → Type 0
Changes old new ops (Ok done) = IsBehind old new ops done
Changes old new ops (Err refusal) = IsKept old new ops

-- each batch changes what the one before it left
abbrev pub ChangesInTurn : IndexView → IndexView → List (List Op) → List (Result Done Refusal) → Type 0
ChangesInTurn old new [] [] = new ≡ old
ChangesInTurn old new (ops ∷ batches) (outcome ∷ outcomes) = (between : IndexView)
    × (Changes old between ops outcome × ChangesInTurn between new batches outcomes)
ChangesInTurn old new [] (outcome ∷ outcomes) = ⊥
ChangesInTurn old new (ops ∷ batches) [] = ⊥
