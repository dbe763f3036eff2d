-- Runs of batches, one batch further.
use Rattle.std.proofs.Common.{◌≡◌, ℕ, List, [], ◌∷◌, ◌++◌, refl}
use Rattle.bw_model.specs.Values.{ValueBytes}
use Rattle.bw_model.specs.Contents.{Contents}
use Rattle.bw_model.specs.Runs.{Outcome, Answers, AnswersInTurn, left_by, left_in_turn}
use Rattle.bw_model.specs.declared.operations.Op.{Op}

-- the next batch is answered over what the ones before it left
pub one_more : (most : ℕ) (batches : List (List Op)) (ops : List Op) (m : Contents ValueBytes) (outcomes : List Outcome) (outcome : Outcome) →
    AnswersInTurn most batches m outcomes → Answers most ops (left_in_turn batches m outcomes) outcome → AnswersInTurn most (batches ++ ops ∷ []) m (outcomes ++ outcome ∷ [])
one_more most [] ops m [] outcome told here = (here, tt)
one_more most (b ∷ batches) ops m (o ∷ outcomes) outcome told here = (told.0, one_more most batches ops (left_by b m o) outcomes outcome told.1 here)
one_more most [] ops m (o ∷ outcomes) outcome told here = absurd told
one_more most (b ∷ batches) ops m [] outcome told here = absurd told

pub left_one_more : (most : ℕ) (batches : List (List Op)) (ops : List Op) (m : Contents ValueBytes) (outcomes : List Outcome) (outcome : Outcome) →
    AnswersInTurn most batches m outcomes → left_in_turn (batches ++ ops ∷ []) m (outcomes ++ outcome ∷ []) ≡ left_by ops (left_in_turn batches m outcomes) outcome
left_one_more most [] ops m [] outcome told = refl
left_one_more most (b ∷ batches) ops m (o ∷ outcomes) outcome told = left_one_more most batches ops (left_by b m o) outcomes outcome told.1
left_one_more most [] ops m (o ∷ outcomes) outcome told = absurd told
left_one_more most (b ∷ batches) ops m [] outcome told = absurd told
