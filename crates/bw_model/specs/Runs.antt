-- Runs of batches, each accepted or refused.
use Rattle.std.specs.Prelude.{◌≡◌, ℕ, ◌<◌, ◌≤◌, List, [], ◌∷◌, length, Result, Ok, Err}
use Rattle.bw_model.specs.Values.{ValueBytes}
use Rattle.bw_model.specs.Contents.{Contents}
use Rattle.bw_model.specs.Model.{replies_of, contents_after}
use Rattle.bw_model.specs.declared.operations.Op.{Op}
use Rattle.bw_model.specs.declared.operations.Reply.{Reply}
use Rattle.bw_model.specs.declared.outcomes.Refusal.{Refusal}
use Rattle.bw_model.specs.declared.outcomes.Refusal.TheVariants.{TooLong, Memory}

-- what became of a batch: its replies, or why it was refused
abbrev pub Outcome : Type 0
Outcome = Result (List Reply) Refusal

-- An accepted batch is answered operation by operation. A batch is refused for its length exactly where it
-- has more operations than the most, and else only where memory runs out.
abbrev pub Answers : ℕ → List Op → Contents ValueBytes → Outcome → Type 0
Answers most ops m (Ok replies) = (length ops ≤ most) × (replies ≡ replies_of ops m)
Answers most ops m (Err (TooLong n limit)) = (most < length ops) × (n ≡ length ops) × (limit ≡ most)
Answers most ops m (Err Memory) = length ops ≤ most

-- a refused batch leaves what was there
abbrev pub left_by : List Op → Contents ValueBytes → Outcome → Contents ValueBytes
left_by ops m (Ok replies) = contents_after ops m
left_by ops m (Err refusal) = m

-- each batch is answered over what the batches before it left
abbrev pub AnswersInTurn : ℕ → List (List Op) → Contents ValueBytes → List Outcome → Type 0
AnswersInTurn most [] m [] = Unit {0}
AnswersInTurn most (ops ∷ batches) m (outcome ∷ outcomes) = Answers most ops m outcome
    × AnswersInTurn most batches (left_by ops m outcome) outcomes
AnswersInTurn most [] m (outcome ∷ outcomes) = ⊥
AnswersInTurn most (ops ∷ batches) m [] = ⊥

-- what is there in the end
abbrev pub left_in_turn : List (List Op) → Contents ValueBytes → List Outcome → Contents ValueBytes
left_in_turn [] m outcomes = m
left_in_turn (ops ∷ batches) m [] = m
left_in_turn (ops ∷ batches) m (outcome ∷ outcomes) = left_in_turn batches (left_by ops m outcome) outcomes
