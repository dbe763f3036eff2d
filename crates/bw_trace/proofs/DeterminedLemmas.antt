-- Two runs of one trace.
use Rattle.std.proofs.Common.{◌≡◌, ℕ, Ok, Err, List, [], ◌∷◌, Option, refl, cond, sym, ap, ap₂, ◌∙◌, subst, append-nil, arith}
use Rattle.std.proofs.lemmas.List.Sums.{sum_by-cons}
use Rattle.std.specs.List.{sum_by}
use Rattle.std.specs.FinMap.{empty, entries}
use Rattle.bw_model.specs.Contents.{Contents}
use Rattle.bw_model.specs.Runs.{Outcome, Answers, AnswersInTurn, left_by, left_in_turn}
use Rattle.bw_model.specs.Values.{ValueBytes}
use Rattle.bw_model.specs.declared.operations.Op.{Op}
use Rattle.bw_model.specs.declared.outcomes.Refusal.TheVariants.{TooLong, Memory}
use Rattle.bw_trace.specs.Determined.{HaveOneEnd, TextsAreDetermined, stopped}
use Rattle.bw_trace.specs.Ends.{IsOfContents}
use Rattle.bw_trace.specs.Running.{IsRun, is_of_memory, refusal_in, left_by_run, summary_of}
use Rattle.bw_text.specs.Texts.{contents_text}
use Rattle.bw_trace.specs.BatchTexts.{batches_text}
use Rattle.bw_text.specs.Traces.{Trace}
use Rattle.bw_trace.specs.declared.jobs.Job.{Job}
use Rattle.bw_trace.specs.declared.jobs.Job.TheVariants.{Run, Dump, Shape, Picture}

-- 1 where an outcome is a refusal as out of memory
abbrev refused : Outcome → ℕ
refused outcome = cond (is_of_memory (refusal_in outcome)) 1 0

-- how many are
abbrev all_refused : List Outcome → ℕ
all_refused = sum_by refused

same_outcome : (most : ℕ) (ops : List Op) (m : Contents ValueBytes) (outcome other : Outcome) → Answers most ops m outcome → Answers most ops m other →
    refused outcome ≡ 0 → refused other ≡ 0 → outcome ≡ other
same_outcome most ops m (Ok replies) (Ok replies') a b none none' = ap Ok (a.1 ∙ sym b.1)
same_outcome most ops m (Ok replies) (Err (TooLong n limit)) a b none none' = absurd (omega (arith, a.0, b.0))
same_outcome most ops m (Ok replies) (Err Memory) a b none none' = absurd (omega (arith, none'))
same_outcome most ops m (Err (TooLong n limit)) (Ok replies) a b none none' = absurd (omega (arith, a.0, b.0))
same_outcome most ops m (Err (TooLong n limit)) (Err (TooLong n' limit')) a b none none' = ap₂ (λ k l. Err (TooLong k l)) (a.1 ∙ sym b.1) (a.2 ∙ sym b.2)
same_outcome most ops m (Err (TooLong n limit)) (Err Memory) a b none none' = absurd (omega (arith, none'))
same_outcome most ops m (Err Memory) other a b none none' = absurd (omega (arith, none))

same_outcomes : (most : ℕ) (batches : List (List Op)) (m : Contents ValueBytes) (outcomes others : List Outcome) → AnswersInTurn most batches m outcomes →
    AnswersInTurn most batches m others → all_refused outcomes ≡ 0 → all_refused others ≡ 0 → outcomes ≡ others
same_outcomes most [] m [] [] a b none none' = refl
same_outcomes most [] m [] (o ∷ os) a b none none' = absurd b
same_outcomes most [] m (o ∷ os) others a b none none' = absurd a
same_outcomes most (ops ∷ batches) m [] others a b none none' = absurd a
same_outcomes most (ops ∷ batches) m (o ∷ os) [] a b none none' = absurd b
same_outcomes most (ops ∷ batches) m (o ∷ os) (p ∷ ps) (a, answers) (b, others) none none' =
    let one = sum_by-cons refused o os in
    let other = sum_by-cons refused p ps in
    let first : o ≡ p = same_outcome most ops m o p a b (omega (arith, none, one)) (omega (arith, none', other)) in
    let rest : os ≡ ps = same_outcomes most batches (left_by ops m o) os ps answers (subst (λ (q : Outcome). AnswersInTurn most batches (left_by ops m q) ps) (sym first) others)
    (omega (arith, none, one)) (omega (arith, none', other)) in
    ap₂ (λ q qs. q ∷ qs) first rest

batches_are : (most : ℕ) (trace : Trace) (fault : Option _) (outcomes : List Outcome) (run : IsRun most trace outcomes (stopped fault)) → run.batches ≡ trace.batches
batches_are most trace fault outcomes run = sym (append-nil run.batches) ∙ ap (λ (t : Trace). t.batches) (sym run.reads)

one_end : (job : Job) (contents others : Contents ValueBytes) → contents ≡ others → IsOfContents job → HaveOneEnd job contents others
one_end Run contents others same of page_max page_max' text text' is is' = is ∙ sym is'
one_end Dump contents others same of page_max page_max' text text' is is' = is ∙ ap (λ m. contents_text (entries m)) same ∙ sym is'
one_end Shape contents others same of page_max page_max' text text' is is' = absurd of
one_end Picture contents others same of page_max page_max' text text' is is' = absurd of

pub determined : TextsAreDetermined
determined most trace fault job outcomes others run other none none' =
    let batches : run.batches ≡ other.batches = batches_are most trace fault outcomes run ∙ sym (batches_are most trace fault others other) in
    let answered = subst (λ (bs : List (List Op)). AnswersInTurn most bs empty outcomes) batches run.answered in
    let same = same_outcomes most other.batches empty outcomes others answered other.answered none none' in
    let left : left_by_run run ≡ left_by_run other = ap₂ (λ (bs : List (List Op)) (os : List Outcome). left_in_turn bs empty os) batches same in (
      ap summary_of same,
      ap (batches_text job) same,
      left,
      one_end job (left_by_run run) (left_by_run other) left,
    )
