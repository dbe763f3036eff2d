-- A run of a trace, one batch further.
use Rattle.std.proofs.Common.{◌≡◌, ◌≢◌, Result, Ok, ℕ, ◌+◌, ◌≤◌, Bool, true, false, cond, List, [], ◌∷◌, ◌++◌, Option, Some, None, refl, sym, ap, ◌∙◌, subst, append_assoc, append-nil, length-append, arith}
use Rattle.std.proofs.KnownBytes.{Appends-trans, Appends-nil, Consumes-nil}
use Rattle.std.specs.Io.KnownBytes.{Appends, Consumes, IsAtEnd}
use Rattle.std.specs.Option.{IfSome}
use Rattle.std.specs.List.{count_by, sum_by}
use Rattle.std.proofs.lemmas.List.Sums.{sum_by-append}
use Rattle.std.specs.FinMap.{empty}
use Rattle.bw_model.specs.Values.{ValueBytes}
use Rattle.bw_model.specs.Contents.{Contents}
use Rattle.bw_model.specs.Runs.{Outcome, Answers, AnswersInTurn, left_by, left_in_turn}
use Rattle.bw_model.specs.declared.operations.Op.{Op}
use Rattle.bw_model.specs.declared.outcomes.Refusal.{Refusal}
use Rattle.bw_model.proofs.RunsLemmas.{one_more, left_one_more}
use Rattle.bw_trace.specs.Ends.{IsEndText}
use Rattle.bw_text.specs.declared.faults.Cause.{Cause}
use Rattle.bw_text.specs.declared.places.Place.{Place}
use Rattle.bw_trace.specs.declared.summaries.Summary.{Summary}
use Rattle.bw_trace.specs.Running.{IsRun, left_by_run, refusal_in, summary_of, is_too_long, is_of_memory}
use Rattle.bw_text.specs.Sources.{SourceView}
use Rattle.bw_trace.specs.BatchTexts.{batch_text, batches_text}
use Rattle.bw_trace.specs.declared.jobs.Job.{Job}
use Rattle.bw_text.specs.Traces.{Trace, trace_from, cut_trace_from, no_trace, faulty, behind, StandFor, IsFaultyAt}
use Rattle.bw_text.specs.Writing.{TakesFront}
use Rattle.bw_text.proofs.Writing.{flat_map_one}

-- ---- batches behind batches

behind_more : (batches : List (List Op)) (ops : List Op) (rest : Trace) → behind batches (behind (ops ∷ []) rest) ≡ behind (batches ++ ops ∷ []) rest
behind_more batches ops rest = ap (λ (l : List (List Op)). record { batches = l; fault = rest.fault }) (sym (append_assoc batches (ops ∷ []) rest.batches))

nothing_read : (before : Place) (ended : Bool) → StandFor before [] [] before ended
nothing_read before ended = record { alone = refl; further = λ going more. refl; cut = λ going more. refl }

stand_more : (before mid after : Place) (read more : List ℕ) (batches : List (List Op)) (ops : List Op) (ended ended' : Bool) → ended ≡ false →
    StandFor before read batches mid ended → StandFor mid more (ops ∷ []) after ended' → StandFor before (read ++ more) (batches ++ ops ∷ []) after ended'
stand_more before mid after read more batches ops ended ended' going first second = record {
  alone = first.further going more ∙ ap (behind batches) second.alone ∙ behind_more batches ops no_trace;
  further = λ going' rest. ap (trace_from before) (append_assoc read more rest) ∙ first.further going (more ++ rest)
      ∙ ap (behind batches) (second.further going' rest) ∙ behind_more batches ops (trace_from after rest);
  cut = λ going' rest. ap (cut_trace_from before) (append_assoc read more rest) ∙ first.cut going (more ++ rest)
      ∙ ap (behind batches) (second.cut going' rest) ∙ behind_more batches ops (cut_trace_from after rest);
}

-- ---- what has run so far

pub record HasRun (most : ℕ) (before : Place) (read : List ℕ) (outcomes : List Outcome) (after : Place) (ended : Bool) (contents : Contents ValueBytes) : Type 0 where
  pub batches : List (List Op)
  pub stands : StandFor before read batches after ended
  pub answered : AnswersInTurn most batches empty outcomes
  pub left : contents ≡ left_in_turn batches empty outcomes

pub has_run_none : (most : ℕ) (before : Place) (ended : Bool) (contents : Contents ValueBytes) → contents ≡ empty → HasRun most before [] [] before ended contents
has_run_none most before ended contents none = record { batches = []; stands = nothing_read before ended; answered = tt; left = none }

pub has_run_more : (most : ℕ) (before mid after : Place) (read more : List ℕ) (outcomes : List Outcome) (outcome : Outcome) (ops : List Op) (ended ended' : Bool) (now new : Contents ValueBytes) → ended ≡ false →
    HasRun most before read outcomes mid ended now → StandFor mid more (ops ∷ []) after ended' → Answers most ops now outcome → new ≡ left_by ops now outcome →
    HasRun most before (read ++ more) (outcomes ++ outcome ∷ []) after ended' new
has_run_more most before mid after read more outcomes outcome ops ended ended' now new going so_far next told left = record {
  batches = so_far.batches ++ ops ∷ [];
  stands = stand_more before mid after read more so_far.batches ops ended ended' going so_far.stands next;
  answered = one_more most so_far.batches ops empty outcomes outcome so_far.answered (subst (λ m. Answers most ops m outcome) so_far.left told);
  left = left ∙ ap (λ m. left_by ops m outcome) so_far.left ∙ sym (left_one_more most so_far.batches ops empty outcomes outcome so_far.answered);
}

-- ---- how a run ends

-- at the end of the input
pub is_run_at_end : (most : ℕ) (before mid : Place) (read more : List ℕ) (outcomes : List Outcome) (ended : Bool) (contents : Contents ValueBytes) →
    HasRun most before read outcomes mid ended contents → trace_from mid more ≡ no_trace → (ended ≡ true → more ≡ []) →
    (run : IsRun most (trace_from before (read ++ more)) outcomes no_trace) × (contents ≡ left_by_run run)
is_run_at_end most before mid read more outcomes true contents so_far none over = (
  record {
    batches = so_far.batches;
    reads = ap (λ l. trace_from before (read ++ l)) (over refl) ∙ ap (trace_from before) (append-nil read) ∙ so_far.stands.alone;
    answered = so_far.answered;
  },
  so_far.left,
)
is_run_at_end most before mid read more outcomes false contents so_far none over = (
  record {
    batches = so_far.batches;
    reads = so_far.stands.further refl more ∙ ap (behind so_far.batches) none;
    answered = so_far.answered;
  },
  so_far.left,
)

-- of all that the reader had
pub is_run_of_ended : (most : ℕ) (before : Place) (read : List ℕ) (outcomes : List Outcome) (old now : Option (List ℕ)) →
    IsRun most (trace_from before read) outcomes no_trace → Consumes old now read → IsAtEnd now → IfSome old (λ all. (rest : Trace) × IsRun most (trace_from before all) outcomes rest)
is_run_of_ended most before read outcomes None now run takes end = tt
is_run_of_ended most before read outcomes (Some all) None run takes end = absurd takes
is_run_of_ended most before read outcomes (Some all) (Some rest) run takes end =
    (no_trace, subst (λ l. IsRun most (trace_from before l) outcomes no_trace) (sym (takes ∙ ap (λ l. read ++ l) end ∙ append-nil read)) run)

-- where the input was cut off
pub is_run_at_cut : (most : ℕ) (before mid : Place) (read more : List ℕ) (outcomes : List Outcome) (ended : Bool) (contents : Contents ValueBytes) → ended ≡ false →
    HasRun most before read outcomes mid ended contents → cut_trace_from mid more ≡ no_trace → IsRun most (cut_trace_from before (read ++ more)) outcomes no_trace
is_run_at_cut most before mid read more outcomes ended contents going so_far none = record {
  batches = so_far.batches;
  reads = so_far.stands.cut going more ∙ ap (behind so_far.batches) none;
  answered = so_far.answered;
}

-- at a faulty line, of all that the reader had
pub is_run_at_fault : (most : ℕ) (before mid : Place) (number : ℕ) (cause : Cause) (read more : List ℕ) (outcomes : List Outcome) (ended ended' : Bool) (contents : Contents ValueBytes) (old now : Option (List ℕ)) → ended ≡ false →
    HasRun most before read outcomes mid ended contents → Consumes old now (read ++ more) → IsFaultyAt mid more number cause ended' → (ended' ≡ true → IsAtEnd now) →
    IfSome old (λ all. IsRun most (trace_from before all) outcomes (faulty number cause))
is_run_at_fault most before mid number cause read more outcomes ended ended' contents None now going so_far takes fault over = tt
is_run_at_fault most before mid number cause read more outcomes ended ended' contents (Some all) None going so_far takes fault over = absurd takes
is_run_at_fault most before mid number cause read more outcomes ended ended' contents (Some all) (Some rest) going so_far takes fault over = record {
  batches = so_far.batches;
  reads = ap (trace_from before) (takes ∙ append_assoc read more rest) ∙ so_far.stands.further going (more ++ rest) ∙ ap (behind so_far.batches) (fault rest over);
  answered = so_far.answered;
}

-- anywhere, of all that the reader had
pub is_run_of_all : (most : ℕ) (before mid : Place) (read : List ℕ) (outcomes : List Outcome) (ended : Bool) (contents : Contents ValueBytes) (old now : Option (List ℕ)) →
    HasRun most before read outcomes mid ended contents → Consumes old now read → (ended ≡ true → IsAtEnd now) →
    IfSome old (λ all. (rest : Trace) × IsRun most (trace_from before all) outcomes rest)
is_run_of_all most before mid read outcomes ended contents None now so_far takes over = tt
is_run_of_all most before mid read outcomes ended contents (Some all) None so_far takes over = absurd takes
is_run_of_all most before mid read outcomes true contents (Some all) (Some rest) so_far takes over = (
  no_trace,
  record {
    batches = so_far.batches;
    reads = ap (trace_from before) (takes ∙ ap (λ l. read ++ l) (over refl) ∙ append-nil read) ∙ so_far.stands.alone;
    answered = so_far.answered;
  },
)
is_run_of_all most before mid read outcomes false contents (Some all) (Some rest) so_far takes over = (
  trace_from mid rest,
  record {
    batches = so_far.batches;
    reads = ap (trace_from before) takes ∙ so_far.stands.further refl rest;
    answered = so_far.answered;
  },
)

-- ---- texts and counts

count_more : {X : Type 0} (test : X → Bool) (xs : List X) (x : X) → count_by test (xs ++ x ∷ []) ≡ cond (test x) (count_by test xs + 1) (count_by test xs)
count_more test xs x = sum_by-append (λ y. cond (test y) 1 0) xs (x ∷ []) ∙ last (test x) (sum_by (λ y. cond (test y) 1 0) xs) (sum_by (λ y. cond (test y) 1 0) (x ∷ [])) (omega arith)
  where
    last : (b : Bool) (n more : ℕ) → more ≡ cond b 1 0 → n + more ≡ cond b (n + 1) n
    last true n more e = omega arith
    last false n more e = omega arith

pub texts_more : (job : Job) (old mid new : Option (List ℕ)) (outcomes : List Outcome) (outcome : Outcome) → Appends old mid (batches_text job outcomes) → Appends mid new (batch_text job outcome) →
    Appends old new (batches_text job (outcomes ++ outcome ∷ []))
texts_more job old mid new outcomes outcome first second =
    subst (Appends old new) (sym (flat_map_one (batch_text job) outcomes outcome)) (Appends-trans old mid new (batches_text job outcomes) (batch_text job outcome) first second)

-- a front of the last text was written
pub front_more : (job : Job) (old mid new : Option (List ℕ)) (outcomes : List Outcome) (outcome : Outcome) → Appends old mid (batches_text job outcomes) → TakesFront mid new (batch_text job outcome) →
    TakesFront old new (batches_text job (outcomes ++ outcome ∷ []))
front_more job old mid new outcomes outcome first second = (
  batches_text job outcomes ++ second.0,
  (second.1.0, flat_map_one (batch_text job) outcomes outcome ∙ ap (λ t. batches_text job outcomes ++ t) second.1.1 ∙ sym (append_assoc (batches_text job outcomes) second.0 second.1.0)),
  Appends-trans old mid new (batches_text job outcomes) second.0 first second.2,
)

-- and a text at the end behind them
pub texts_end : (job : Job) (page_max : ℕ) (old mid new : Option (List ℕ)) (outcomes : List Outcome) (contents contents' : Contents ValueBytes) → contents ≡ contents' →
    Appends old mid (batches_text job outcomes) → (end : List ℕ) × IsEndText job page_max contents end × Appends mid new end →
    (end : List ℕ) × IsEndText job page_max contents' end × Appends old new (batches_text job outcomes ++ end)
texts_end job page_max old mid new outcomes contents contents' same first (end, is, last) =
    (end, subst (λ m. IsEndText job page_max m end) same is, Appends-trans old mid new (batches_text job outcomes) end first last)

-- nothing was written of it
pub texts_stay : (job : Job) (old mid new : Option (List ℕ)) (outcomes : List Outcome) → Appends old mid (batches_text job outcomes) → Appends mid new [] → Appends old new (batches_text job outcomes)
texts_stay job old mid new outcomes first none =
    subst (Appends old new) (append-nil (batches_text job outcomes)) (Appends-trans old mid new (batches_text job outcomes) [] first none)

-- all of a text is a front of it
pub front_of_all : (old new : Option (List ℕ)) (text : List ℕ) → Appends old new text → TakesFront old new text
front_of_all old new text all = (text, ([], sym (append-nil text)), all)

-- a summary with one more batch, which was refused or not
abbrev pub with_refusal : Summary → Option Refusal → Summary
with_refusal s refusal = record {
  batches = s.batches + 1;
  long = cond (is_too_long refusal) (s.long + 1) s.long;
  memory = cond (is_of_memory refusal) (s.memory + 1) s.memory;
}

pub count_both : (s t : Summary) (refusal refusal' : Option Refusal) → s ≡ t → refusal ≡ refusal' → with_refusal s refusal ≡ with_refusal t refusal'
count_both s t refusal refusal' same alike = λ i. with_refusal (same i) (alike i)

-- no more were refused than there are
pub fewer_more : (s : Summary) (refusal : Option Refusal) → (s.long ≤ s.batches) × (s.memory ≤ s.batches) →
    ((with_refusal s refusal).long ≤ (with_refusal s refusal).batches) × ((with_refusal s refusal).memory ≤ (with_refusal s refusal).batches)
fewer_more s refusal fewer = (at_most (is_too_long refusal) s.long s.batches fewer.0, at_most (is_of_memory refusal) s.memory s.batches fewer.1)
  where
    at_most : (b : Bool) (m n : ℕ) → m ≤ n → cond b (m + 1) m ≤ n + 1
    at_most true m n le = omega arith
    at_most false m n le = omega arith

-- one more outcome is counted
pub summary_more : (outcomes : List Outcome) (outcome : Outcome) → summary_of (outcomes ++ outcome ∷ []) ≡ with_refusal (summary_of outcomes) (refusal_in outcome)
summary_more outcomes outcome = λ i. record {
  batches = length-append outcomes (outcome ∷ []) i;
  long = count_more (λ o. is_too_long (refusal_in o)) outcomes outcome i;
  memory = count_more (λ o. is_of_memory (refusal_in o)) outcomes outcome i;
}

-- ---- from a source and a writer before to a source and a writer now

pub record RunsTo (job : Job) (most : ℕ) (before now : SourceView) (contents : Contents ValueBytes) (old new : Option (List ℕ)) (summary : Summary) : Type 0 where
  pub read : List ℕ
  pub outcomes : List Outcome
  pub taken : Consumes before.unread now.unread read
  pub has_run : HasRun most before.place read outcomes now.place now.ended contents
  pub written : Appends old new (batches_text job outcomes)
  pub counted : summary ≡ summary_of outcomes

pub runs_to_none : (job : Job) (most : ℕ) (s : SourceView) (contents : Contents ValueBytes) (out : Option (List ℕ)) (summary : Summary) → contents ≡ empty →
    (summary.batches ≡ 0) × ((summary.long ≡ 0) × (summary.memory ≡ 0)) → RunsTo job most s s contents out out summary
runs_to_none job most s contents out summary none zero = record {
  read = [];
  outcomes = [];
  taken = Consumes-nil s.unread;
  has_run = has_run_none most s.place s.ended contents none;
  written = Appends-nil out;
  counted = λ i. record { batches = zero.0 i; long = zero.1.0 i; memory = zero.1.1 i };
}

-- out of memory
pub stops_for_memory : (job : Job) (most : ℕ) (before : Place) (outcomes : List Outcome) (unread old new : Option (List ℕ)) →
    IfSome unread (λ all. (rest : Trace) × IsRun most (trace_from before all) outcomes rest) → TakesFront old new (batches_text job outcomes) →
    IfSome unread (λ all. (outcomes : List Outcome) × ((rest : Trace) × IsRun most (trace_from before all) outcomes rest) × TakesFront old new (batches_text job outcomes))
stops_for_memory job most before outcomes None old new run front = tt
stops_for_memory job most before outcomes (Some all) old new run front = (outcomes, run, front)

-- before anything was read
pub stops_at_start : (job : Job) (most : ℕ) (before : Place) (unread out : Option (List ℕ)) →
    IfSome unread (λ all. (outcomes : List Outcome) × ((rest : Trace) × IsRun most (trace_from before all) outcomes rest) × TakesFront out out (batches_text job outcomes))
stops_at_start job most before None out = tt
stops_at_start job most before (Some all) out = ([], (trace_from before all, record { batches = []; reads = refl; answered = tt }), ([], ([], refl), Appends-nil out))

-- a source that answers no end had not come to it
pub not_over : {X E : Type 0} (ended : Bool) (next : Result (Option X) E) → (ended ≡ true → next ≡ Ok None) → next ≢ Ok None → ended ≡ false
not_over true next over other = absurd (other (over refl))
not_over false next over other = refl
