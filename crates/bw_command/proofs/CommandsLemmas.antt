-- What the exit status tells, by what was made of the words.
use Rattle.std.proofs.Common.{◌≡◌, ◌⊎◌, ap, sym, subst, inl, inr, arith, ℕ, List, [], Option, Some, None, IfSome, IfNone, option_map}
use Rattle.std.specs.Borrow.{Bor}
use Rattle.bw_batch.specs.SettingFaults.{first_fault}
use Rattle.bw_batch.specs.Settings.{Settings}
use Rattle.bw_command.proofs.JobsLemmas.{nothing_done}
use Rattle.bw_command.specs.Commands.{IsCommandOutcome}
use Rattle.bw_command.specs.CommandLine.{Asks, JobWords, faults_in, file_of, job_of, limits_of, status_for, values_in}
use Rattle.bw_command.specs.Jobs.{IsCut, IsJobStatus, IsOutOfMemory, IsJobOutcome}
use Rattle.bw_command.specs.LimitSettings.{settings_of}
use Rattle.bw_command.specs.declared.request.Request.{Request}
use Rattle.bw_trace.specs.declared.jobs.Job.{Job}
use Rattle.clap.specs.Words.{HasKind, IsAmong, Kinds, Text, kind_of}
use Rattle.clap.specs.declared.error.Error.{Error}
use Rattle.clap.specs.declared.error.kind.ErrorKind.TheVariants.{OutOfMemory}

if_some : {X : Type 0} {P Q : Type 0} (o : Option X) → (P → Q) → IfSome o (λ _. P) → IfSome o (λ _. Q)
if_some None f p = tt
if_some (Some x) f p = f p

if_none : {X : Type 0} {P Q : Type 0} (o : Option X) → (P → Q) → IfNone o P → IfNone o Q
if_none None f p = f p
if_none (Some x) f p = tt

always_some : {X : Type 0} {P : Type 0} (o : Option X) → P → IfSome o (λ _. P)
always_some None p = tt
always_some (Some x) p = p

pub always_none : {X : Type 0} {P : Type 0} (o : Option X) → P → IfNone o P
always_none None p = p
always_none (Some x) p = tt

without_path : (P : Type 0) (path : Option (Bor Text)) (file : Option Text) → option_map (λ p. p.now) path ≡ file → IfNone path P → IfNone file P
without_path P None None is p = p
without_path P None (Some text) is p = tt
without_path P (Some path) None is p = absurd cc
without_path P (Some path) (Some text) is p = tt

-- ---- words that ask for a job

module _ (status : ℕ) (jobs : JobWords) (words : List Text) (text old new : Option (List ℕ)) (failures after : ℕ) where
  pub by_request : (request : Request) → Asks jobs words request
      → IfSome (first_fault (settings_of request.limits)) (λ _. status ≡ 2)
      → IfNone (first_fault (settings_of request.limits)) (IsJobStatus status)
      → IfNone (first_fault (settings_of request.limits)) (IfNone request.file (IsJobOutcome status (settings_of request.limits) request.job text old new failures after))
      → (status ≡ 2 → new ≡ old) → IsCommandOutcome status jobs words text old new failures after
  by_request request asks limits job input unwritten =
      let values = values_in jobs words in
      let made = asks.made in
      let settings : settings_of request.limits ≡ settings_of (limits_of values) = ap settings_of made.limits in
      let of_job = subst (λ (j : Job). IfNone (first_fault (settings_of request.limits)) (IfNone request.file (IsJobOutcome status (settings_of request.limits) j text old new failures after)))
      made.job input in
      let of_settings = subst (λ (s : Settings). IfNone (first_fault s) (IfNone request.file (IsJobOutcome status s (job_of values) text old new failures after))) settings of_job in
      record {
        faulty = λ wrong. absurd (wrong asks.faultless);
        limits = λ _. if_some (first_fault (settings_of (limits_of values))) inr (subst (λ (s : Settings). IfSome (first_fault s) (λ _. status ≡ 2)) settings limits);
        job = λ _. subst (λ (s : Settings). IfNone (first_fault s) (IsJobStatus status)) settings job;
        input = λ _. if_none (first_fault (settings_of (limits_of values))) (without_path _ request.file (file_of values) made.file) of_settings;
        unwritten = unwritten;
      }

  -- ---- words that name no job, or for which there is no memory

  untouched : (settings : Settings) (job : Job) → new ≡ old → (text' : Option (List ℕ)) → IfSome text' (λ bytes. IsCut settings job bytes old new ⊎ IsOutOfMemory settings job bytes old new)
  untouched settings job same None = tt
  untouched settings job same (Some bytes) =
      inr (subst (λ (now : Option (List ℕ)). IsOutOfMemory settings job bytes old now) (sym same) (nothing_done settings job (Some bytes) old))

  tells_one : (settings : Settings) (job : Job) → status ≡ 1 → new ≡ old → IsJobOutcome status settings job text old new failures after
  tells_one settings job one same = record {
    one_of = inr (inl one);
    done = λ other. absurd (elim other [ inl e ↦ omega (arith, e, one) | inr e ↦ omega (arith, e, one) ]);
    line = λ e. absurd (omega (arith, e, one));
    failed = λ _. inr (untouched settings job same text);
  }

  pub by_error : (error : Error) → HasKind (faults_in jobs words) error → (kind_of error ≡ OutOfMemory → (status ≡ 1) × (new ≡ old))
      → (status ≡ 1) ⊎ (status ≡ status_for (kind_of error)) → (status ≡ 2 → new ≡ old) → IsCommandOutcome status jobs words text old new failures after
  by_error error kinds memory shown unwritten = record {
    faulty = λ _. elim shown [
      | inl one ↦ inl one
      | inr is ↦ elim kinds [ inl m ↦ inl (memory m).0 | inr among ↦ inr (kind_of error, among, is) ]
    ];
    limits = λ none. always_some (first_fault (settings_of (limits_of (values_in jobs words)))) (inl (memory (of_memory none)).0);
    job = λ none. always_none (first_fault (settings_of (limits_of (values_in jobs words)))) (inr (inl (memory (of_memory none)).0));
    input = λ none. always_none (first_fault (settings_of (limits_of (values_in jobs words)))) (always_none (file_of (values_in jobs words))
        (tells_one (settings_of (limits_of (values_in jobs words))) (job_of (values_in jobs words)) (memory (of_memory none)).0 (memory (of_memory none)).1));
    unwritten = unwritten;
  }
    where
      of_memory : faults_in jobs words ≡ [] → kind_of error ≡ OutOfMemory
      of_memory none = elim kinds [
        | inl m ↦ m
        | inr among ↦ absurd (subst (λ (ks : Kinds). IsAmong (kind_of error) ks) none among)
      ]
