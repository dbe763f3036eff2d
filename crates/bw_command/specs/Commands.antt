-- What the exit status of the program tells.
use Rattle.std.specs.Prelude.{◌≡◌, ◌≢◌, ◌⊎◌, ℕ, List, [], Option, IfSome, IfNone}
use Rattle.bw_batch.specs.SettingFaults.{first_fault}
use Rattle.bw_command.specs.CommandLine.{JobWords, faults_in, file_of, job_of, limits_of, status_for, values_in}
use Rattle.bw_command.specs.Jobs.{IsJobStatus, IsJobOutcome}
use Rattle.bw_command.specs.LimitSettings.{settings_of}
use Rattle.clap.specs.Words.{IsAmong, Text}
use Rattle.clap.specs.declared.error.kind.ErrorKind.{ErrorKind}

-- 1 may also say that memory ran out while the words were read.
pub record IsCommandOutcome (status : ℕ) (jobs : JobWords) (words : List Text) (text old new : Option (List ℕ))
    (failures after : ℕ) : Type 0 where
  -- words that name no job
  pub faulty : faults_in jobs words ≢ [] → (status ≡ 1)
      ⊎ ((kind : ErrorKind) × IsAmong kind (faults_in jobs words) × (status ≡ status_for kind))
  -- an option out of its range
  pub limits : faults_in jobs words ≡ [] →
      IfSome (first_fault (settings_of (limits_of (values_in jobs words)))) (λ _. (status ≡ 1) ⊎ (status ≡ 2))
  -- a job on a file or on the input
  pub job : faults_in jobs words ≡ [] → IfNone (first_fault (settings_of (limits_of (values_in jobs words))))
      (IsJobStatus status)
  pub input : faults_in jobs words ≡ [] →
      IfNone (first_fault (settings_of (limits_of (values_in jobs words)))) (IfNone (file_of (values_in jobs words))
      (IsJobOutcome status (settings_of (limits_of (values_in jobs words)))
      (job_of (values_in jobs words)) text old new failures after))
  -- at 2 nothing was written
  pub unwritten : status ≡ 2 → new ≡ old
