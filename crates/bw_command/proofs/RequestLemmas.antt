-- What is read of the words of a command line.
use Rattle.std.proofs.Common.{◌≡◌, ◌∙◌, ap, refl, arith, ℕ, Bool, true, false, if◌then◌else◌, [], ◌∷◌, Option, Some, None, option_map, unwrap_or, codes}
use Rattle.std.specs.Borrow.{Bor}
use Rattle.std.specs.Str.Parse.{ParsesUnsigned, ExplainsUnsignedError, HasUnsignedDigitsIfOk, digits_value, without_leading_plus}
use Rattle.clap.specs.Words.{ReadsOne, Text, is_simple, is_simple_and_free, first_value, one_text, rows_of}
use Rattle.clap.specs.ValueTests.{is_unsigned_in}
use Rattle.clap.specs.declared.parser.matches.Found.{Found}
use Rattle.clap.specs.declared.builder.value_parser.ValueParser.TheVariants as vp
use Rattle.clap.proofs.ValueTestLemmas.{accepts-Accepts, Accepts-accepts}
use Rattle.clap.proofs.WalkLemmas.{first_value-rows, one_text-rows}
use Rattle.bw_trace.specs.declared.jobs.Job.{Job}
use Rattle.bw_command.specs.CommandLine.{JobWords, program_of, file_of, job_named, job_of, number_by, number_of, path_of}

-- some words for jobs
pub some_words : JobWords
some_words = record {
  words = record {
    ref_ptr = (0, 0);
    now = record { ref_ptr = (0, 0); now = codes "run" } ∷ record { ref_ptr = (0, 0); now = codes "dump" } ∷ record { ref_ptr = (0, 0); now = codes "shape" } ∷ record { ref_ptr = (0, 0); now = codes "picture" } ∷ [];
  };
  are = refl;
}

-- what clap says of its matches and faults holds for the program
pub has_matches : (jobs : JobWords) → is_simple (program_of jobs) ≡ true
has_matches jobs = refl

pub has_faults : (jobs : JobWords) → is_simple_and_free (program_of jobs) ≡ true
has_faults jobs = refl

pub by_job : (f : Found) (r : Option (Bor Text)) (job : Job) → option_map (λ s. s.now) r ≡ first_value f (codes "JOB") → job ≡ job_named (option_map (λ s. s.now) r) → job ≡ job_of (rows_of f)
by_job f r job read is = is ∙ ap job_named (read ∙ first_value-rows f (codes "JOB"))

pub by_path : (f : Found) (r path : Option (Bor Text)) → option_map (λ s. s.now) r ≡ first_value f (codes "FILE")
    → option_map (λ s. s.now) path ≡ path_of (option_map (λ s. s.now) r) → option_map (λ s. s.now) path ≡ file_of (rows_of f)
by_path f r path read is = is ∙ ap path_of (read ∙ first_value-rows f (codes "FILE"))

-- ---- numbers

abbrev ReadsNumber : Text → Option ℕ → Type 0
ReadsNumber = ReadsOne (λ bs r. ParsesUnsigned 64 10 bs r × ExplainsUnsignedError 10 bs r × HasUnsignedDigitsIfOk bs r)

number_read : (text : Text) (r : Option ℕ) → ReadsNumber text r → unwrap_or r 0 ≡ number_by (Some text)
number_read text (Some n) (parsed, explained, digits) =
    let takes : is_unsigned_in 0 18446744073709551615 text ≡ true =
    Accepts-accepts false (vp.Unsigned 0 18446744073709551615) text (parsed.0.0, parsed.0.1, omega arith, let below = parsed.0.1 in omega (arith, below)) in
    rw takes parsed.1
number_read text None (e, read) = go (is_unsigned_in 0 18446744073709551615 text) refl
  where
    go : (b : Bool) → is_unsigned_in 0 18446744073709551615 text ≡ b → 0 ≡ (if b then digits_value 10 (without_leading_plus text) else 0)
    go true takes =
        let accepts = accepts-Accepts false (vp.Unsigned 0 18446744073709551615) text takes in
        absurd (read.0 (accepts.0, accepts.1))
    go false takes = refl

pub by_number : (f : Found) (name : Text) (r : Option ℕ) → (one_text f name ≡ None → r ≡ None) → ((text : Text) → one_text f name ≡ Some text → ReadsNumber text r)
    → unwrap_or r 0 ≡ number_of name (rows_of f)
by_number f name r none some = go (one_text f name) refl ∙ ap number_by (one_text-rows f name)
  where
    go : (o : Option Text) → one_text f name ≡ o → unwrap_or r 0 ≡ number_by o
    go None e = ap (λ v. unwrap_or v 0) (none e)
    go (Some text) e = number_read text r (some text e)
