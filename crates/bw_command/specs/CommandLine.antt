-- What the words of a command line ask for.
use Rattle.std.specs.Prelude.{◌≡◌, ℕ, Bool, true, false, if◌then◌else◌, List, [], ◌∷◌, map, Option, Some, None, codes, option_map}
use Rattle.std.specs.Borrow.{Bor}
use Rattle.std.specs.Str.{bytes_eq}
use Rattle.std.specs.Str.Parse.{digits_value, without_leading_plus}
use Rattle.bw_command.specs.declared.request.Limits.{Limits}
use Rattle.bw_command.specs.declared.request.Request.{Request}
use Rattle.bw_trace.specs.declared.jobs.Job.{Job}
use Rattle.bw_trace.specs.declared.jobs.Job.TheVariants.{Run, Dump, Shape, Picture}
use Rattle.clap.specs.Words.{App, Kinds, Row, Rule, Text, fault_of, first_of, matches_of, new_app, new_rule, one_of}
use Rattle.clap.specs.ValueTests.{is_unsigned_in}
use Rattle.clap.specs.declared.builder.action.ArgAction.TheVariants.{SetTrue}
use Rattle.clap.specs.declared.builder.value_parser.ValueParser.TheVariants as vp
use Rattle.clap.specs.declared.error.kind.ErrorKind.{ErrorKind}
use Rattle.clap.specs.declared.error.kind.ErrorKind.TheVariants as kind

-- ---- the arguments

-- the words that stand for a job, somewhere in memory
pub record JobWords : Type 0 where
  pub words : Bor (List (Bor Text))
  pub are : map (λ w. w.now) words.now ≡ codes "run" ∷ codes "dump" ∷ codes "shape" ∷ codes "picture" ∷ []

-- the job, which may not be left out
abbrev pub job_rule : JobWords → Rule
job_rule jobs = record (new_rule (codes "JOB")) { required = true; parser = Some (vp.Names jobs.words) }

-- the path of a trace
abbrev pub file_rule : Rule
file_rule = record (new_rule (codes "FILE")) { defaults = codes "-" ∷ [] }

-- `--NAME`, with no value
abbrev pub flag_rule : Text → Rule
flag_rule name = record (new_rule name) { long = Some name; action = Some SetTrue }

-- `--NAME N`, N a number of 64 bits
abbrev pub number_rule : Text → Text → Rule
number_rule name default = record (new_rule name) {
  long = Some name;
  value_names = 1;
  defaults = default ∷ [];
  parser = Some (vp.Unsigned 0 18446744073709551615);
}

abbrev pub number_rules : List Rule
number_rules =
    number_rule (codes "workers") (codes "4")
    ∷ number_rule (codes "piece") (codes "64")
    ∷ number_rule (codes "chain") (codes "8")
    ∷ number_rule (codes "page-max") (codes "64")
    ∷ number_rule (codes "page-min") (codes "16")
    ∷ number_rule (codes "batch-max") (codes "65536")
    ∷ number_rule (codes "record-max") (codes "1048576")
    ∷ []

-- The program, with no subcommands. It has a version, and its words come without its name.
abbrev pub program_with : List Rule → App
program_with rules = record {
  top = record (new_app (codes "bw_run")).top {
    rules = rules;
    no_binary_name = true;
    has_version = true;
  };
  subs = [];
}

abbrev pub program_of : JobWords → App
program_of jobs = program_with (job_rule jobs ∷ file_rule ∷ flag_rule (codes "stats")
    ∷ flag_rule (codes "beside") ∷ flag_rule (codes "eager") ∷ number_rules)

-- ---- what words ask for

-- What is wrong with them, or help or the version where they ask for it. None where they name a job.
abbrev pub faults_in : JobWords → List Text → Kinds
faults_in jobs words = fault_of (program_of jobs) words

-- the arguments' values, where nothing is wrong
abbrev pub values_in : JobWords → List Text → List Row
values_in jobs words = matches_of (program_of jobs) words

abbrev pub job_named : Option Text → Job
job_named None = Run
job_named (Some word) = if bytes_eq word (codes "dump") then Dump
    else if bytes_eq word (codes "shape") then Shape
    else if bytes_eq word (codes "picture") then Picture
    else Run

abbrev pub job_of : List Row → Job
job_of values = job_named (first_of (codes "JOB") values)

-- `-` is no file
abbrev pub path_of : Option Text → Option Text
path_of None = None
path_of (Some word) = if bytes_eq word (codes "-") then None else Some word

abbrev pub file_of : List Row → Option Text
file_of values = path_of (first_of (codes "FILE") values)

-- the number that a text stands for
abbrev pub number_by : Option Text → ℕ
number_by None = 0
number_by (Some text) = if is_unsigned_in 0 18446744073709551615 text then digits_value 10 (without_leading_plus text)
    else 0

abbrev pub number_of : Text → List Row → ℕ
number_of name values = number_by (one_of name values)

abbrev pub limits_of : List Row → Limits
limits_of values = record {
  workers = number_of (codes "workers") values;
  piece = number_of (codes "piece") values;
  chain_max = number_of (codes "chain") values;
  page_max = number_of (codes "page-max") values;
  page_min = number_of (codes "page-min") values;
  batch_max = number_of (codes "batch-max") values;
  record_max = number_of (codes "record-max") values;
}

-- whether a flag was given, as its value tells
pub record IsFlag (name : Text) (values : List Row) (given : Bool) : Type 0 where
  pub yes : one_of name values ≡ Some (codes "true") → given ≡ true
  pub no : one_of name values ≡ Some (codes "false") → given ≡ false

-- the request that the values make
pub record IsMadeBy (values : List Row) (request : Request) : Type 0 where
  pub job : request.job ≡ job_of values
  pub limits : request.limits ≡ limits_of values
  pub stats : IsFlag (codes "stats") values request.stats
  pub beside : IsFlag (codes "beside") values request.beside
  pub eager : IsFlag (codes "eager") values request.eager
  pub file : option_map (λ path. path.now) request.file ≡ file_of values

-- the request of words in which nothing is wrong
pub record Asks (jobs : JobWords) (words : List Text) (request : Request) : Type 0 where
  pub faultless : faults_in jobs words ≡ []
  pub made : IsMadeBy (values_in jobs words) request

-- the exit status where words name no job: help and the version were asked for
abbrev pub status_for : ErrorKind → ℕ
status_for kind.DisplayHelp = 0
status_for kind.DisplayVersion = 0
status_for _ = 2
