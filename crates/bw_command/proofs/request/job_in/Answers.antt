use Rattle.std.proofs.Common.{◌∙◌, ap, sym, option_map}
use Rattle.clap.specs.Words.{found_of}
use Rattle.bw_trace.specs.declared.jobs.Job.TheVariants.{Run}
use Rattle.bw_command.specs.CommandLine.{job_named}
use Rattle.bw_command.proofs.RequestLemmas.{by_job}
use Rattle.bw_command.proofs.request.job_in.Goals as goal

pub returns-in-Some : goal.returns-in-Some
returns-in-Some c = by_job (found_of c.args.matches.now) c.get_str.result c.job_named.result c.get_str.ensures
    (c.job_named.ensures ∙ ap (λ o. job_named (option_map (λ s. s.now) o)) (sym c.in-Some.is))

pub returns-in-None : goal.returns-in-None
returns-in-None c = by_job (found_of c.args.matches.now) c.get_str.result Run c.get_str.ensures (ap (λ o. job_named (option_map (λ s. s.now) o)) (sym c.in-None.is))
