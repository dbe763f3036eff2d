use Rattle.std.proofs.Common.{rules, ◌∙◌, ap, true, Some}
use Rattle.clap.specs.Words.{Rule, rule_of}
use Rattle.clap.specs.declared.builder.value_parser.ValueParser.TheVariants as vp
use Rattle.bw_command.specs.CommandLine.{JobWords}
use Rattle.bw_command.proofs.request.job_argument.Goals as goal

pub returns-clause-rule : goal.returns-clause-rule
returns-clause-rule c =
    let jobs : JobWords = record { words = c.as_slice.result; are = search rules } in
    let given = c.value_parser.ensures.given in (
      jobs,
      ap rule_of c.help.ensures ∙ ap rule_of c.value_parser.ensures.others
          ∙ ap (λ p. record (rule_of c.required.result) { parser = p }) (given.1 ∙ ap Some given.2)
          ∙ ap (λ (r : Rule). record r { parser = Some (vp.Names c.as_slice.result) }) (ap rule_of c.required.ensures ∙ ap (λ (r : Rule). record r { required = true }) c.new.ensures.rule),
    )
