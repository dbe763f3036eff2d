use Rattle.std.proofs.Common.{◌≡◌, ◌∙◌, ap, ap₂, true, fold, []}
use Rattle.std.proofs.lemmas.Result.{IfOk-weaker}
use Rattle.clap.specs.Simple.{App, app_of_fields, on_top}
use Rattle.clap.specs.Words.{app_of, with_rule}
use Rattle.bw_command.specs.CommandLine.{number_rules, program_with}
use Rattle.bw_command.proofs.request.program.Goals as goal

pub returns : goal.returns
returns c =
    let start_is : app_of c.no_binary_name.result ≡ program_with [] =
    ap app_of_fields c.no_binary_name.ensures
    ∙ ap (on_top (λ s. record s { no_binary_name = true }))
    (ap app_of_fields c.override_usage.ensures ∙ ap app_of_fields c.version.ensures
    ∙ ap (on_top (λ s. record s { has_version = true })) (ap app_of_fields c.after_help.ensures ∙ ap app_of_fields c.about.ensures ∙ c.new.ensures.app)) in
    let one = c.in_ok-arg.ensures.shape c.job_argument.ensures.local ∙ ap₂ with_rule start_is c.job_argument.ensures.rule.1 in
    let two = c.in_ok-arg-2.ensures.shape c.file_argument.ensures.local ∙ ap₂ with_rule one c.file_argument.ensures.rule in
    let three = c.in_ok-arg-3.ensures.shape c.flag.ensures.local ∙ ap₂ with_rule two c.flag.ensures.rule in
    let four = c.in_ok-arg-4.ensures.shape c.flag-2.ensures.local ∙ ap₂ with_rule three c.flag-2.ensures.rule in
    let five = c.in_ok-command.ensures.shape c.flag-3.ensures.local ∙ ap₂ with_rule four c.flag-3.ensures.rule in
    IfOk-weaker c.with_limits.result _ _ (λ command is. (c.job_argument.ensures.rule.0, is ∙ ap (λ (a : App). fold with_rule a number_rules) five)) c.with_limits.ensures
