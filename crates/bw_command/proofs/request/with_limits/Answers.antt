use Rattle.std.proofs.Common.{◌∙◌, ap, ap₂}
use Rattle.std.proofs.lemmas.Result.{IfOk-weaker}
use Rattle.clap.specs.Words.{app_of, with_rule}
use Rattle.bw_command.proofs.request.with_limits.Goals as goal

pub returns : goal.returns
returns c =
    let one = c.in_ok-arg.ensures.shape c.number.ensures.local ∙ ap (with_rule (app_of c.args.command)) c.number.ensures.rule in
    let two = c.in_ok-arg-2.ensures.shape c.number-2.ensures.local ∙ ap₂ with_rule one c.number-2.ensures.rule in
    let three = c.in_ok-arg-3.ensures.shape c.number-3.ensures.local ∙ ap₂ with_rule two c.number-3.ensures.rule in
    let four = c.in_ok-arg-4.ensures.shape c.number-4.ensures.local ∙ ap₂ with_rule three c.number-4.ensures.rule in
    let five = c.in_ok-arg-5.ensures.shape c.number-5.ensures.local ∙ ap₂ with_rule four c.number-5.ensures.rule in
    let six = c.in_ok-arg-6.ensures.shape c.number-6.ensures.local ∙ ap₂ with_rule five c.number-6.ensures.rule in
    IfOk-weaker c.arg-7.result _ _ (λ command adds. adds.shape c.number-7.ensures.local ∙ ap₂ with_rule six c.number-7.ensures.rule) c.arg-7.ensures
