use Rattle.std.proofs.Common.{◌∙◌, ap, subst}
use Rattle.bw_batch.specs.SettingFaults.{first_fault}
use Rattle.bw_batch.specs.Settings.{Settings}
use Rattle.bw_command.proofs.CommandsLemmas.{always_none}
use Rattle.bw_command.proofs.JobsLemmas.{as_told}
use Rattle.bw_command.specs.Jobs.{IsJobOutcome}
use Rattle.bw_command.specs.LimitSettings.{settings_of}
use Rattle.bw_command.proofs.command.run_request.Goals as goal

pub returns-in_default-clause-input : goal.returns-in_default-clause-input
returns-in_default-clause-input g c =
    let request = c.args.request.now in
    let settings = settings_of request.limits in
    let input = g.R.Inlet.remaining c.args.input in
    let old = g.W.Outlet.contents c.args.output.now in
    let new = g.W.Outlet.contents c.run_input.new.output in
    let failures = g.W.Outlet.failures c.args.output.now in
    let after = g.W.Outlet.failures c.run_input.new.output in
    let beside = c.with_beside.ensures ∙ ap (λ (s : Settings). record s { beside = request.beside }) c.in-Ok.ensures.0 in
    let same = c.with_eager-options.ensures ∙ ap (λ (s : Settings). record s { eager = request.eager }) beside in
    let told = subst (λ (s : Settings). IsJobOutcome c.run_input.result s request.job input old new failures after) same c.run_input.ensures in
    always_none (first_fault settings) (always_none request.file (as_told c.run_input.result settings request.beside request.eager request.job input old new failures after told))
