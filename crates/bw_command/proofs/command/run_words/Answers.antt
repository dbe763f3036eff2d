use Rattle.std.proofs.Common.{map}
use Rattle.bw_command.proofs.CommandsLemmas.{by_error, by_request}
use Rattle.bw_command.proofs.command.run_words.Goals as goal

pub returns-in-Ok-clause-answers : goal.returns-in-Ok-clause-answers
returns-in-Ok-clause-answers g c =
    let asked = c.request_in.ensures in
    let asks = rw c.in-Ok.is at asked.1 in
    let run = c.run_request.ensures in (
      asked.0,
      by_request c.run_request.result asked.0 (map (λ w. w.now) c.args.words.now) (g.R.Inlet.remaining c.args.input) (g.W.Outlet.contents c.args.output.now)
          (g.W.Outlet.contents c.run_request.new.output) (g.W.Outlet.failures c.args.output.now) (g.W.Outlet.failures c.run_request.new.output) c.in-Ok.request asks
          run.limits run.job run.input run.unwritten,
    )

pub returns-in-Err-clause-answers : goal.returns-in-Err-clause-answers
returns-in-Err-clause-answers g c =
    let asked = c.request_in.ensures in
    let kinds = rw c.in-Err.is at asked.1 in
    let shown = c.show.ensures in (
      asked.0,
      by_error c.show.result asked.0 (map (λ w. w.now) c.args.words.now) (g.R.Inlet.remaining c.args.input) (g.W.Outlet.contents c.args.output.now)
          (g.W.Outlet.contents c.show.new.output) (g.W.Outlet.failures c.args.output.now) (g.W.Outlet.failures c.show.new.output) c.in-Err.error kinds
          shown.memory shown.shown shown.unwritten,
    )
