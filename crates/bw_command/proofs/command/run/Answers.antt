use Rattle.bw_command.proofs.JobsLemmas.{all_done, nothing_done}
use Rattle.bw_command.proofs.command.run.Goals as goal

pub returns-in_err-source-clause-memory : goal.returns-in_err-source-clause-memory
returns-in_err-source-clause-memory g c = λ _. nothing_done c.args.options c.args.job (g.R.Inlet.remaining c.args.input) (g.W.Outlet.contents c.args.output.now)

pub returns-clause-done : goal.returns-clause-done
returns-clause-done g c =
    let source = c.in_ok-source.source in
    all_done c.args.options c.args.job source.place (g.R.Inlet.remaining c.args.input) source.unread c.run_trace.new.source.unread (g.W.Outlet.contents c.args.output.now)
    (g.W.Outlet.contents c.run_trace.new.out) c.run_trace.result c.in_ok-source.ensures.fresh.0 c.in_ok-source.ensures.unread c.run_trace.ensures.done
