use Rattle.bw_trace.proofs.jobs.print_end.Goals as goal

pub returns-clause-ok : goal.returns-clause-ok
returns-clause-ok g c = (c.in_ok-text.text.items, c.in_ok-text.ensures, rw c.deref.ensures.value at c.in_ok-put_some.ensures.ok)
