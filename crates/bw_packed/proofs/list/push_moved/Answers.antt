use Rattle.std.proofs.Common.{◌≤◌, arith, subst, sym}
use Rattle.bw_packed.proofs.Packings.{end_between}
use Rattle.bw_packed.proofs.list.push_moved.Goals as goal

pub moved-requires-clause-behind : goal.moved-requires-clause-behind
moved-requires-clause-behind g c =
    subst (λ e. c.args.from ≤ e.end) (sym c.entry-item.is)
    (end_between c.args.from c.requires.ends.0 c.loop-entry.entry-index c.args.run.now c.entry-item.result c.requires.ends.1.0 c.loop-entry-test.true).0

pub moved-requires-clause-fits : goal.moved-requires-clause-fits
moved-requires-clause-fits g c =
    let within : c.entry-item.result.end ≤ c.requires.ends.0 =
    subst (λ e. e.end ≤ c.requires.ends.0) (sym c.entry-item.is)
    (end_between c.args.from c.requires.ends.0 c.loop-entry.entry-index c.args.run.now c.entry-item.result c.requires.ends.1.0 c.loop-entry-test.true).1 in
    omega (arith, within, c.requires.ends.1.1)
