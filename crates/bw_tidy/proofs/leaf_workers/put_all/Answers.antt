use Rattle.std.proofs.Common.{ap, sym, subst}
use Rattle.bw_shape.specs.Limits.{AreWithinBut}
use Rattle.bw_shape.specs.Tidying.{DueView}
use Rattle.bw_tidy.specs.Findings.{AreListed}
use Rattle.bw_tidy.proofs.PutLeafLemmas.{put_within}
use Rattle.bw_tidy.proofs.leaf_workers.put_all.Goals as goal

pub returns-clause-within : goal.returns-clause-within
returns-clause-within c = λ of_due limits found but.
    let new = c.put_leaves-consolidated.new.tree in
    let findings = c.args.findings.items in
    subst (AreWithinBut limits new) (sym (ap (λ (d : DueView). d.pages) c.keep.ensures))
    (put_within limits c.args.tree.now new findings c.args.due.now.pages c.list_due.new.pages.items of_due found c.list_due.new.begun.items
    (subst (AreListed c.list_due.new.pages.items c.list_due.new.begun.items) c.deref.ensures.value c.in_ok-list_due.ensures.listed) c.put_leaves-consolidated.ensures.same c.put_leaves-consolidated.ensures.put but)
