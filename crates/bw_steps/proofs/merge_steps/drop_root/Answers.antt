use Rattle.bw_steps.proofs.merge_steps.drop_root.Goals as goal

pub returns-clause-ok : goal.returns-clause-ok
returns-clause-ok c =
    let w = c.has_one_child.ensures.0 c.if-not-has_one_child.false in
    (w.0, c.in_ok-lower_root.ensures.ok w.0 w.1)
