use Rattle.std.proofs.Common.{arith}
use Rattle.bw_steps.proofs.steps.lose_chain.Goals as goal

pub consolidate_inner-requires-clause-inner : goal.consolidate_inner-requires-clause-inner
consolidate_inner-requires-clause-inner c =
    let on = c.requires.page in
    record { in_levels = record { level = c.args.level; within = on.0; in_level = on.1 }; raised = omega (arith, c.if-level-eq0.false) }
