use Rattle.bw_answer.proofs.WriteGroups.{group_between}
use Rattle.bw_answer.proofs.write_groups.group_of.Goals as goal

pub returns-clause-group : goal.returns-clause-group
returns-clause-group c =
    group_between c.args.key.now c.args.grouped.now c.first_of-start.result c.end_of-end.result c.requires.sorted c.end_of-end.ensures.more c.end_of-end.ensures.bound c.first_of-start.ensures.first c.end_of-end.ensures.upto
    c.end_of-end.ensures.behind
