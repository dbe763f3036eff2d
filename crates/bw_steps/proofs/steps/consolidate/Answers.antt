use Rattle.std.proofs.Common.{refl}
use Rattle.bw_steps.proofs.PlainLemmas.{has_record, plain_off}
use Rattle.bw_steps.proofs.steps.consolidate.Goals as goal

pub returns-in_default-clause-ok : goal.returns-in_default-clause-ok
returns-in_default-clause-ok c = (refl, plain_off c.args.tree.now c.args.page c.know_records.ensures.placed c.in_default.ensures.level)

pub lose_chain-requires-clause-had : goal.lose_chain-requires-clause-had
lose_chain-requires-clause-had c = has_record c.args.tree.now c.args.page c.is_plain.result c.is_plain.ensures c.if-is_plain.false c.in-Some.ensures.there
