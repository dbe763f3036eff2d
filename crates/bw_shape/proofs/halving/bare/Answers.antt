use Rattle.bw_steps.proofs.PlainLemmas.{has_record}
use Rattle.bw_shape.proofs.halving.bare.Goals as goal

pub lose_chain-requires-clause-had : goal.lose_chain-requires-clause-had
lose_chain-requires-clause-had c =
    let on = c.requires.page in
    has_record c.args.tree.now c.args.page c.is_plain.result c.is_plain.ensures c.if-is_plain.false
    (c.know_records.ensures.there c.args.page (record { level = c.args.level; within = on.0; in_level = on.1 }))
