use Rattle.std.proofs.Common.{arith}
use Rattle.bw_steps.proofs.PlainLemmas.{has_record}
use Rattle.bw_steps.proofs.steps.may_part.Goals as goal

pub returns-then-not-is_plain-clause-no : goal.returns-then-not-is_plain-clause-no
returns-then-not-is_plain-clause-no c = λ no ok.
    let there = c.know_records.ensures.there c.args.page (record { level = ok.level; within = ok.within; in_level = ok.in_level }) in
    let high = has_record c.args.tree.now c.args.page c.is_plain.result c.is_plain.ensures c.if-not-is_plain.true there in
    omega (arith, high, ok.plain)
