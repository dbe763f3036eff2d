use Rattle.std.proofs.Common.{length, ap, sym, arith}
use Rattle.bw_chain.proofs.ChainLemmas.{link_is, no_record}
use Rattle.bw_chain.proofs.PageScanLemmas.{passed_write}
use Rattle.bw_chain.proofs.ReadingLemmas.{none_at_base, none_at_other}
use Rattle.bw_chain.proofs.chains.Chains.count_lowest.Goals as goal

pub returns-in-Put-clause-count : goal.returns-in-Put-clause-count
returns-in-Put-clause-count c =
    let self = c.args.self.now in
    let word = c.args.word in
    let under = c.in-Some.field-0-1 in
    let at = sym c.in-Some.ensures in
    let p = passed_write self.bases self.records word under c.in-Some.delta.now c.in-Put.field-0 c.requires.ends c.requires.leaf at c.in-Put.is in
    let below = c.requires.last under (link_is self.records word (c.in-Some.delta.now, under) at) in
    let nothing = none_at_base self.bases self.records under p.ends (no_record self.records under below) in
    omega (arith, ap length p.writes, ap length nothing)

pub returns-in_default-delta-clause-count : goal.returns-in_default-delta-clause-count
returns-in_default-delta-clause-count c =
    sym (ap length (none_at_other c.args.self.now.bases c.args.self.now.records c.args.word c.in-Some.field-0-1 c.in-Some.delta.now c.requires.ends (sym c.in-Some.ensures) c.in_default-delta.not-Put))

pub returns-in_default-clause-count : goal.returns-in_default-clause-count
returns-in_default-clause-count c =
    sym (ap length (none_at_base c.args.self.now.bases c.args.self.now.records c.args.word c.requires.ends (sym c.in_default.ensures)))
