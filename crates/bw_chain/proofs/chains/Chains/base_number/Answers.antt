use Rattle.std.proofs.Common.{sym, ◌∙◌}
use Rattle.bw_chain.specs.Supports.{base_under}
use Rattle.bw_chain.proofs.SupportLemmas.{leads_from, leads_no_more, leads_on}
use Rattle.bw_chain.proofs.chains.Chains.base_number.Goals as goal

pub loop-under-init : goal.loop-under-init
loop-under-init c = leads_from c.args.self.now.bases c.args.self.now.records c.args.head c.requires

pub loop-under-smaller : goal.loop-under-smaller
loop-under-smaller c =
    (leads_on c.args.self.now.records (base_under c.args.self.now.records c.args.head) c.loop-under.word c.in-Some.under (sym c.link.ensures ∙ c.in-Some.is) c.loop-under.invariant).1

pub loop-under-preserved : goal.loop-under-preserved
loop-under-preserved c =
    (leads_on c.args.self.now.records (base_under c.args.self.now.records c.args.head) c.loop-under.word c.in-Some.under (sym c.link.ensures ∙ c.in-Some.is) c.loop-under.invariant).0

pub returns : goal.returns
returns c =
    leads_no_more c.args.self.now.records (base_under c.args.self.now.records c.args.head) c.loop-under.word (sym c.link.ensures ∙ c.in_default.is) c.loop-under.invariant
