use Rattle.std.proofs.Common.{◌∙◌, sym, ap}
use Rattle.bw_level.specs.Changes.{change}
use Rattle.bw_level.specs.Turns.{slot_without_writes}
use Rattle.bw_chain.proofs.ChainLemmas.{link_is, no_record, under_put, under_other, on_base}
use Rattle.bw_chain.proofs.chains.Chains.under_writes.Goals as goal

pub returns-in_default-clause-same : goal.returns-in_default-clause-same
returns-in_default-clause-same c =
    c.lowest-word.ensures.same ∙ ap slot_without_writes (on_base c.args.self.now.bases c.args.self.now.records c.lowest-word.result c.lowest-word.ensures.ends (sym c.in_default.ensures) ∙ sym c.base.ensures)

pub returns-in-Put-clause-same : goal.returns-in-Put-clause-same
returns-in-Put-clause-same c =
    let bases = c.args.self.now.bases in
    let records = c.args.self.now.records in
    let u = under_put bases records c.lowest-word.result c.in-Some.under c.in-Some.delta.now c.in-Put.field-0 c.lowest-word.ensures.ends (sym c.in-Some.ensures) c.in-Put.is in
    let last = no_record records c.in-Some.under (c.lowest-word.ensures.last c.in-Some.under (link_is records c.lowest-word.result (c.in-Some.delta.now, c.in-Some.under) (sym c.in-Some.ensures))) in
    c.lowest-word.ensures.same ∙ u.same ∙ ap slot_without_writes (on_base bases records c.in-Some.under u.ends last ∙ sym c.base-in-Put.ensures)

pub returns-in_default-delta : goal.returns-in_default-delta
returns-in_default-delta c =
    let bases = c.args.self.now.bases in
    let u = under_other bases c.args.self.now.records c.lowest-word.result c.in-Some.under c.in-Some.delta.now c.lowest-word.ensures.ends (sym c.in-Some.ensures) c.in_default-delta.not-Put in
    record { same = c.lowest-word.ensures.same ∙ ap slot_without_writes (u.0 ∙ ap (change bases c.in-Some.delta.now) (sym c.base-in_default-delta.ensures)); other = u.1 }
