use Rattle.std.proofs.Common.{ap, ◌∙◌, Option, Some}
use Rattle.std.specs.Borrow.{Bor}
use Rattle.bw_page.specs.declared.pages.Page.{Page}
use Rattle.bw_delta.specs.declared.deltas.Delta.{Delta}
use Rattle.bw_level.specs.Changes.{change, plain}
use Rattle.bw_chain.specs.Chains.{page_at}
use Rattle.bw_level.specs.Turns.{slot_without_writes, over, plain_at}
use Rattle.bw_level.proofs.TurnLemmas.{turns_alike}
use Rattle.bw_chain.proofs.chains.Chains.turn_at.Goals as goal

pub returns-in-Some-Some : goal.returns-in-Some-Some
returns-in-Some-Some c =
    let bases = c.args.self.now.bases in
    turns_alike c.args.target (page_at c.args.self.now c.args.head) (change bases c.in-Some-Some.delta.now (plain c.in-Some-Some.base.now)) c.turn_over.result
    (c.under_writes.ensures.same ∙ ap (λ (o : Option (Bor Delta)). slot_without_writes (over bases o (plain_at c.under_writes.result.1))) c.in-Some-Some.is-0 ∙ ap (λ (o : Option (Bor Page)). slot_without_writes (over bases (Some c.in-Some-Some.delta) (plain_at o))) c.in-Some-Some.is-1)
    (c.turn_over.ensures bases)

pub returns-in-None-Some : goal.returns-in-None-Some
returns-in-None-Some c =
    let bases = c.args.self.now.bases in
    turns_alike c.args.target (page_at c.args.self.now c.args.head) (plain c.in-None-Some.base.now) c.turn_plain.result
    (c.under_writes.ensures.same ∙ ap (λ (o : Option (Bor Delta)). slot_without_writes (over bases o (plain_at c.under_writes.result.1))) c.in-None-Some.is-0 ∙ ap (λ (o : Option (Bor Page)). slot_without_writes (plain_at o)) c.in-None-Some.is-1)
    c.turn_plain.ensures
