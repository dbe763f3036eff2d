use Rattle.std.proofs.Common.{◌≡◌, ◌++◌, ap, arith, length, sym, take, ◌∙◌}
use Rattle.std.specs.List.{zip}
use Rattle.bw_delta.specs.Arenas.{ArenaView}
use Rattle.bw_delta.proofs.Zips.{length_zipped, whole, zip_append}
use Rattle.bw_delta.proofs.arena.Arena.append_all.Goals as goal
use Rattle.bw_delta.proofs.arena.Arena.append_all.Goals.{After-truncate}

-- the changes as they were
cut : (c : After-truncate) → c.truncate.new.self.items ≡ c.self.inside.deltas.items
cut c =
    let deltas = c.self.inside.deltas.items in
    let both = length_zipped deltas c.self.inside.links.items c.self.invariant in
    let seen = ap (λ (a : ArenaView). length a.records) c.self.view_is in
    c.truncate.ensures ∙ ap (take c.len-before.result) c.in_ok-append.ensures.ok
    ∙ whole c.len-before.result deltas c.other.inside.deltas.items (omega (arith, both, seen, c.len-before.ensures))

pub invariant_of-self-in-Err : goal.invariant_of-self-in-Err
invariant_of-self-in-Err c = ap length c.in-Err.ensures.err ∙ c.self.invariant ∙ sym (ap length (cut c))

pub returns-in-Err-clause-err : goal.returns-in-Err-clause-err
returns-in-Err-clause-err c =
    ap (λ l. zip l c.append-2.new.self.items) (cut c) ∙ ap (zip c.self.inside.deltas.items) c.in-Err.ensures.err
    ∙ ap (λ (a : ArenaView). a.records) c.self.view_is

pub returns-clause-ok : goal.returns-clause-ok
returns-clause-ok c =
    let deltas = c.self.inside.deltas.items in
    let links = c.self.inside.links.items in
    let more = c.other.inside.deltas.items in
    let others = c.other.inside.links.items in
    ap (λ l. zip l c.append-2.new.self.items) c.in_ok-append.ensures.ok ∙ ap (zip (deltas ++ more)) c.in_default.ensures.ok
    ∙ zip_append deltas links more others c.self.invariant
    ∙ ap (λ (a : ArenaView). a.records ++ zip more others) c.self.view_is
    ∙ ap (λ (a : ArenaView). c.args.self.now.records ++ a.records) c.other.view_is
