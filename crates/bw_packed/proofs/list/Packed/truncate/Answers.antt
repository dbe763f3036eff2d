use Rattle.std.proofs.Common.{◌∙◌, ◌≤◌, ap, arith, length, sym, take}
use Rattle.std.proofs.lemmas.List.{take_all}
use Rattle.bw_packed.specs.Lists.{start_at}
use Rattle.bw_packed.proofs.Packings.{as_many, truncated, truncated_packed}
use Rattle.bw_packed.proofs.list.Packed.truncate.Goals as goal

pub invariant_of-self : goal.invariant_of-self
invariant_of-self g c =
    let cut = c.truncate.ensures.items ∙ ap (λ n. take n c.self.inside.bytes.items) (c.start_of-end.ensures ∙ ap (λ es. start_at 0 es c.args.len) c.deref.ensures.value) in
    rw (cut, c.truncate-then-len.ensures.items)
    (truncated_packed c.self.inside.bytes.items c.self.inside.entries.items c.args.len c.self.invariant)

pub returns-then-len : goal.returns-then-len
returns-then-len g c =
    let cut = c.truncate.ensures.items ∙ ap (λ n. take n c.self.inside.bytes.items) (c.start_of-end.ensures ∙ ap (λ es. start_at 0 es c.args.len) c.deref.ensures.value) in
    rw (cut, c.truncate-then-len.ensures.items)
    (truncated c.self.inside.bytes.items c.self.inside.entries.items c.args.len c.self.invariant ∙ ap (take c.args.len) c.self.view_is)

pub returns-else-len : goal.returns-else-len
returns-else-len g c =
    let all : length c.args.self.now ≤ c.args.len = omega (arith, as_many c.self.inside.bytes.items c.self.inside.entries.items c.args.self.now c.self.view_is) in
    sym (take_all c.args.len c.args.self.now all)
