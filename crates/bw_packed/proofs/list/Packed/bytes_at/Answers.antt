use Rattle.std.proofs.Common.{◌≡◌, ◌-◌, ◌∙◌, List, ℕ, ap, arith, drop, take}
use Rattle.bw_packed.specs.Lists.{start_at}
use Rattle.bw_packed.proofs.Packings.{as_many, is_there}
use Rattle.bw_packed.proofs.list.Packed.bytes_at.Goals as goal

pub start_of-start-requires : goal.start_of-start-requires
start_of-start-requires g c = omega (arith, as_many c.self.inside.bytes.items c.self.inside.entries.items c.args.self.now c.self.view_is)

pub index-requires : goal.index-requires
index-requires g c = omega (arith, as_many c.self.inside.bytes.items c.self.inside.entries.items c.args.self.now c.self.view_is)

pub slice_bounds-result-count : goal.slice_bounds-result-count
slice_bounds-result-count g c =
    let there = is_there c.self.inside.bytes.items c.self.inside.entries.items c.args.self.now c.args.place c.index.result.now c.self.invariant c.self.view_is c.requires c.index.ensures in
    let start : c.start_of-start.result ≡ start_at 0 c.self.inside.entries.items c.args.place = c.start_of-start.ensures ∙ ap (λ es. start_at 0 es c.args.place) c.deref.ensures.value in
    omega (arith, there.rising)

pub slice_bounds-result-start : goal.slice_bounds-result-start
slice_bounds-result-start g c =
    let there = is_there c.self.inside.bytes.items c.self.inside.entries.items c.args.self.now c.args.place c.index.result.now c.self.invariant c.self.view_is c.requires c.index.ensures in
    let start : c.start_of-start.result ≡ start_at 0 c.self.inside.entries.items c.args.place = c.start_of-start.ensures ∙ ap (λ es. start_at 0 es c.args.place) c.deref.ensures.value in
    omega (arith, there.rising)

pub slice_bounds-result-end : goal.slice_bounds-result-end
slice_bounds-result-end g c =
    let there = is_there c.self.inside.bytes.items c.self.inside.entries.items c.args.self.now c.args.place c.index.result.now c.self.invariant c.self.view_is c.requires c.index.ensures in
    let start : c.start_of-start.result ≡ start_at 0 c.self.inside.entries.items c.args.place = c.start_of-start.ensures ∙ ap (λ es. start_at 0 es c.args.place) c.deref.ensures.value in
    omega (arith, there.rising, there.within)

pub returns : goal.returns
returns g c d =
    let there = is_there c.self.inside.bytes.items c.self.inside.entries.items c.args.self.now c.args.place c.index.result.now c.self.invariant c.self.view_is c.requires c.index.ensures in
    let start : c.start_of-start.result ≡ start_at 0 c.self.inside.entries.items c.args.place = c.start_of-start.ensures ∙ ap (λ es. start_at 0 es c.args.place) c.deref.ensures.value in
    ap (λ n. take (c.index.result.now.end - n) (drop n c.deref-2.result.now)) start
    ∙ ap (λ (bs : List ℕ). take (c.index.result.now.end - start_at 0 c.self.inside.entries.items c.args.place) (drop (start_at 0 c.self.inside.entries.items c.args.place) bs)) c.deref-2.ensures.value
    ∙ there.bytes d
