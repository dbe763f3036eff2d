use Rattle.std.proofs.Common.{◌∙◌, ap, arith, length}
use Rattle.std.specs.List.{remove}
use Rattle.bw_packed.proofs.Packings.{IsCut, as_many, is_cut, removed, removed_packed}
use Rattle.bw_packed.proofs.list.Packed.remove.Given.{Over}
use Rattle.bw_packed.proofs.list.Packed.remove.Goals as goal
use Rattle.bw_packed.proofs.list.Packed.remove.Goals.{After-index}

-- where the bytes of the entry lie
cut : (g : Over) (c : After-index g) → IsCut c.self.inside.bytes.items c.self.inside.entries.items c.args.place c.start_of-start.result c.index.result.now.end
cut g c =
    let bs = c.self.inside.bytes.items in
    let es = c.self.inside.entries.items in
    is_cut bs es c.deref.result.now c.args.place c.start_of-start.result c.index.result.now c.self.invariant (omega (arith, c.requires, as_many bs es c.args.self.now c.self.view_is)) c.deref.ensures.value c.start_of-start.ensures c.index.ensures

pub start_of-start-requires : goal.start_of-start-requires
start_of-start-requires g c =
    omega (arith, c.requires, as_many c.self.inside.bytes.items c.self.inside.entries.items c.args.self.now c.self.view_is, ap length c.deref.ensures.value)

pub index-requires : goal.index-requires
index-requires g c =
    omega (arith, c.requires, as_many c.self.inside.bytes.items c.self.inside.entries.items c.args.self.now c.self.view_is, c.self.inside.entries.ok.0)

pub remove_bytes-requires-clause-rising : goal.remove_bytes-requires-clause-rising
remove_bytes-requires-clause-rising g c = (cut g (goal.at.remove_bytes-requires-clause-rising g c).After-index).rising

pub remove_bytes-requires-clause-within : goal.remove_bytes-requires-clause-within
remove_bytes-requires-clause-within g c = (cut g (goal.at.remove_bytes-requires-clause-within g c).After-index).within

pub remove_entry-requires-clause-there : goal.remove_entry-requires-clause-there
remove_entry-requires-clause-there g c = (cut g (goal.at.remove_entry-requires-clause-there g c).After-index).there

pub remove_entry-requires-clause-ends : goal.remove_entry-requires-clause-ends
remove_entry-requires-clause-ends g c =
    let part = cut g (goal.at.remove_entry-requires-clause-ends g c).After-index in
    (length c.self.inside.bytes.items, (part.behind, omega (arith, part.rising, part.within, c.self.invariant.fits)))

pub invariant_of-self : goal.invariant_of-self
invariant_of-self g c =
    removed_packed c.self.inside.bytes.items _ c.self.inside.entries.items _ c.args.place c.start_of-start.result c.index.result.now.end c.self.invariant (cut g (goal.at.invariant_of-self g c).After-index) c.remove_bytes.ensures c.remove_entry.ensures

pub returns : goal.returns
returns g c =
    removed c.self.inside.bytes.items _ c.self.inside.entries.items _ c.args.place c.start_of-start.result c.index.result.now.end c.self.invariant (cut g (goal.at.returns g c).After-index) c.remove_bytes.ensures c.remove_entry.ensures
    ∙ ap (λ l. remove l c.args.place) c.self.view_is
