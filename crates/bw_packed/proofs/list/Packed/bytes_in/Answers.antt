use Rattle.std.proofs.Common.{arith}
use Rattle.bw_packed.proofs.Packings.{as_many, is_run, run_bytes}
use Rattle.bw_packed.proofs.list.Packed.bytes_in.Goals as goal

pub start_of-requires : goal.start_of-requires
start_of-requires g c = omega (arith, as_many c.self.inside.bytes.items c.self.inside.entries.items c.args.self.now c.self.view_is)

pub start_of-requires-2 : goal.start_of-requires-2
start_of-requires-2 g c = omega (arith, as_many c.self.inside.bytes.items c.self.inside.entries.items c.args.self.now c.self.view_is)

pub overflow_sub-result : goal.overflow_sub-result
overflow_sub-result g c =
    let run = is_run c.self.inside.bytes.items c.self.inside.entries.items c.as_slice-entries.result.now c.args.range.start c.args.range.end c.start_of-2.result c.start_of.result c.self.invariant c.requires.ordered c.as_slice-entries.ensures.value c.start_of-2.ensures c.start_of.ensures in
    run.rising

pub returns-clause-value : goal.returns-clause-value
returns-clause-value g c =
    let run = is_run c.self.inside.bytes.items c.self.inside.entries.items c.as_slice-entries.result.now c.args.range.start c.args.range.end c.start_of-2.result c.start_of.result c.self.invariant c.requires.ordered c.as_slice-entries.ensures.value c.start_of-2.ensures c.start_of.ensures in
    run_bytes c.self.inside.bytes.items c.self.inside.entries.items c.args.self.now c.args.range.start c.args.range.end c.start_of-2.result c.start_of.result c.self.invariant c.requires.ordered c.self.view_is run

pub returns-clause-limit : goal.returns-clause-limit
returns-clause-limit g c =
    let run = is_run c.self.inside.bytes.items c.self.inside.entries.items c.as_slice-entries.result.now c.args.range.start c.args.range.end c.start_of-2.result c.start_of.result c.self.invariant c.requires.ordered c.as_slice-entries.ensures.value c.start_of-2.ensures c.start_of.ensures in
    omega (arith, run.within, c.self.invariant.fits)
