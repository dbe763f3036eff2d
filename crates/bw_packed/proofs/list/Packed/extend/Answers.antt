use Rattle.std.proofs.Common.{◌++◌, ◌∙◌, ap, arith, slice_range, subst, sym}
use Rattle.bw_packed.specs.Lists.{RiseTo, unpacked}
use Rattle.bw_packed.proofs.Packings.{as_many, copied, extended, extended_packed, is_run, run_rises}
use Rattle.bw_packed.proofs.list.Packed.extend.Goals as goal

pub start_of-from-requires : goal.start_of-from-requires
start_of-from-requires g c = omega (arith, as_many c.other.inside.bytes.items c.other.inside.entries.items c.args.other.now c.other.view_is)

pub start_of-requires : goal.start_of-requires
start_of-requires g c = omega (arith, as_many c.other.inside.bytes.items c.other.inside.entries.items c.args.other.now c.other.view_is)

pub slice_bounds-run-count : goal.slice_bounds-run-count
slice_bounds-run-count g c =
    let run = is_run c.other.inside.bytes.items c.other.inside.entries.items c.as_slice-entries.result.now c.args.range.start c.args.range.end c.start_of-from.result c.start_of.result c.other.invariant c.requires.ordered c.as_slice-entries.ensures.value c.start_of-from.ensures c.start_of.ensures in
    omega (arith, run.rising, run.within)

pub slice_bounds-run-start : goal.slice_bounds-run-start
slice_bounds-run-start g c =
    let run = is_run c.other.inside.bytes.items c.other.inside.entries.items c.as_slice-entries.result.now c.args.range.start c.args.range.end c.start_of-from.result c.start_of.result c.other.invariant c.requires.ordered c.as_slice-entries.ensures.value c.start_of-from.ensures c.start_of.ensures in
    omega (arith, run.rising, run.within)

pub slice_bounds-run-end : goal.slice_bounds-run-end
slice_bounds-run-end g c =
    let run = is_run c.other.inside.bytes.items c.other.inside.entries.items c.as_slice-entries.result.now c.args.range.start c.args.range.end c.start_of-from.result c.start_of.result c.other.invariant c.requires.ordered c.as_slice-entries.ensures.value c.start_of-from.ensures c.start_of.ensures in
    omega (arith, run.rising, run.within)

pub offset_bounds-entries-start : goal.offset_bounds-entries-start
offset_bounds-entries-start g c = omega (arith, as_many c.other.inside.bytes.items c.other.inside.entries.items c.args.other.now c.other.view_is)

pub slice_bounds-push_moved-end : goal.slice_bounds-push_moved-end
slice_bounds-push_moved-end g c = omega (arith, as_many c.other.inside.bytes.items c.other.inside.entries.items c.args.other.now c.other.view_is)

pub push_moved-requires-clause-ends : goal.push_moved-requires-clause-ends
push_moved-requires-clause-ends g c =
    let run = is_run c.other.inside.bytes.items c.other.inside.entries.items c.as_slice-entries.result.now c.args.range.start c.args.range.end c.start_of-from.result c.start_of.result c.other.invariant c.requires.ordered c.as_slice-entries.ensures.value c.start_of-from.ensures c.start_of.ensures in
    let i = c.args.range.start in
    let j = c.args.range.end in
    let from = c.start_of-from.result in
    let upto = c.start_of.result in
    let rises : RiseTo from (slice_range c.other.inside.entries.items i j) upto =
    rw (run.begins, run.ends) (run_rises c.other.inside.bytes.items c.other.inside.entries.items i j c.other.invariant c.requires.ordered) in
    (upto, (subst (λ l. RiseTo from (slice_range l i j) upto) (sym c.as_slice-entries.ensures.value) rises, omega (arith, run.count)))

pub invariant_of-self-2 : goal.invariant_of-self-2
invariant_of-self-2 g c =
    let run = is_run c.other.inside.bytes.items c.other.inside.entries.items c.as_slice-entries.result.now c.args.range.start c.args.range.end c.start_of-from.result c.start_of.result c.other.invariant c.requires.ordered c.as_slice-entries.ensures.value c.start_of-from.ensures c.start_of.ensures in
    let bs = c.self.inside.bytes.items in
    let cs = c.other.inside.bytes.items in
    let es = c.self.inside.entries.items in
    let fs = c.other.inside.entries.items in
    let i = c.args.range.start in
    let j = c.args.range.end in
    let from = c.start_of-from.result in
    let upto = c.start_of.result in
    let is = copied bs cs _ c.extend_from_slice.new.self.items es fs _ _ c.push_moved.new.list.items i j from upto c.len-to.result (omega arith) c.deref.ensures.value
    c.as_slice-entries.ensures.value c.reserve.ensures.items c.in_ok-extend_from_slice.ensures.items c.push_moved.ensures in
    rw (is.0, is.1)
    (extended_packed bs cs es fs i j from upto c.self.invariant c.other.invariant c.requires.ordered run (omega (arith, run.count)))

pub returns-clause-ok : goal.returns-clause-ok
returns-clause-ok g c =
    let run = is_run c.other.inside.bytes.items c.other.inside.entries.items c.as_slice-entries.result.now c.args.range.start c.args.range.end c.start_of-from.result c.start_of.result c.other.invariant c.requires.ordered c.as_slice-entries.ensures.value c.start_of-from.ensures c.start_of.ensures in
    let bs = c.self.inside.bytes.items in
    let cs = c.other.inside.bytes.items in
    let es = c.self.inside.entries.items in
    let fs = c.other.inside.entries.items in
    let i = c.args.range.start in
    let j = c.args.range.end in
    let from = c.start_of-from.result in
    let upto = c.start_of.result in
    let is = copied bs cs _ c.extend_from_slice.new.self.items es fs _ _ c.push_moved.new.list.items i j from upto c.len-to.result (omega arith) c.deref.ensures.value
    c.as_slice-entries.ensures.value c.reserve.ensures.items c.in_ok-extend_from_slice.ensures.items c.push_moved.ensures in
    rw (is.0, is.1)
    (extended bs cs es fs i j from upto c.self.invariant c.other.invariant c.requires.ordered run
    ∙ ap (λ l. l ++ slice_range (unpacked 0 cs fs) i j) c.self.view_is
    ∙ ap (λ l. c.args.self.now ++ slice_range l i j) c.other.view_is)
