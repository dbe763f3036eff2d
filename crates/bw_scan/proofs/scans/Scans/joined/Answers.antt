use Rattle.std.proofs.Common.{Some, sym, subst, arith, Option}
use Rattle.std.specs.Option.{option_copied}
use Rattle.bw_key.specs.Order.{KeyBytes}
use Rattle.bw_level.specs.Before.{low_of}
use Rattle.bw_level.specs.Scans.{Reaches, high_of}
use Rattle.bw_level.specs.Slots.{slot_at}
use Rattle.bw_scan.specs.Replaying.{IsKept, ScansView}
use Rattle.bw_scan.proofs.GapLemmas.{none_in_both}
use Rattle.bw_scan.proofs.scans.Scans.joined.Goals as goal

pub returns : goal.returns
returns c stamp le upto =
    let tree = c.args.self.now.tree in
    let last = c.args.left.now.last in
    let first = c.args.right.now.first in
    let before = c.in_ok-before.before.now in
    let behind = c.in_ok-behind.behind.now in
    let ends = (subst (λ (v : ScansView). IsKept v.tree last before) c.self.view_is (c.self.invariant.read last before (sym c.in_ok-before.ensures.value))).read.end in
    let begins = (subst (λ (v : ScansView). IsKept v.tree first behind) c.self.view_is (c.self.invariant.read first behind (sym c.in_ok-behind.ensures.value))).read.low in
    none_in_both tree stamp (low_of (slot_at tree.slots c.args.left.now.first)) (low_of (slot_at tree.slots first)) (high_of (slot_at tree.slots last)) (high_of (slot_at tree.slots c.args.right.now.last))
    (c.requires.left stamp (omega (arith, le, c.max.ensures)) (omega (arith, upto, c.min.ensures)))
    (c.requires.right stamp (omega (arith, le, c.max.ensures)) (omega (arith, upto, c.min.ensures)))
    (subst (λ (e : Option KeyBytes). Reaches e (Some (low_of (slot_at tree.slots first)))) ends
    (subst (λ (k : KeyBytes). Reaches (option_copied before.end) (Some k)) begins (c.reaches.ensures.reached c.if-not-reaches.false)))
