use Rattle.std.proofs.Common.{Option, ap, sym, subst, arith}
use Rattle.bw_key.specs.Order.{KeyBytes}
use Rattle.bw_level.specs.Before.{low_of}
use Rattle.bw_level.specs.Scans.{high_of}
use Rattle.bw_level.specs.Slots.{slot_at}
use Rattle.bw_scan.specs.Gaps.{HasNone}
use Rattle.bw_scan.specs.Replaying.{ScansView}
use Rattle.bw_look.specs.View.{TreeView}
use Rattle.bw_scan.proofs.ReplayLemmas.{none_on_leaf}
use Rattle.bw_scan.proofs.scans.Scans.leaf_gap.Goals as goal

pub returns : goal.returns
returns c =
    let tree = c.self.inside.tree in
    let now = ap (λ (v : ScansView). v.tree) c.self.view_is in
    let leaf = c.in_ok-leaf.leaf.now in
    let kept = c.self.invariant.read c.args.page leaf (sym c.in_ok-leaf.ensures.value) in
    let held = c.holds_at.ensures c.if-not-holds_at.false in (
      λ stamp le upto.
          subst (λ (t : TreeView). HasNone t stamp (low_of (slot_at t.slots c.args.page)) (high_of (slot_at t.slots c.args.page))) now
          (subst (λ (k : KeyBytes). HasNone tree stamp k (high_of (slot_at tree.slots c.args.page))) kept.read.low
          (subst (λ (e : Option KeyBytes). HasNone tree stamp leaf.low.now e) kept.read.end
          (none_on_leaf tree c.know_levels.ensures.lawful c.args.page leaf kept c.know_homes.ensures.values c.until.result c.until.ensures (c.has_pairs.ensures c.if-has_pairs.false) stamp
          (omega (arith, le, c.stamp.ensures)) upto))),
      held.0,
      held.1,
    )
