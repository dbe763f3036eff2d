use Rattle.std.proofs.Common.{Some, ◌-◌, ◌++◌, length, reverse, take, refl, sym, ap, subst, ◌∙◌, arith}
use Rattle.std.specs.Option.{option_copied}
use Rattle.bw_level.specs.Before.{IsBefore, low_of}
use Rattle.bw_level.specs.Slots.{slot_at}
use Rattle.bw_scan.specs.Gaps.{HasNone}
use Rattle.bw_look.specs.View.{TreeView, contents_at}
use Rattle.bw_level.proofs.EndLemmas.{not_below, no_le}
use Rattle.bw_scan.proofs.BackLemmas.{least_below}
use Rattle.bw_scan.proofs.ReplayLemmas.{begins_at_end, is_back, ends_at_leaf, enough_at_leaf, goes_before, leaf_of, skips_back}
use Rattle.bw_scan.proofs.scans.Scans.scan_back.Goals as goal

pub returns-then-asks_for_none-clause-pairs : goal.returns-then-asks_for_none-clause-pairs
returns-then-asks_for_none-clause-pairs c =
    c.new-read.ensures
    ∙ sym (c.if-asks_for_none.ensures.none refl (contents_at c.args.self.now.tree c.args.stamp)).1

pub loop-read-init : goal.loop-read-init
loop-read-init c = record {
  same = refl;
  has_read = begins_at_end c.args.self.now.tree c.args.stamp c.args.most c.args.from.now (option_copied c.args.to) c.new-read.result c.new-read.ensures (c.if-asks_for_none.ensures.begins refl);
}

pub route_before-page-requires : goal.route_before-page-requires
route_before-page-requires c = least_below (option_copied c.loop-read.end) c.args.from.now c.loop-read.invariant.has_read.scanning.starts

pub returns-then-len-most-clause-pairs : goal.returns-then-len-most-clause-pairs
returns-then-len-most-clause-pairs c =
    let read = c.loop-read.read in
    let page = c.route_before-page.result in
    let back =
    is_back c.args.self.now.tree c.args.stamp c.args.most c.args.from.now (option_copied c.args.to) c.in_ok-low.low.now (option_copied c.loop-read.end) page read c.read_leaf_back.new.read
    (subst (λ (t : TreeView). IsBefore t.slots t.levels (option_copied c.loop-read.end) page) c.loop-read.invariant.same c.route_before-page.ensures)
    c.loop-read.invariant.has_read
    (c.in_ok-low.ensures.read
    ∙ ap (λ (t : TreeView). read ++ take (c.args.most - length read) (reverse (leaf_of t c.args.stamp c.args.from.now (option_copied c.loop-read.end) page))) c.loop-read.invariant.same)
    (c.in_ok-low.ensures.low ∙ ap (λ (t : TreeView). low_of (slot_at t.slots page)) c.loop-read.invariant.same) in
    enough_at_leaf c.args.self.now.tree c.args.stamp c.args.most c.args.from.now (option_copied c.args.to) c.in_ok-low.low.now (option_copied c.loop-read.end) c.read_leaf_back.new.read back
    (omega (arith, c.if-len-most.true, c.len.ensures))

pub returns-then-le-clause-pairs : goal.returns-then-le-clause-pairs
returns-then-le-clause-pairs c =
    let read = c.loop-read.read in
    let page = c.route_before-page.result in
    let back =
    is_back c.args.self.now.tree c.args.stamp c.args.most c.args.from.now (option_copied c.args.to) c.in_ok-low.low.now (option_copied c.loop-read.end) page read c.read_leaf_back.new.read
    (subst (λ (t : TreeView). IsBefore t.slots t.levels (option_copied c.loop-read.end) page) c.loop-read.invariant.same c.route_before-page.ensures)
    c.loop-read.invariant.has_read
    (c.in_ok-low.ensures.read
    ∙ ap (λ (t : TreeView). read ++ take (c.args.most - length read) (reverse (leaf_of t c.args.stamp c.args.from.now (option_copied c.loop-read.end) page))) c.loop-read.invariant.same)
    (c.in_ok-low.ensures.low ∙ ap (λ (t : TreeView). low_of (slot_at t.slots page)) c.loop-read.invariant.same) in
    let now = c.in_ok-low.ensures.tree ∙ c.loop-read.invariant.same in
    let low = c.in_ok-low-2.low.now in
    let skipped =
    skips_back c.args.self.now.tree c.args.stamp c.args.most c.args.from.now (option_copied c.args.to) c.in_ok-low.low.now low (option_copied c.loop-read.end) c.read_leaf_back.new.read back
    (subst (λ (t : TreeView). HasNone t c.args.stamp low (Some c.in_ok-low.low.now)) now c.in_ok-low-2.ensures.none) c.in_ok-low-2.ensures.before in
    ends_at_leaf c.args.self.now.tree c.args.stamp c.args.most c.args.from.now (option_copied c.args.to) low (option_copied c.loop-read.end) c.read_leaf_back.new.read skipped
    (not_below c.args.from.now low (sym c.le.ensures ∙ c.if-le.true))

pub loop-read-smaller : goal.loop-read-smaller
loop-read-smaller c =
    let read = c.loop-read.read in
    let page = c.route_before-page.result in
    let back =
    is_back c.args.self.now.tree c.args.stamp c.args.most c.args.from.now (option_copied c.args.to) c.in_ok-low.low.now (option_copied c.loop-read.end) page read c.read_leaf_back.new.read
    (subst (λ (t : TreeView). IsBefore t.slots t.levels (option_copied c.loop-read.end) page) c.loop-read.invariant.same c.route_before-page.ensures)
    c.loop-read.invariant.has_read
    (c.in_ok-low.ensures.read
    ∙ ap (λ (t : TreeView). read ++ take (c.args.most - length read) (reverse (leaf_of t c.args.stamp c.args.from.now (option_copied c.loop-read.end) page))) c.loop-read.invariant.same)
    (c.in_ok-low.ensures.low ∙ ap (λ (t : TreeView). low_of (slot_at t.slots page)) c.loop-read.invariant.same) in
    let now = c.in_ok-low.ensures.tree ∙ c.loop-read.invariant.same in
    let low = c.in_ok-low-2.low.now in
    let skipped =
    skips_back c.args.self.now.tree c.args.stamp c.args.most c.args.from.now (option_copied c.args.to) c.in_ok-low.low.now low (option_copied c.loop-read.end) c.read_leaf_back.new.read back
    (subst (λ (t : TreeView). HasNone t c.args.stamp low (Some c.in_ok-low.low.now)) now c.in_ok-low-2.ensures.none) c.in_ok-low-2.ensures.before in
    skipped.passed.less

pub loop-read-preserved : goal.loop-read-preserved
loop-read-preserved c =
    let read = c.loop-read.read in
    let page = c.route_before-page.result in
    let back =
    is_back c.args.self.now.tree c.args.stamp c.args.most c.args.from.now (option_copied c.args.to) c.in_ok-low.low.now (option_copied c.loop-read.end) page read c.read_leaf_back.new.read
    (subst (λ (t : TreeView). IsBefore t.slots t.levels (option_copied c.loop-read.end) page) c.loop-read.invariant.same c.route_before-page.ensures)
    c.loop-read.invariant.has_read
    (c.in_ok-low.ensures.read
    ∙ ap (λ (t : TreeView). read ++ take (c.args.most - length read) (reverse (leaf_of t c.args.stamp c.args.from.now (option_copied c.loop-read.end) page))) c.loop-read.invariant.same)
    (c.in_ok-low.ensures.low ∙ ap (λ (t : TreeView). low_of (slot_at t.slots page)) c.loop-read.invariant.same) in
    let now = c.in_ok-low.ensures.tree ∙ c.loop-read.invariant.same in
    let low = c.in_ok-low-2.low.now in
    let skipped =
    skips_back c.args.self.now.tree c.args.stamp c.args.most c.args.from.now (option_copied c.args.to) c.in_ok-low.low.now low (option_copied c.loop-read.end) c.read_leaf_back.new.read back
    (subst (λ (t : TreeView). HasNone t c.args.stamp low (Some c.in_ok-low.low.now)) now c.in_ok-low-2.ensures.none) c.in_ok-low-2.ensures.before in
    record {
      same = c.in_ok-low-2.ensures.tree ∙ now;
      has_read = goes_before c.args.self.now.tree c.args.stamp c.args.most c.args.from.now (option_copied c.args.to) low (option_copied c.loop-read.end) read c.read_leaf_back.new.read c.loop-read.invariant.has_read skipped (no_le c.args.from.now low (sym c.le.ensures ∙ c.if-le.false));
    }
