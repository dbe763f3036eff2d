use Rattle.std.proofs.Common.{◌≡◌, ◌-◌, ◌++◌, length, take, refl, sym, ap, subst, Some, MatchOption, ◌∙◌, arith}
use Rattle.std.specs.Option.{option_copied}
use Rattle.bw_delta.specs.History.{HasDistinctStamps}
use Rattle.bw_level.specs.Levels.{AreLevels, IsHome, row}
use Rattle.bw_level.specs.Scans.{Reaches, high_of}
use Rattle.bw_level.specs.Slots.{slot_at}
use Rattle.bw_level.specs.Reading.{row_writes}
use Rattle.bw_scan.specs.Gaps.{HasNone}
use Rattle.bw_scan.specs.Replaying.{ScansView}
use Rattle.bw_look.specs.View.{TreeView}
use Rattle.bw_scan.proofs.GapLemmas.{past_end}
use Rattle.bw_scan.proofs.ReplayLemmas.{ends_behind, ends_read, goes_behind, is_enough_read, leaf_of, next_read}
use Rattle.bw_scan.proofs.scans.Scans.scan_on.Goals as goal

abbrev Lawful : ScansView → Type 0
Lawful v = AreLevels v.tree.slots v.tree.root v.tree.levels

abbrev Distinct : ScansView → Type 0
Distinct v = HasDistinctStamps (row_writes v.tree.slots (row v.tree.levels 0))

pub loop-read-init : goal.loop-read-init
loop-read-init c = record { same = refl; has_read = c.requires }

pub returns-in_default-clause-pairs : goal.returns-in_default-clause-pairs
returns-in_default-clause-pairs c =
    let tree = c.args.self.now.tree in
    let lawful = subst Lawful c.self.view_is c.know_levels.ensures.lawful in
    let distinct = subst Distinct c.self.view_is c.know_levels.ensures.distinct in
    let at = c.loop-read.at.now in
    let page = c.route-page.result in
    let read = c.loop-read.read in
    let same = c.loop-read.invariant.same in
    let home = subst (λ (t : TreeView). IsHome t.slots t.levels at page) same c.route-page.ensures in
    let more = c.in_ok-end.ensures.read ∙ ap (λ (t : TreeView). read ++ take (c.args.most - length read) (leaf_of t c.args.stamp at (option_copied c.args.to) page)) same in
    ends_read tree lawful distinct c.args.stamp c.args.most c.args.from.now (option_copied c.args.to) at page home read c.read_leaf.new.read c.loop-read.invariant.has_read more
    (subst (λ (t : TreeView). Reaches (high_of (slot_at t.slots page)) (option_copied c.args.to)) same
    (subst (λ o. MatchOption o (Reaches (high_of (slot_at c.loop-read.self.tree.slots page)) (option_copied c.args.to)) (λ k. high_of (slot_at c.loop-read.self.tree.slots page) ≡ Some k.now)) c.in_default.is c.in_ok-end.ensures.end))

pub returns-then-len-most-clause-pairs : goal.returns-then-len-most-clause-pairs
returns-then-len-most-clause-pairs c =
    let tree = c.args.self.now.tree in
    let lawful = subst Lawful c.self.view_is c.know_levels.ensures.lawful in
    let distinct = subst Distinct c.self.view_is c.know_levels.ensures.distinct in
    let at = c.loop-read.at.now in
    let page = c.route-page.result in
    let read = c.loop-read.read in
    let same = c.loop-read.invariant.same in
    let home = subst (λ (t : TreeView). IsHome t.slots t.levels at page) same c.route-page.ensures in
    let more = c.in_ok-end.ensures.read ∙ ap (λ (t : TreeView). read ++ take (c.args.most - length read) (leaf_of t c.args.stamp at (option_copied c.args.to) page)) same in
    is_enough_read tree lawful distinct c.args.stamp c.args.most c.args.from.now (option_copied c.args.to) at page home read c.read_leaf.new.read c.loop-read.invariant.has_read more (omega (arith, c.if-len-most.true, c.len.ensures))

pub returns-in_default-2-clause-pairs : goal.returns-in_default-2-clause-pairs
returns-in_default-2-clause-pairs c =
    let tree = c.args.self.now.tree in
    let lawful = subst Lawful c.self.view_is c.know_levels.ensures.lawful in
    let distinct = subst Distinct c.self.view_is c.know_levels.ensures.distinct in
    let at = c.loop-read.at.now in
    let page = c.route-page.result in
    let read = c.loop-read.read in
    let same = c.loop-read.invariant.same in
    let home = subst (λ (t : TreeView). IsHome t.slots t.levels at page) same c.route-page.ensures in
    let more = c.in_ok-end.ensures.read ∙ ap (λ (t : TreeView). read ++ take (c.args.most - length read) (leaf_of t c.args.stamp at (option_copied c.args.to) page)) same in
    let ends =
    subst (λ (t : TreeView). high_of (slot_at t.slots page) ≡ Some c.in-Some.end.now) same
    (subst (λ o. MatchOption o (Reaches (high_of (slot_at c.loop-read.self.tree.slots page)) (option_copied c.args.to)) (λ k. high_of (slot_at c.loop-read.self.tree.slots page) ≡ Some k.now)) c.in-Some.is c.in_ok-end.ensures.end) in
    let next = next_read tree lawful distinct c.args.stamp c.args.most c.args.from.now (option_copied c.args.to) at page home read c.read_leaf.new.read c.loop-read.invariant.has_read more c.in-Some.end.now ends in
    let now = c.in_ok-end.ensures.tree ∙ same in
    let none = subst (λ (t : TreeView). HasNone t c.args.stamp c.in-Some.end.now (option_copied c.in_ok-end-2.field-0)) now c.in_ok-end-2.ensures.none in
    ends_behind tree lawful distinct c.args.stamp c.args.most c.args.from.now (option_copied c.args.to) at c.in-Some.end.now (option_copied c.in_ok-end-2.field-0) c.read_leaf.new.read next none c.in_ok-end-2.ensures.behind
    (subst (λ o. Reaches (option_copied o) (option_copied c.args.to)) (sym c.in_default-2.is) (λ key below. tt))

pub returns-then-not-is_below-clause-pairs : goal.returns-then-not-is_below-clause-pairs
returns-then-not-is_below-clause-pairs c =
    let tree = c.args.self.now.tree in
    let lawful = subst Lawful c.self.view_is c.know_levels.ensures.lawful in
    let distinct = subst Distinct c.self.view_is c.know_levels.ensures.distinct in
    let at = c.loop-read.at.now in
    let page = c.route-page.result in
    let read = c.loop-read.read in
    let same = c.loop-read.invariant.same in
    let home = subst (λ (t : TreeView). IsHome t.slots t.levels at page) same c.route-page.ensures in
    let more = c.in_ok-end.ensures.read ∙ ap (λ (t : TreeView). read ++ take (c.args.most - length read) (leaf_of t c.args.stamp at (option_copied c.args.to) page)) same in
    let ends =
    subst (λ (t : TreeView). high_of (slot_at t.slots page) ≡ Some c.in-Some.end.now) same
    (subst (λ o. MatchOption o (Reaches (high_of (slot_at c.loop-read.self.tree.slots page)) (option_copied c.args.to)) (λ k. high_of (slot_at c.loop-read.self.tree.slots page) ≡ Some k.now)) c.in-Some.is c.in_ok-end.ensures.end) in
    let next = next_read tree lawful distinct c.args.stamp c.args.most c.args.from.now (option_copied c.args.to) at page home read c.read_leaf.new.read c.loop-read.invariant.has_read more c.in-Some.end.now ends in
    let now = c.in_ok-end.ensures.tree ∙ same in
    let none = subst (λ (t : TreeView). HasNone t c.args.stamp c.in-Some.end.now (option_copied c.in_ok-end-2.field-0)) now c.in_ok-end-2.ensures.none in
    ends_behind tree lawful distinct c.args.stamp c.args.most c.args.from.now (option_copied c.args.to) at c.in-Some.end.now (option_copied c.in_ok-end-2.field-0) c.read_leaf.new.read next none c.in_ok-end-2.ensures.behind
    (subst (λ o. Reaches (option_copied o) (option_copied c.args.to)) (sym c.in-Some-2.is)
    (past_end (option_copied c.args.to) c.in-Some-2.end.now (sym c.is_below.ensures ∙ c.if-not-is_below.true)))

pub loop-read-smaller : goal.loop-read-smaller
loop-read-smaller c =
    let tree = c.args.self.now.tree in
    let lawful = subst Lawful c.self.view_is c.know_levels.ensures.lawful in
    let distinct = subst Distinct c.self.view_is c.know_levels.ensures.distinct in
    let at = c.loop-read.at.now in
    let page = c.route-page.result in
    let read = c.loop-read.read in
    let same = c.loop-read.invariant.same in
    let home = subst (λ (t : TreeView). IsHome t.slots t.levels at page) same c.route-page.ensures in
    let more = c.in_ok-end.ensures.read ∙ ap (λ (t : TreeView). read ++ take (c.args.most - length read) (leaf_of t c.args.stamp at (option_copied c.args.to) page)) same in
    let ends =
    subst (λ (t : TreeView). high_of (slot_at t.slots page) ≡ Some c.in-Some.end.now) same
    (subst (λ o. MatchOption o (Reaches (high_of (slot_at c.loop-read.self.tree.slots page)) (option_copied c.args.to)) (λ k. high_of (slot_at c.loop-read.self.tree.slots page) ≡ Some k.now)) c.in-Some.is c.in_ok-end.ensures.end) in
    let next = next_read tree lawful distinct c.args.stamp c.args.most c.args.from.now (option_copied c.args.to) at page home read c.read_leaf.new.read c.loop-read.invariant.has_read more c.in-Some.end.now ends in
    let now = c.in_ok-end.ensures.tree ∙ same in
    let none = subst (λ (t : TreeView). HasNone t c.args.stamp c.in-Some.end.now (option_copied c.in_ok-end-2.field-0)) now c.in_ok-end-2.ensures.none in
    (goes_behind tree lawful distinct c.args.stamp c.args.most c.args.from.now (option_copied c.args.to) at c.in-Some.end.now (option_copied c.in_ok-end-2.field-0) c.read_leaf.new.read next none c.in_ok-end-2.ensures.behind
    c.in-Some-2.end.now (ap option_copied c.in-Some-2.is)).less

pub loop-read-preserved : goal.loop-read-preserved
loop-read-preserved c =
    let tree = c.args.self.now.tree in
    let lawful = subst Lawful c.self.view_is c.know_levels.ensures.lawful in
    let distinct = subst Distinct c.self.view_is c.know_levels.ensures.distinct in
    let at = c.loop-read.at.now in
    let page = c.route-page.result in
    let read = c.loop-read.read in
    let same = c.loop-read.invariant.same in
    let home = subst (λ (t : TreeView). IsHome t.slots t.levels at page) same c.route-page.ensures in
    let more = c.in_ok-end.ensures.read ∙ ap (λ (t : TreeView). read ++ take (c.args.most - length read) (leaf_of t c.args.stamp at (option_copied c.args.to) page)) same in
    let ends =
    subst (λ (t : TreeView). high_of (slot_at t.slots page) ≡ Some c.in-Some.end.now) same
    (subst (λ o. MatchOption o (Reaches (high_of (slot_at c.loop-read.self.tree.slots page)) (option_copied c.args.to)) (λ k. high_of (slot_at c.loop-read.self.tree.slots page) ≡ Some k.now)) c.in-Some.is c.in_ok-end.ensures.end) in
    let next = next_read tree lawful distinct c.args.stamp c.args.most c.args.from.now (option_copied c.args.to) at page home read c.read_leaf.new.read c.loop-read.invariant.has_read more c.in-Some.end.now ends in
    let now = c.in_ok-end.ensures.tree ∙ same in
    let none = subst (λ (t : TreeView). HasNone t c.args.stamp c.in-Some.end.now (option_copied c.in_ok-end-2.field-0)) now c.in_ok-end-2.ensures.none in
    record {
      same = c.in_ok-end-2.ensures.tree ∙ now;
      has_read =
          (goes_behind tree lawful distinct c.args.stamp c.args.most c.args.from.now (option_copied c.args.to) at c.in-Some.end.now (option_copied c.in_ok-end-2.field-0) c.read_leaf.new.read next none c.in_ok-end-2.ensures.behind
          c.in-Some-2.end.now (ap option_copied c.in-Some-2.is)).has_read;
    }
