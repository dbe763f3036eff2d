use Rattle.std.proofs.Common.{Some, ap, sym, subst, ◌∙◌, Option}
use Rattle.std.specs.Option.{option_copied}
use Rattle.bw_key.specs.Order.{KeyBytes}
use Rattle.bw_page.proofs.KeyLemmas.{below_self}
use Rattle.bw_level.specs.Before.{low_of}
use Rattle.bw_level.specs.Slots.{slot_at}
use Rattle.bw_level.proofs.EndLemmas.{not_below}
use Rattle.bw_scan.specs.Gaps.{HasNone}
use Rattle.bw_scan.specs.Replaying.{IsKept, ScansView}
use Rattle.bw_scan.proofs.GapLemmas.{none_below}
use Rattle.bw_scan.proofs.scans.Scans.low_of.Goals as goal

pub returns-in-Some-Some-clause-none : goal.returns-in-Some-Some-clause-none
returns-in-Some-Some-clause-none c stamp at =
    let tree = c.args.self.now.tree in
    let gap = c.args.gap.now in
    let first = c.in-Some-Some.first.now in
    let last = c.in-Some-Some.last.now in
    let before =
    subst (λ (v : ScansView). IsKept v.tree gap.first first) c.self.view_is
    (c.self.invariant.read gap.first first (sym c.get-first.ensures.value ∙ ap option_copied c.in-Some-Some.is-0)) in
    let behind =
    subst (λ (v : ScansView). IsKept v.tree gap.last last) c.self.view_is
    (c.self.invariant.read gap.last last (sym c.get-last.ensures.value ∙ ap option_copied c.in-Some-Some.is-1)) in
    none_below tree stamp first.low.now (option_copied last.end) (Some c.args.key.now)
    (subst (λ (k : KeyBytes). HasNone tree stamp k (option_copied last.end)) (sym before.read.low)
    (subst (λ (e : Option KeyBytes). HasNone tree stamp (low_of (slot_at tree.slots gap.first)) e) (sym behind.read.end) (at.0 stamp at.1 at.2)))
    (c.reaches.ensures.reached c.if-reaches.true)

pub returns-in-Some-Some-clause-before : goal.returns-in-Some-Some-clause-before
returns-in-Some-Some-clause-before c = not_below c.args.key.now c.in-Some-Some.first.now.low.now (sym c.le.ensures ∙ c.if-le.true)

pub returns-in_default-clause-before : goal.returns-in_default-clause-before
returns-in_default-clause-before c = below_self c.args.key.now

pub returns-in_default-2-clause-before : goal.returns-in_default-2-clause-before
returns-in_default-2-clause-before c = below_self c.args.key.now

pub returns-in_default-3-clause-before : goal.returns-in_default-3-clause-before
returns-in_default-3-clause-before c = below_self c.args.key.now

pub returns-in_default-4-clause-before : goal.returns-in_default-4-clause-before
returns-in_default-4-clause-before c = below_self c.args.key.now
