use Rattle.std.proofs.Common.{◌<◌, ◌≤◌, ◌/◌, length, refl, ap, arith}
use Rattle.bw_level.specs.Reading.{writes_over}
use Rattle.bw_level.specs.Slots.{slot_at}
use Rattle.bw_level.specs.Splits.{slot_entries}
use Rattle.bw_shape.proofs.PartLemmas.{leaf_parts}
use Rattle.bw_shape.proofs.TidyLemmas.{few_within, within_pass}
use Rattle.bw_shape.proofs.halving.part.Goals as goal

pub entries-count-requires : goal.entries-count-requires
entries-count-requires c = c.know_records.ensures.there c.args.page c.requires.page

pub returns-then-count-page_max-clause-within : goal.returns-then-count-page_max-clause-within
returns-then-count-page_max-clause-within c =
    let tree = c.args.tree.now in
    let limits = c.args.limits.now in
    let slot = slot_at tree.slots c.args.page in
    let bare = c.know_records.ensures.bare c.args.page c.requires.plain in
    let writes : length (writes_over slot) ≤ limits.chain_max = omega (arith, ap length bare) in
    let entries : slot_entries slot ≤ limits.page_max = omega (arith, c.entries-count.ensures, c.page_max.ensures.value, c.if-count-page_max.true) in
    within_pass limits tree c.args.due.now.pages c.pass.new.self.pages c.args.page (c.pass.ensures.pages c.args.page c.requires.next) (λ leaf. few_within limits slot writes entries) c.requires.within

pub returns-then-count-page_max-clause-ok : goal.returns-then-count-page_max-clause-ok
returns-then-count-page_max-clause-ok c = (refl, c.pass.ensures.pages c.args.page c.requires.next)

pub returns-clause-within : goal.returns-clause-within
returns-clause-within c = c.in_ok-halve.ensures.within c.args.limits.now c.requires.within

pub returns-in_err-halve-clause-within : goal.returns-in_err-halve-clause-within
returns-in_err-halve-clause-within c = c.in_err-halve.ensures.within c.args.limits.now c.requires.within

pub returns-then-not-may_part-clause-within : goal.returns-then-not-may_part-clause-within
returns-then-not-may_part-clause-within c =
    let tree = c.args.tree.now in
    let page = c.args.page in
    let count = c.entries-count.result in
    let many : 4 < count = omega (arith, c.page_max.ensures.value, c.page_max.ensures.least.some_page, c.if-count-page_max.false) in
    let some : 0 < count / 2 = omega (arith, many) in
    let fewer : count / 2 < slot_entries (slot_at tree.slots page) = omega (arith, many, c.entries-count.ensures) in
    within_pass c.args.limits.now tree c.args.due.now.pages c.pass-then-not-may_part.new.self.pages page (c.pass-then-not-may_part.ensures.pages page c.requires.next)
    (λ leaf. absurd (c.may_part.ensures.no c.if-not-may_part.true (leaf_parts tree tree.root c.know_levels.ensures.lawful page (count / 2) leaf c.requires.plain some fewer)))
    c.requires.within
