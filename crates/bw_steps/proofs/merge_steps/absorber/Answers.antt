use Rattle.std.proofs.Common.{◌≡◌, ◌<◌, ◌^◌, true, false, slice_index, sym, subst, ◌∙◌}
use Rattle.bw_look.specs.PageStates.{IsNamer}
use Rattle.bw_steps.proofs.MergeStepLemmas.{absorber_is, not_plain, page_on}
use Rattle.bw_steps.proofs.merge_steps.absorber.Goals as goal

different : true ≡ false → ⊥
different e = cc

pub returns-then-not-is_plain : goal.returns-then-not-is_plain
returns-then-not-is_plain c q m =
    not_plain c.args.tree.now c.args.page c.is_plain.result c.is_plain.ensures c.if-not-is_plain.true
    (c.know_records.ensures.there c.args.page (page_on c.args.tree.now c.args.tree.now.root c.know_levels.ensures.lawful c.args.page q m))
    m.other_plain

pub returns-then-not-is_plain-2 : goal.returns-then-not-is_plain-2
returns-then-not-is_plain-2 c q m =
    let tree = c.args.tree.now in
    let left = c.in-Some.left in
    not_plain tree left c.is_plain-2.result c.is_plain-2.ensures c.if-not-is_plain-2.true (c.know_records.ensures.there left c.in-Some.ensures.0)
    (subst (λ x. slice_index tree.heads x < 2 ^ 32) (absorber_is tree tree.root c.know_levels.ensures.lawful c.args.page left q c.in-Some.ensures m) m.plain)

pub returns-then-not-are_under_one : goal.returns-then-not-are_under_one
returns-then-not-are_under_one c q m =
    let tree = c.args.tree.now in
    let same = absorber_is tree tree.root c.know_levels.ensures.lawful c.args.page c.in-Some.left q c.in-Some.ensures m in
    different (
    sym (c.are_under_one.ensures.1 (m.parent, (m.other_namer, subst (λ x. IsNamer tree x m.parent) same m.namer)))
    ∙ c.if-not-are_under_one.true)

pub returns : goal.returns
returns c =
    let w = c.are_under_one.ensures.0 c.if-not-are_under_one.false in
    record {
      level = c.in-Some.ensures.0.level;
      within = c.in-Some.ensures.0.within;
      in_level = c.in-Some.ensures.0.in_level;
      linked = c.in-Some.ensures.1;
      plain = (c.is_plain-2.ensures.0 c.if-not-is_plain-2.false).1;
      other_plain = (c.is_plain.ensures.0 c.if-not-is_plain.false).1;
      parent = w.0;
      namer = w.1.1;
      other_namer = w.1.0;
    }
