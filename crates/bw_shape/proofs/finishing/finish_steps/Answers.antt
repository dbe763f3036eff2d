use Rattle.std.proofs.Common.{sym, subst}
use Rattle.bw_look.specs.View.{TreeView}
use Rattle.bw_shape.specs.Tidying.{KeepsWithin}
use Rattle.bw_shape.proofs.AbsorbLemmas.{tidy_on}
use Rattle.bw_shape.proofs.TidyLemmas.{tidy_root}
use Rattle.bw_shape.proofs.finishing.finish_steps.Goals as goal

pub returns-in_err-finish_each-clause-holds : goal.returns-in_err-finish_each-clause-holds
returns-in_err-finish_each-clause-holds c =
    let old = c.args.tree.now in
    let merged = c.finish_merges.new.tree in
    let grown = c.grow_root.new.tree in
    let root = tidy_root merged grown merged.root c.in_ok-grow_root.field-0 c.know_levels.ensures.lawful c.finish_merges.ensures.holds.staged c.in_ok-grow_root.ensures.ok in
    let above = tidy_on old merged grown (record { holds = c.finish_merges.ensures.holds; within = c.finish_merges.ensures.within }) root in
    (tidy_on old grown c.finish_each.new.tree above (record { holds = c.finish_each.ensures.holds; within = c.finish_each.ensures.within })).holds

pub returns-in_err-finish_each-clause-within : goal.returns-in_err-finish_each-clause-within
returns-in_err-finish_each-clause-within c =
    let old = c.args.tree.now in
    let merged = c.finish_merges.new.tree in
    let grown = c.grow_root.new.tree in
    let root = tidy_root merged grown merged.root c.in_ok-grow_root.field-0 c.know_levels.ensures.lawful c.finish_merges.ensures.holds.staged c.in_ok-grow_root.ensures.ok in
    let above = tidy_on old merged grown (record { holds = c.finish_merges.ensures.holds; within = c.finish_merges.ensures.within }) root in
    (tidy_on old grown c.finish_each.new.tree above (record { holds = c.finish_each.ensures.holds; within = c.finish_each.ensures.within })).within

pub returns-clause-holds : goal.returns-clause-holds
returns-clause-holds c =
    let old = c.args.tree.now in
    let merged = c.finish_merges.new.tree in
    let grown = c.grow_root.new.tree in
    let root = tidy_root merged grown merged.root c.in_ok-grow_root.field-0 c.know_levels.ensures.lawful c.finish_merges.ensures.holds.staged c.in_ok-grow_root.ensures.ok in
    let above = tidy_on old merged grown (record { holds = c.finish_merges.ensures.holds; within = c.finish_merges.ensures.within }) root in
    (tidy_on old c.finish_each.new.tree c.finish_each-2.new.tree
    (tidy_on old grown c.finish_each.new.tree above (record { holds = c.finish_each.ensures.holds; within = c.finish_each.ensures.within }))
    (record { holds = c.finish_each-2.ensures.holds; within = c.finish_each-2.ensures.within })).holds

pub returns-clause-within : goal.returns-clause-within
returns-clause-within c =
    let old = c.args.tree.now in
    let merged = c.finish_merges.new.tree in
    let grown = c.grow_root.new.tree in
    let root = tidy_root merged grown merged.root c.in_ok-grow_root.field-0 c.know_levels.ensures.lawful c.finish_merges.ensures.holds.staged c.in_ok-grow_root.ensures.ok in
    let above = tidy_on old merged grown (record { holds = c.finish_merges.ensures.holds; within = c.finish_merges.ensures.within }) root in
    (tidy_on old c.finish_each.new.tree c.finish_each-2.new.tree
    (tidy_on old grown c.finish_each.new.tree above (record { holds = c.finish_each.ensures.holds; within = c.finish_each.ensures.within }))
    (record { holds = c.finish_each-2.ensures.holds; within = c.finish_each-2.ensures.within })).within

pub returns-in_err-grow_root-clause-within : goal.returns-in_err-grow_root-clause-within
returns-in_err-grow_root-clause-within c = λ pages. subst (λ (t : TreeView). KeepsWithin c.args.tree.now t pages pages) (sym c.in_err-grow_root.ensures.err) (c.finish_merges.ensures.within pages)
