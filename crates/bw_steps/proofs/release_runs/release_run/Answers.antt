use Rattle.std.proofs.Common.{◌⊎◌, ◌≡◌, ℕ, Option, Some, subst}
use Rattle.bw_tree.specs.TreeFreeing.{MayBeFreed}
use Rattle.bw_look.specs.View.{TreeView}
use Rattle.bw_steps.proofs.FreedLemmas.{begins_free, ends_free, freed_itself, freed_on, goes_on_free}
use Rattle.bw_steps.proofs.release_runs.release_run.Goals as goal

abbrev Left : TreeView → TreeView → ℕ → Option ℕ → Type 0
Left old new page left = (p : ℕ) → MayBeFreed new p → (left ≡ Some p) ⊎ ((p ≡ page → ⊥) × MayBeFreed old p)

pub loop-left-init : goal.loop-left-init
loop-left-init c = record { freed = freed_itself c.args.tree.now c.requires; none = begins_free c.args.tree.now c.args.next.now }

pub loop-left-preserved : goal.loop-left-preserved
loop-left-preserved c =
    let old = c.loop-left.tree in
    let new = c.release_next.new.tree in
    let i = c.loop-left.invariant in
    record {
      freed = freed_on c.args.tree.now old new i.freed c.in_ok-left.ensures.freed;
      none = goes_on_free c.args.tree.now old new c.args.next.now c.loop-left.next i.none c.in-Some.left (subst (Left old new c.loop-left.next) c.in-Some.is c.in_ok-left.ensures.next);
    }

pub returns-clause-none : goal.returns-clause-none
returns-clause-none c =
    let old = c.loop-left.tree in
    let new = c.release_next.new.tree in
    ends_free c.args.tree.now old new c.args.next.now c.loop-left.next c.loop-left.invariant.none (subst (Left old new c.loop-left.next) c.in_default.is c.in_ok-left.ensures.next)

pub returns-in_err-left-clause-freed : goal.returns-in_err-left-clause-freed
returns-in_err-left-clause-freed c =
    freed_on c.args.tree.now c.loop-left.tree c.release_next.new.tree c.loop-left.invariant.freed c.in_err-left.ensures.freed

pub returns-clause-freed : goal.returns-clause-freed
returns-clause-freed c =
    freed_on c.args.tree.now c.loop-left.tree c.release_next.new.tree c.loop-left.invariant.freed c.in_ok-left.ensures.freed

pub release_next-requires : goal.release_next-requires
release_next-requires c = c.loop-left.invariant.freed.staged
