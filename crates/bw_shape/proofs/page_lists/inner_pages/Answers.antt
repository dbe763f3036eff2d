use Rattle.std.proofs.Common.{◌++◌, ◌∙◌, List, ℕ, ap, arith}
use Rattle.bw_shape.proofs.WholeLemmas.{with_level}
use Rattle.bw_shape.proofs.page_lists.inner_pages.Goals as goal

pub loop-level-preserved : goal.loop-level-preserved
loop-level-preserved c =
    with_level c.args.tree.now.levels c.loop-level.level c.loop-level.pages.items c.in_ok-level_pages.field-0.items c.extend_from_slice.new.self.items
    (omega (arith, c.loop-level-test.true, c.loop-level.auto.level-end, c.root_level-level-end.ensures)) c.loop-level.invariant c.in_ok-level_pages.ensures
    (c.in_ok-extend_from_slice.ensures.items ∙ ap (λ (l : List ℕ). c.loop-level.pages.items ++ l) c.deref.ensures.value)
