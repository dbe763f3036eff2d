use Rattle.std.proofs.Common.{◌-◌, arith, ap, ◌∙◌}
use Rattle.bw_model.specs.Values.{ValueBytes}
use Rattle.bw_page.specs.Leaves.{LeafView}
use Rattle.bw_batch_bench.proofs.LeavesSideBySide.{put_before, alone, whole}
use Rattle.bw_batch_bench.proofs.leaves.leaves_for.Goals as goal

pub loop-place-init : goal.loop-place-init
loop-place-init c =
    let made = c.in_ok-leaf_from.ensures in
    (alone c.min-place.result c.in_ok-low.low c.in_ok-leaf_from.field-0 c.new-leaves.result.items c.push.new.self.items (made.low ∙ c.in_ok-copy.ensures.ok) made.high made.side c.new-leaves.ensures.items c.in_ok-push.ensures.items, c.in_ok-low.ensures)

pub loop-place-preserved : goal.loop-place-preserved
loop-place-preserved c =
    let narrow = c.narrow.ensures in (
      put_before c.loop-place.place (c.loop-place.place - 1) c.loop-place.low c.in_ok-low-2.low c.narrow.new.self c.loop-place.leaves.items c.push-in-loop-place.new.self.items (omega (arith, c.loop-place-test.true))
          (ap (λ (l : LeafView ValueBytes). l.low) narrow ∙ c.in_ok-leaf.ensures.low ∙ c.in_ok-copy-2.ensures.ok)
          (ap (λ (l : LeafView ValueBytes). l.high) narrow) (ap (λ (l : LeafView ValueBytes). l.side) narrow) c.loop-place.invariant.0 c.in_ok-push-2.ensures.items,
      c.in_ok-low-2.ensures,
    )

pub returns : goal.returns
returns c = whole c.loop-place.place c.loop-place.low c.loop-place.leaves.items c.reverse.new.self.items (omega (arith, c.loop-place-test.false)) c.loop-place.invariant.1 c.reverse.ensures.items c.loop-place.invariant.0
