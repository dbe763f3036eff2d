use Rattle.std.proofs.Common.{ℕ, ◌++◌, ◌∷◌, [], length, ap, ◌∙◌}
use Rattle.bw_tree.proofs.PlaceLists.{placed_more, there_more}
use Rattle.bw_tree.proofs.tree.batch_life.places_of.Goals as goal

pub loop-place-preserved : goal.loop-place-preserved
loop-place-preserved c =
    let ops = c.args.ops.now in
    let places = c.loop-place.places.items in
    let added = c.in_ok-push-in-Ok.ensures.items ∙ ap (λ (n : ℕ). places ++ n ∷ []) c.in-Ok.ensures.1 in
    record {
      there = there_more (length ops) places c.push.new.self.items c.loop-place.place c.loop-place.invariant.there c.loop-place-test.true added;
      are = placed_more ops places c.push.new.self.items c.loop-place.place c.loop-place-test.true added c.loop-place.invariant.are;
    }
