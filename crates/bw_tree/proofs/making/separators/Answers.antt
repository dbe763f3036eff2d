use Rattle.bw_tree.proofs.MakingLemmas.{terms_more, rules_more}
use Rattle.bw_tree.proofs.making.separators.Goals as goal

pub loop-place-preserved : goal.loop-place-preserved
loop-place-preserved c = record {
  items = terms_more c.loop-place.children c.push.new.self c.args.leaves.now c.loop-place.place c.index-leaves-place.result c.low.result.now c.loop-place-test.true c.index-leaves-place.is c.low.ensures.value c.in_ok-push.ensures.ok c.loop-place.invariant.items;
  rules = rules_more c.args.leaves.now c.loop-place.place c.index-leaves-place.result c.loop-place-test.true c.index-leaves-place.is c.low.ensures.rules c.loop-place.invariant.rules;
}
