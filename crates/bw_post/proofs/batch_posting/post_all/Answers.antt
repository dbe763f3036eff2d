use Rattle.bw_post.proofs.Staged.{staged_homes}
use Rattle.bw_post.proofs.batch_posting.post_all.Goals as goal

pub post_over-requires-clause-staged : goal.post_over-requires-clause-staged
post_over-requires-clause-staged g c κs within = staged_homes c.args.tree.now c.args.batch.now.ops c.in_ok-homes.homes c.requires.waiting c.in_ok-homes.ensures
