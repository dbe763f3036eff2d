use Rattle.bw_packed.proofs.RunLemmas.{place_fits}
use Rattle.bw_packed.proofs.runs.Run.key_at.Goals as goal
use Rattle.std.proofs.Common.{arith}

pub overflow_add-self-inside : goal.overflow_add-self-inside
overflow_add-self-inside c =
    omega (arith, place_fits c.self.inside.pairs.now c.self.inside.start c.self.inside.end c.args.place c.args.self.now c.self.invariant c.self.view_is c.requires)
