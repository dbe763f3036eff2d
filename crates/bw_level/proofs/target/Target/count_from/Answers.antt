use Rattle.std.proofs.Common.{arith}
use Rattle.bw_level.proofs.GallopLemmas.{between_length, joined_parts}
use Rattle.bw_level.proofs.target.Target.count_from.Goals as goal

pub returns-clause-parts : goal.returns-clause-parts
returns-clause-parts c =
    let all = c.args.children.now in
    let start = c.stretch-start.result.0 in
    let end = c.stretch-start.result.1 in
    let stretch = c.stretch-start.ensures in
    joined_parts c.args.self all start end c.count_in.result stretch c.count_in.ensures.parts
    (omega (arith, c.count_in.ensures.bound, between_length c.args.self all start end stretch.ordered stretch.within))
