use Rattle.bw_level.proofs.RouteLemmas.{least}
use Rattle.bw_look.proofs.PageLemmas.{home_on}
use Rattle.bw_look.proofs.look.Look.above.Goals as goal

pub on_level-requires : goal.on_level-requires
on_level-requires c = least c.args.key.now

pub returns : goal.returns
returns c = home_on c.args.self.now c.args.key c.args.level c.on_level.result c.on_level.ensures
