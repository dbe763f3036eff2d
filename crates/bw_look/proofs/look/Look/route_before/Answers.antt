use Rattle.std.proofs.Common.{refl}
use Rattle.std.specs.Option.{option_copied}
use Rattle.bw_level.specs.declared.target.Target.TheVariants.{Before}
use Rattle.bw_level.proofs.SearchLemmas.{home_before}
use Rattle.bw_look.proofs.look.Look.route_before.Goals as goal

pub returns : goal.returns
returns c = home_before c.args.self.now.slots c.args.self.now.levels (option_copied c.args.end) (Before c.args.end) c.search.result (λ k. refl) c.requires c.search.ensures.homes
