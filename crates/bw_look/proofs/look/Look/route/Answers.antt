use Rattle.std.proofs.Common.{refl}
use Rattle.bw_level.specs.declared.target.Target.TheVariants.{Home}
use Rattle.bw_level.proofs.HomeLemmas.{one_home}
use Rattle.bw_level.proofs.MarkLemmas.{key_stands}
use Rattle.bw_level.proofs.RouteLemmas.{home_leaf, least}
use Rattle.bw_look.proofs.look.Look.route.Goals as goal

pub search-requires : goal.search-requires
search-requires c = least c.args.key.now

pub returns-clause-home : goal.returns-clause-home
returns-clause-home c = c.search.ensures.homes c.args.key.now (key_stands c.args.self.now.slots (Home c.args.key) c.args.key.now (λ k. refl))

pub returns-clause-only : goal.returns-clause-only
returns-clause-only c = λ page home.
    one_home _ _ _ c.know_levels.ensures.lawful c.args.key.now page c.search.result home
    (c.search.ensures.homes c.args.key.now (key_stands c.args.self.now.slots (Home c.args.key) c.args.key.now (λ k. refl)))

pub returns-clause-leaf : goal.returns-clause-leaf
returns-clause-leaf c =
    (home_leaf _ _ _ c.know_levels.ensures.lawful c.args.key.now c.search.result
    (c.search.ensures.homes c.args.key.now (key_stands c.args.self.now.slots (Home c.args.key) c.args.key.now (λ k. refl)))).1
