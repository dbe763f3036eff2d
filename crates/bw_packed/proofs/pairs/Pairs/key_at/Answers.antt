use Rattle.std.proofs.Common.{◌∙◌, ap}
use Rattle.bw_packed.specs.Pairs.{pair_of}
use Rattle.bw_packed.proofs.Views.{seen_at}
use Rattle.bw_packed.proofs.pairs.Pairs.key_at.Goals as goal

pub returns : goal.returns
returns c d =
    let there = seen_at pair_of c.self.inside.entries c.args.self.now c.args.place d c.self.view_is c.requires in
    c.key_at.ensures there.0 ∙ ap (λ pair. pair.0) there.1
