use Rattle.std.proofs.Common.{◌∙◌, ap, map, sym, take}
use Rattle.std.proofs.lemmas.List.{take-map}
use Rattle.bw_packed.specs.Pairs.{pair_of}
use Rattle.bw_packed.proofs.pairs.Pairs.truncate.Goals as goal

pub returns : goal.returns
returns c = ap (map pair_of) c.truncate.ensures ∙ sym (take-map pair_of c.args.len c.self.inside.entries) ∙ ap (take c.args.len) c.self.view_is
