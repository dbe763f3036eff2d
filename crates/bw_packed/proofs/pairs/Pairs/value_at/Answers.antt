use Rattle.std.proofs.Common.{◌∙◌, ap, drop}
use Rattle.std.proofs.lemmas.List.{drop_min, take_rest}
use Rattle.bw_packed.specs.Pairs.{pair_of}
use Rattle.bw_packed.proofs.Views.{seen_at}
use Rattle.bw_packed.proofs.pairs.Pairs.value_at.Goals as goal

pub returns : goal.returns
returns c d =
    let there = seen_at pair_of c.self.inside.entries c.args.self.now c.args.place d c.self.view_is c.requires in
    let bytes = c.bytes_at-bytes.result.now in
    take_rest bytes c.within.result
    ∙ ap (λ n. drop n bytes) c.within.ensures
    ∙ drop_min c.tag_at.result bytes
    ∙ ap (λ n. drop n bytes) (c.tag_at.ensures there.0)
    ∙ ap (drop _) (c.bytes_at-bytes.ensures there.0)
    ∙ ap (λ pair. pair.1) there.1
