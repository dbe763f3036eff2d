use Rattle.std.proofs.Common.{◌++◌, ◌∙◌, ap, map, slice_range, sym}
use Rattle.std.proofs.lemmas.List.{map-append}
use Rattle.std.proofs.lemmas.Result.{on_ok_weaker}
use Rattle.bw_packed.specs.Pairs.{pair_of}
use Rattle.bw_packed.proofs.Views.{slice_range-map}
use Rattle.bw_packed.proofs.pairs.Pairs.extend.Goals as goal

pub returns-clause-ok : goal.returns-clause-ok
returns-clause-ok c =
    let range = c.parts.result.1 in
    let es = c.self.inside.entries in
    let fs = c.pairs.inside.entries in
    on_ok_weaker c.extend.result
    (λ is.
    ap (map pair_of) is
    ∙ map-append pair_of es (slice_range fs range.start range.end)
    ∙ ap (λ l. l ++ map pair_of (slice_range fs range.start range.end)) c.self.view_is
    ∙ ap (λ l. c.args.self.now ++ l) (sym (slice_range-map pair_of fs range.start range.end))
    ∙ ap (λ l. c.args.self.now ++ slice_range l range.start range.end) c.pairs.view_is
    ∙ ap (λ l. c.args.self.now ++ l) c.parts.ensures.run)
    c.extend.ensures.ok
