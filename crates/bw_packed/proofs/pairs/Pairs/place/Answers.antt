use Rattle.std.proofs.Common.{◌∙◌, ◌≤◌, Bool, List, ℕ, ap, arith, length, slice_range, sym}
use Rattle.std.specs.Ordering.{is_lt}
use Rattle.bw_key.specs.Order.{key_cmp}
use Rattle.bw_packed.specs.Pairs.{pair_of}
use Rattle.bw_packed.proofs.RunLemmas.{length_run}
use Rattle.bw_packed.proofs.Views.{as_many_seen, ends_seen, slice_range-map}
use Rattle.bw_packed.proofs.pairs.Pairs.place.Goals as goal

pub returns-clause-parts : goal.returns-clause-parts
returns-clause-parts c =
    let below : List ℕ × List ℕ → Bool = λ pair. is_lt (key_cmp pair.0 c.args.key.now) in
    let i = c.args.range.start in
    let j = c.args.range.end in
    let es = c.self.inside.entries in
    let stop : j ≤ length es = omega (arith, c.requires.within, as_many_seen pair_of es c.args.self.now c.self.view_is) in
    let within : c.place.result ≤ length (slice_range es i j) = omega (arith, c.place.ensures.bound, length_run es i j c.requires.ordered stop) in
    ends_seen pair_of below (slice_range es i j) (slice_range c.args.self.now i j) c.place.result
    (sym (slice_range-map pair_of es i j) ∙ ap (λ l. slice_range l i j) c.self.view_is) within c.place.ensures.parts
