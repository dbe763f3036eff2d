use Rattle.std.proofs.Common.{◌+◌, ◌∙◌, List, ℕ, ap, length, slice_range, sym}
use Rattle.std.specs.List.{sum_by}
use Rattle.bw_packed.specs.Pairs.{pair_of}
use Rattle.bw_packed.proofs.Views.{pairs_bytes, slice_range-map}
use Rattle.bw_packed.proofs.pairs.Pairs.bytes_in.Goals as goal

pub returns-clause-value : goal.returns-clause-value
returns-clause-value c =
    let i = c.args.range.start in
    let j = c.args.range.end in
    let size : List (List ℕ × List ℕ) → ℕ = λ l. sum_by (λ (pair : List ℕ × List ℕ). length pair.0 + length pair.1) l in
    c.bytes_in.ensures.value
    ∙ sym (pairs_bytes (slice_range c.self.inside.entries i j))
    ∙ ap size (sym (slice_range-map pair_of c.self.inside.entries i j))
    ∙ ap (λ l. size (slice_range l i j)) c.self.view_is
