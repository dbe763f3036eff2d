use Rattle.std.proofs.Common.{◌≡◌, ℕ, ◌<◌, None, length, slice_index_or}
use Rattle.bw_look.specs.Folding.{spare_of}
use Rattle.bw_look.proofs.look.Look.spare.Given as goal

abbrev pub invariant-loop-page : goal.invariant-loop-page
invariant-loop-page l =
    (length l.spares.items ≡ l.page) × ((p : ℕ) → p < l.page → slice_index_or l.spares.items p None ≡ spare_of l.self l.chain_max p)
