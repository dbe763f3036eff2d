-- All pairs of an index, as a scan of its tree answers them.
use Rattle.std.proofs.Common.{◌≡◌, List, [], None, ap, ◌∙◌}
use Rattle.std.specs.Prelude.{Result, Ok, Err, IfOk}
use Rattle.std.specs.FinMap.{entries}
use Rattle.bw_key.specs.Order.{KeyBytes}
use Rattle.bw_model.specs.Contents.{Contents, pairs_of_range}
use Rattle.bw_model.specs.Values.{ValueBytes}
use Rattle.bw_delta.proofs.Replays.{all_in_range}

pub all_pairs : {E : Type 0} (r : Result (List (KeyBytes × ValueBytes)) E) (m : Contents ValueBytes) (from : KeyBytes) → from ≡ [] → IfOk r (λ pairs. pairs ≡ pairs_of_range m from None) → IfOk r (λ pairs. pairs ≡ entries m)
all_pairs (Ok pairs) m from least so = so ∙ ap (λ k. pairs_of_range m k None) least ∙ all_in_range (entries m)
all_pairs (Err error) m from least so = so
