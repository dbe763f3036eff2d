use Rattle.std.proofs.Common.{ap, ◌∙◌, arith}
use Rattle.bw_model.specs.Contents.{pairs_of_range}
use Rattle.bw_look.specs.View.{contents_at}
use Rattle.std.specs.Prelude.{None}
use Rattle.bw_delta.proofs.Replays.{all_found}
use Rattle.bw_batch.proofs.index.pairs_from.Goals as goal

pub returns : goal.returns
returns c =
    all_found 18446744073709551615 c.in_ok-pairs.pairs _ c.in_ok-pairs.ensures (omega (arith, c.if-len.false, c.len.ensures, c.len.type_inv))
    ∙ ap (λ n. pairs_of_range (contents_at c.args.tree.now n) c.args.from.now None) c.next_stamp.ensures
