use Rattle.std.proofs.Common.{◌++◌, List, length, take, ap, ◌∙◌}
use Rattle.std.specs.Prelude.{filter}
use Rattle.std.specs.Option.{option_copied}
use Rattle.bw_model.specs.Contents.{is_pair_in_range}
use Rattle.bw_model.specs.Values.{Pair}
use Rattle.bw_scan.proofs.GapLemmas.{is_empty, none_there}
use Rattle.bw_scan.proofs.scans.ReadLeaf.has_pairs.Goals as goal

pub returns-in-Ok : goal.returns-in-Ok
returns-in-Ok c none key inside =
    let leaf = c.args.self.now in
    let pairs = leaf.replay.pairs in
    none_there leaf.low.now (option_copied leaf.end) pairs
    (is_empty (take 1 (filter (is_pair_in_range leaf.low.now (option_copied leaf.end)) pairs)) c.len.result none
    (c.len.ensures ∙ ap length (c.in-Ok.ensures.added ∙ ap (λ (l : List Pair). l ++ take 1 (filter (is_pair_in_range leaf.low.now (option_copied leaf.end)) pairs)) c.new-first.ensures)))
    key inside
