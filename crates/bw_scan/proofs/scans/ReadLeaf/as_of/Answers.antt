use Rattle.bw_level.specs.Reading.{base_of, writes_over}
use Rattle.bw_level.specs.Scans.{high_of}
use Rattle.bw_scan.proofs.scans.ReadLeaf.as_of.Goals as goal

pub returns-clause-leaf : goal.returns-clause-leaf
returns-clause-leaf c slot leaf = record {
  low = leaf.low;
  end = leaf.end;
  replay = c.in_ok-replay.ensures.replay (base_of slot) (high_of slot) (writes_over slot) leaf.replay;
}
