use Rattle.std.proofs.Common.{◌∙◌, sym, subst}
use Rattle.bw_delta.specs.History.{HasDistinctStamps}
use Rattle.bw_level.specs.Slots.{slot_at}
use Rattle.bw_scan.proofs.scans.ReadLeaf.new.Goals as goal

pub replay-requires : goal.replay-requires
replay-requires c = subst HasDistinctStamps (sym c.in_ok-leaf.ensures.leaf.writes) (c.know_homes.ensures.distinct c.args.page c.requires)

pub returns-clause-leaf : goal.returns-clause-leaf
returns-clause-leaf c =
    let is = c.in_ok-leaf.ensures.leaf in
    record {
      low = c.low.ensures.value ∙ is.low;
      end = is.end;
      replay = c.in_ok-replay.ensures.replay (slot_at c.args.tree.now.slots c.args.page) is;
    }
