use Rattle.std.proofs.Common.{refl, sym, ◌∙◌}
use Rattle.std.specs.Option.{option_copied}
use Rattle.bw_look.specs.View.{contents_at}
use Rattle.bw_scan.proofs.ReplayLemmas.{begins}
use Rattle.bw_scan.proofs.scans.Scans.scan.Goals as goal

pub returns-then-asks_for_none-clause-pairs : goal.returns-then-asks_for_none-clause-pairs
returns-then-asks_for_none-clause-pairs c =
    c.new-read.ensures
    ∙ sym (c.if-asks_for_none.ensures.none refl (contents_at c.args.self.now.tree c.args.stamp)).0

pub scan_on-requires : goal.scan_on-requires
scan_on-requires c = begins c.args.self.now.tree c.args.stamp c.args.most c.args.from.now (option_copied c.args.to) c.new-read.result c.new-read.ensures
