use Rattle.std.proofs.Common.{take}
use Rattle.bw_page.proofs.MergingLemmas.{HasMerged}
use Rattle.bw_page.proofs.children.Children.with_all.Given as goal

abbrev pub invariant-loop-entry : goal.invariant-loop-entry
invariant-loop-entry l = HasMerged (take l.entry-index l.more) l.all l.self l.passed
