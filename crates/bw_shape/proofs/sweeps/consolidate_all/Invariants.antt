use Rattle.bw_shape.specs.Sweeps.{ArePlainBelow, HoldsSame}
use Rattle.bw_shape.proofs.SweepLemmas.{KeepsAllPlain}
use Rattle.bw_shape.proofs.sweeps.consolidate_all.Given as goal

abbrev pub invariant-loop-page : goal.invariant-loop-page
invariant-loop-page l = record {
  same : HoldsSame l.fn.tree l.tree;
  plain : ArePlainBelow l.tree l.page;
  kept : KeepsAllPlain l.fn.tree l.tree;
}
