use Rattle.std.proofs.Common.{◌≡◌, map}
use Rattle.bw_delta.specs.declared.deltas.Delta.TheVariants.{AddChild}
use Rattle.bw_tree.proofs.tree.naming.added_children.Given as goal

abbrev pub invariant-loop-sep : goal.invariant-loop-sep
invariant-loop-sep l = l.deltas.items ≡ map (λ e. AddChild e.0 e.1) l.yielded
