use Rattle.std.proofs.Common.{◌≡◌, take, drop}
use Rattle.std.specs.List.{concat}
use Rattle.bw_shape.proofs.page_lists.inner_pages.Given as goal

abbrev pub invariant-loop-level : goal.invariant-loop-level
invariant-loop-level l = l.pages.items ≡ concat (take l.level (drop 1 l.tree.levels))
