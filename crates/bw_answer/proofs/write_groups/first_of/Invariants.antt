use Rattle.std.proofs.Common.{◌≡◌, true}
use Rattle.std.specs.List.{AllWithin}
use Rattle.std.specs.Ordering.{is_lt}
use Rattle.bw_key.specs.Order.{key_cmp}
use Rattle.bw_answer.proofs.write_groups.first_of.Given as goal

abbrev pub invariant-loop-start : goal.invariant-loop-start
invariant-loop-start l = AllWithin (λ w. is_lt (key_cmp w.now.key l.key) ≡ true) l.grouped 0 l.start
