use Rattle.std.proofs.Common.{◌≡◌, ◌≤◌, false}
use Rattle.std.specs.List.{AllWithin}
use Rattle.std.specs.Ordering.{is_lt}
use Rattle.bw_key.specs.Order.{key_cmp}
use Rattle.bw_answer.proofs.write_groups.end_of.Given as goal

abbrev pub invariant-loop-end : goal.invariant-loop-end
invariant-loop-end l = (l.fn.start ≤ l.end) × AllWithin (λ w. is_lt (key_cmp l.key w.now.key) ≡ false) l.grouped l.fn.start l.end
