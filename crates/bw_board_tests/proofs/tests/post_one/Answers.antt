use Rattle.std.proofs.Common.{arith}
use Rattle.bw_board.proofs.WorkingLemmas.{left_next, left_none, left_over}
use Rattle.bw_board_tests.proofs.tests.post_one.Goals as goal

pub post-lost-requires-clause-own : goal.post-lost-requires-clause-own
post-lost-requires-clause-own g c = (left_next c.args.seat.now c.args.number _ c.requires.once c.requires.left (omega arith)).0

pub post-lost-requires-clause-unposted : goal.post-lost-requires-clause-unposted
post-lost-requires-clause-unposted g c = (left_next c.args.seat.now c.args.number _ c.requires.once c.requires.left (omega arith)).1

pub returns-clause-posted : goal.returns-clause-posted
returns-clause-posted g c = left_none c.post-lost.new.seat _ (left_over c.args.seat.now c.post-lost.new.seat c.args.number _ _ c.post-lost.result.lost c.requires.left (omega arith) c.post-lost.ensures.posted)
