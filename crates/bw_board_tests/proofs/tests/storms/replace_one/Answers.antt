use Rattle.bw_board.proofs.WorkingLemmas.{tries_won, tries_late}
use Rattle.bw_board_tests.proofs.tests.storms.replace_one.Goals as goal

pub returns-in-Won-clause-others : goal.returns-in-Won-clause-others
returns-in-Won-clause-others c = λ q h. tries_won c.args.seat.now c.replace.new.seat c.args.page q (c.replace.ensures.won c.in-Won.is) h

pub returns-in-Late-clause-others : goal.returns-in-Late-clause-others
returns-in-Late-clause-others c = λ q h. tries_late c.args.seat.now c.replace.new.seat c.args.page q (c.replace.ensures.late c.in-Late.is) h
