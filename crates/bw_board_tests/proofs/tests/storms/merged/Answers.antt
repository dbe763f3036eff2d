use Rattle.std.proofs.Common.{ap}
use Rattle.bw_board.proofs.WorkingLemmas.{all_joined}
use Rattle.bw_board_tests.proofs.tests.storms.merged.Goals as goal

pub returns-clause-posted : goal.returns-clause-posted
returns-clause-posted c = all_joined c.args.board.now.first c.args.first c.args.second c.join.result c.requires.first c.requires.second (ap (λ z. z.book) c.join.ensures.joined)
