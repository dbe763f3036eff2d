use Rattle.std.proofs.Common.{◌∙◌, sym}
use Rattle.bw_tree.specs.Making.{IsOverLeaves}
use Rattle.bw_answer_tests.proofs.tests.making.three.Goals as goal

pub returns : goal.returns
returns g c = λ stamp. (let so : IsOverLeaves c.expect.result c.expect-leaves.result.items = rw c.expect.ensures at c.from_level.ensures in so.contents stamp ∙ sym (so.contents 0))
