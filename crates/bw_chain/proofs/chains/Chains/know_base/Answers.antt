use Rattle.std.proofs.Common.{arith}
use Rattle.bw_chain.proofs.BaseReadLemmas.{base_page}
use Rattle.bw_chain.proofs.chains.Chains.know_base.Goals as goal

pub returns : goal.returns
returns c = base_page c.args.self.now c.args.number c.requires (omega (arith, c.number.view_is))
