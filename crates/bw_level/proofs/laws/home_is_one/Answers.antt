use Rattle.bw_level.proofs.HomeLemmas.{one_home}
use Rattle.bw_level.proofs.laws.home_is_one.Goals as goal

pub returns : goal.returns
returns c = λ slots root levels key p q lawful. one_home slots root levels lawful key p q
