use Rattle.bw_core.proofs.Events.{replace_keeps_late}
use Rattle.bw_core.proofs.laws.replace_keeps_late.Goals as goal

pub returns : goal.returns
returns c = replace_keeps_late
