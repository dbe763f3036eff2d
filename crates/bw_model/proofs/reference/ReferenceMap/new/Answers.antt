use Rattle.bw_model.proofs.Maps.{from_nothing}
use Rattle.bw_model.proofs.reference.ReferenceMap.new.Goals as goal

pub returns : goal.returns
returns c = from_nothing _ c.new.ensures.items
