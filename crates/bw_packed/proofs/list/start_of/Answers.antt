use Rattle.std.proofs.Common.{sym}
use Rattle.bw_packed.proofs.Packings.{start_behind}
use Rattle.bw_packed.proofs.list.start_of.Goals as goal

pub returns-else-place-eq0 : goal.returns-else-place-eq0
returns-else-place-eq0 g c = sym (start_behind c.args.place c.args.entries.now c.index-entries-place.result c.if-place-eq0.false c.requires)
