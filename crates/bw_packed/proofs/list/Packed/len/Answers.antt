use Rattle.std.proofs.Common.{arith, length, ◌∙◌, sym, ap}
use Rattle.bw_packed.proofs.ListsLemmas.{length-unpacked}
use Rattle.bw_packed.proofs.list.Packed.len.Goals as goal

pub returns-clause-value : goal.returns-clause-value
returns-clause-value g c = c.len.ensures ∙ c.self.inside.entries.ok.0 ∙ sym (length-unpacked 0 c.self.inside.bytes.items c.self.inside.entries.items) ∙ ap length c.self.view_is

pub returns-clause-limit : goal.returns-clause-limit
returns-clause-limit g c = omega (arith, c.len.ensures, c.self.inside.entries.ok.1, c.self.inside.entries.small)
