use Rattle.std.proofs.Common.{arith}
use Rattle.bw_packed.proofs.Packings.{as_many, is_there}
use Rattle.bw_packed.proofs.list.Packed.tag_at.Goals as goal

pub index-requires : goal.index-requires
index-requires g c = omega (arith, as_many c.self.inside.bytes.items c.self.inside.entries.items c.args.self.now c.self.view_is)

pub returns : goal.returns
returns g c =
    (is_there c.self.inside.bytes.items c.self.inside.entries.items c.args.self.now c.args.place c.index.result.now c.self.invariant c.self.view_is c.requires c.index.ensures).tag
