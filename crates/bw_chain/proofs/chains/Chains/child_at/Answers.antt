use Rattle.std.proofs.Common.{sym, ap, ◌∙◌}
use Rattle.bw_level.specs.Splits.{slot_child}
use Rattle.bw_chain.proofs.BaseReadLemmas.{read_plain}
use Rattle.bw_chain.proofs.chains.Chains.child_at.Goals as goal

pub returns : goal.returns
returns c =
    c.child_in_place.ensures
    ∙ ap (slot_child c.args.place) (sym (read_plain c.args.self.now c.args.word c.base.result c.requires.ends c.requires.plain c.base.ensures))
