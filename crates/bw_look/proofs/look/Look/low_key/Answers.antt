use Rattle.std.proofs.Common.{◌∙◌, sym, ap}
use Rattle.bw_level.specs.Before.{low_at}
use Rattle.bw_level.specs.Slots.{slot_at}
use Rattle.bw_chain.proofs.OwnBaseLemmas.{low_of_base}
use Rattle.bw_look.specs.View.{TreeView}
use Rattle.bw_look.proofs.look.Look.low_key.Goals as goal

pub returns : goal.returns
returns c =
    c.low.ensures
    ∙ sym (low_of_base c.self.inside.heads.now.items c.self.inside.chains.now.bases c.self.inside.chains.now.records c.self.invariant.now.own c.args.page)
    ∙ ap (λ (v : TreeView). low_at (slot_at v.slots c.args.page)) c.self.view_is
