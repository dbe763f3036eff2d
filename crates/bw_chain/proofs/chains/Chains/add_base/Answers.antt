use Rattle.std.proofs.Common.{◌∙◌, Some, ap, sym, subst}
use Rattle.bw_level.specs.Changes.{Bases}
use Rattle.bw_chain.specs.Placing.{put_at}
use Rattle.bw_chain.specs.Removed.{HasAllRemoved}
use Rattle.bw_chain.proofs.RemovedBases.{all_put}
use Rattle.bw_chain.proofs.chains.Chains.add_base.Goals as goal

pub invariant_of-self-2 : goal.invariant_of-self-2
invariant_of-self-2 c =
    subst (λ (bs : Bases). HasAllRemoved bs c.self.inside.removed.items)
    (sym (c.put_base.ensures ∙ ap (λ (bs : Bases). put_at bs c.number.inside.0 (Some c.args.page)) c.in_ok-make_room.ensures.items))
    (all_put c.self.inside.bases.items c.number.inside.0 c.args.page c.self.inside.removed.items c.requires.page c.self.invariant)
