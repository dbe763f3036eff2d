use Rattle.std.proofs.Common.{sym, ap, ◌∙◌}
use Rattle.std.specs.FinMap.{get, find}
use Rattle.bw_key.specs.Order.{key_cmp}
use Rattle.bw_model.specs.Contents.{Contents}
use Rattle.bw_model.specs.Values.{ValueBytes}
use Rattle.bw_model.proofs.Maps.{get_from}
use Rattle.bw_model.proofs.reference.ReferenceMap.get.Goals as goal

pub returns : goal.returns
returns c =
    let key = c.args.key.now in
    c.value_at.ensures ∙ ap (find key_cmp key) c.deref.ensures.value
    ∙ sym (get_from c.self.inside.pairs.items key c.self.invariant) ∙ ap (λ (m : Contents ValueBytes). get m key) c.self.view_is
