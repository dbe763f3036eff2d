use Rattle.std.proofs.Common.{sym, ap, ◌∙◌}
use Rattle.std.specs.FinMap as map
use Rattle.std.specs.FinMap.{entries-from_sorted}
use Rattle.bw_key.specs.Order.{key_cmp}
use Rattle.std.proofs.lemmas.Result.{IfOk-weaker}
use Rattle.bw_model.proofs.reference.ReferenceMap.entries.Goals as goal

pub returns : goal.returns
returns c = IfOk-weaker c.packed.result _ _ (λ list is. is ∙ c.deref.ensures.value ∙ sym (entries-from_sorted key_cmp c.self.inside.pairs.items c.self.invariant) ∙ ap map.entries c.self.view_is) c.packed.ensures
