use Rattle.std.proofs.Common.{List, take, sym, ap, ◌∙◌}
use Rattle.std.specs.Prelude.{filter}
use Rattle.std.specs.Option.{option_copied}
use Rattle.std.specs.FinMap.{entries, entries-from_sorted}
use Rattle.bw_key.specs.Order.{key_cmp}
use Rattle.bw_model.specs.Contents.{is_pair_in_range}
use Rattle.bw_model.specs.Values.{Pair}
use Rattle.std.proofs.lemmas.Result.{IfOk-weaker}
use Rattle.bw_model.proofs.reference.ReferenceMap.scan.Goals as goal

pub returns : goal.returns
returns c =
    let test = is_pair_in_range c.args.from.now (option_copied c.args.to) in
    IfOk-weaker c.first_of.result _ _ (λ list is. is
    ∙ ap (λ (es : List Pair). take c.args.most (filter test es)) (c.deref.ensures.value
    ∙ sym (entries-from_sorted key_cmp c.self.inside.pairs.items c.self.invariant) ∙ ap entries c.self.view_is)) c.first_of.ensures
