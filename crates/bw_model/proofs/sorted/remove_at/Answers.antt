use Rattle.std.proofs.Common.{rules, not}
use Rattle.std.proofs.lemmas.Fn.{filter_same}
use Rattle.bw_key.specs.Order.{key_eq}
use Rattle.bw_model.specs.Values.{Pair}
use Rattle.bw_model.proofs.sorted.remove_at.Goals as goal

pub returns : goal.returns
returns c = filter_same _ (λ (pair : Pair). not (key_eq c.args.key.now pair.0)) _ (λ pair b f called. search rules) _ _ c.retain.ensures.filtered
