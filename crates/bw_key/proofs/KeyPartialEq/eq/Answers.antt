use Rattle.std.proofs.Common.{sym, ap, ◌∙◌}
use Rattle.std.specs.Ordering.{is_eq}
use Rattle.bw_key.specs.Order.{key_ties}
use Rattle.bw_key.proofs.KeyPartialEq.eq.Goals as goal

pub returns : goal.returns
returns c = c.is_eq.ensures ∙ ap is_eq c.cmp.ensures ∙ sym (key_ties c.args.self.now c.args.other.now)
