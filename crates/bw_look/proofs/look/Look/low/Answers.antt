use Rattle.std.proofs.Common.{◌≡◌, Some, None, sym, ap, ◌∙◌}
use Rattle.std.specs.Option.{option_copied}
use Rattle.bw_key.specs.Order.{KeyBytes}
use Rattle.bw_look.proofs.PageLemmas.{low_at_is}
use Rattle.bw_look.proofs.look.Look.low.Goals as goal

none_some : {k : KeyBytes} → None ≡ Some k → ⊥
none_some e = cc

one_key : {h k : KeyBytes} → Some h ≡ Some k → h ≡ k
one_key e = cc

pub unreachable-requires : goal.unreachable-requires
unreachable-requires c =
    none_some (sym (ap option_copied c.in-None.is) ∙ c.low_key.ensures ∙ low_at_is c.args.self.now c.args.self.now.root c.know_levels.ensures.lawful c.args.page c.requires)

pub returns : goal.returns
returns c =
    one_key (sym (ap option_copied c.in-Some.is) ∙ c.low_key.ensures ∙ low_at_is c.args.self.now c.args.self.now.root c.know_levels.ensures.lawful c.args.page c.requires)
