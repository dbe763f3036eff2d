use Rattle.std.proofs.Common.{◌<◌, length, Some, sym, ap, ◌∙◌, arith}
use Rattle.std.proofs.lemmas.Bool.Decides.{nat_tests}
use Rattle.bw_key.specs.Order.{KeyBytes}
use Rattle.bw_model.specs.Contents.{is_below_end}
use Rattle.bw_level.specs.declared.target.Target.TheVariants.{Before}
use Rattle.bw_look.proofs.PageLemmas.{found_left, no_byte, none_first, none_off, some_byte}
use Rattle.bw_look.proofs.look.Look.left_of.Goals as goal

pub returns-in_default : goal.returns-in_default
returns-in_default c = none_off c.args.self.now c.args.self.now.root c.know_levels.ensures.lawful c.args.page c.in_default.ensures.level

pub returns-then-is_empty : goal.returns-then-is_empty
returns-then-is_empty c =
    none_first c.args.self.now c.args.self.now.root c.know_levels.ensures.lawful c.args.page
    (sym c.low-low.ensures ∙ no_byte c.low-low.result.now (grind (arith, nat_tests, c.is_empty.ensures, c.if-is_empty.true, c.bytes.ensures.value)))

pub returns : goal.returns
returns c =
    let low = c.low-low.result in
    let some : 0 < length low.now = grind (arith, nat_tests, c.is_empty.ensures, c.if-is_empty.false, c.bytes.ensures.value) in
    found_left c.args.self.now c.args.self.now.root c.know_levels.ensures.lawful c.args.page c.in-Some.level c.in-Some.ensures.level (Before (Some low))
    (λ k. ap (λ (key : KeyBytes). is_below_end (Some key) k) c.low-low.ensures) (some_byte low.now some) c.on_level.result c.on_level.ensures
