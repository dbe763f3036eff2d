use Rattle.std.proofs.Common.{rules, ◌≡◌, ◌==◌, not, map, length, vec_items}
use Rattle.std.proofs.lemmas.Iterator.Consumers.{map_from_collect, YieldsList-from_filter, YieldsList-at}
use Rattle.std.proofs.lemmas.Iterator.Splits.{YieldsList-from_slice_split}
use Rattle.std.proofs.lemmas.Result.{IfOk-at_ok}
use Rattle.bw_text.specs.Grammar.{words_of}
use Rattle.bw_text.proofs.parse.words_in.Goals as goal

pub returns : goal.returns
returns c =
    IfOk-at_ok (λ w. map (λ x. x.now) (vec_items w) ≡ words_of c.args.line.now) c.in_ok-words.was (
    map_from_collect _ c.collect.ensures.ran (
    YieldsList-from_filter _ (λ w. not (length w == 0))
    (YieldsList-at c.filter.ensures.source (YieldsList-from_slice_split _ (λ b. b == 32) c.args.line.now c.split.ensures.rest c.split.ensures.done c.split.ensures.closure (λ x b q k. search rules)))
    c.filter.ensures.closure (λ x b q k. search rules)))
