use Rattle.std.proofs.Common.{◌≡◌, ◌<◌, ◌^◌, drop}
use Rattle.bw_text.specs.Grammar.{number_behind}
use Rattle.bw_text.proofs.line_words.number_of_digits.Given as goal

abbrev pub invariant-loop-b : goal.invariant-loop-b
invariant-loop-b l = record {
  fits : l.number < 2 ^ 64;
  rest : number_behind l.number (drop l.b-index l.word) ≡ number_behind 0 l.word;
}
