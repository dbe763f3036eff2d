use Rattle.std.proofs.Common.{◌≡◌, ◌++◌, take, length}
use Rattle.std.specs.List.{flat_map}
use Rattle.std.specs.Fmt.{decimal}
use Rattle.bw_text.specs.Texts.{line, pair_text}
use Rattle.bw_text.proofs.texts.push_pairs.Given as goal

abbrev pub invariant-loop-place : goal.invariant-loop-place
invariant-loop-place l = l.text.items ≡ l.fn.text.items ++ (line (l.word ++ decimal (length l.pairs)) ++ flat_map pair_text (take l.place l.pairs))
