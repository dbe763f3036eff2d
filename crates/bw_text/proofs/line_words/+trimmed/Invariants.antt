use Rattle.std.proofs.Common.{length}
use Rattle.bw_text.proofs.line_words.+trimmed.Given as goal

abbrev pub decreases-trimmed : goal.decreases-trimmed
decreases-trimmed a = length a.digits.now
