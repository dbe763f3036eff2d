use Rattle.std.proofs.Common.{sym, ap, ◌∙◌}
use Rattle.bw_text.specs.Spelling.{is_plain_word}
use Rattle.bw_picture.proofs.Letters.{letters_of_digits}
use Rattle.bw_picture.proofs.keys.key_letters.Goals as goal

pub returns-else-is_spelled_plain-clause-value : goal.returns-else-is_spelled_plain-clause-value
returns-else-is_spelled_plain-clause-value c =
    let plain =
    sym (ap is_plain_word c.bytes-2.ensures.value) ∙ sym c.is_spelled_plain.ensures ∙ c.if-is_spelled_plain.false in
    rw c.bytes.ensures.value (letters_of_digits c.args.key.now plain)
