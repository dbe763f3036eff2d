use Rattle.std.proofs.Common.{[]}
use Rattle.std.proofs.lemmas.Result.{err_from_is_err_and}
use Rattle.bw_text.proofs.Misreading.{wrong_first, two_words}
use Rattle.bw_text.proofs.parse.key_with_value.Goals as goal

pub returns-in_err-key : goal.returns-in_err-key
returns-in_err-key c =
    let p = err_from_is_err_and c.from_residual.result c.from_residual.ensures.1 in
    let two = two_words c.args.words.now (record { ref_ptr = (0, 0); now = [] }) c.in-len2.len_at_least c.in-len2.len_below in
    rw (p.1, p.2, two) (wrong_first c.in_err-key.field-0.0 _ _ c.in_err-key.ensures)
