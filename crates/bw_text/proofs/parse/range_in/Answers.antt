use Rattle.std.proofs.Common.{[]}
use Rattle.std.proofs.lemmas.Result.{err_from_is_err_and}
use Rattle.bw_text.proofs.Misreading.{wrong_first, three_words}
use Rattle.bw_text.proofs.parse.range_in.Goals as goal

pub returns-in_err-from : goal.returns-in_err-from
returns-in_err-from c =
    let p = err_from_is_err_and c.from_residual.result c.from_residual.ensures.1 in
    let three = three_words c.args.words.now (record { ref_ptr = (0, 0); now = [] }) c.in-len3.len_at_least c.in-len3.len_below in
    rw (p.1, p.2, three) (wrong_first c.in_err-from.field-0.0 _ _ c.in_err-from.ensures)

pub returns-in_err-to : goal.returns-in_err-to
returns-in_err-to c =
    let p = err_from_is_err_and c.from_residual-in_err-to.result c.from_residual-in_err-to.ensures.1 in
    let three = three_words c.args.words.now (record { ref_ptr = (0, 0); now = [] }) c.in-len3.len_at_least c.in-len3.len_below in
    rw (p.1, p.2, three, c.in_ok-from.ensures) (wrong_first c.in_err-to.field-0.0 _ _ c.in_err-to.ensures)
