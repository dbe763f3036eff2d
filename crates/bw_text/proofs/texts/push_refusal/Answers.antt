use Rattle.std.proofs.Common.{codes}
use Rattle.std.specs.Fmt.{decimal}
use Rattle.bw_text.proofs.Writing.{two_numbers}
use Rattle.bw_text.proofs.texts.push_refusal.Goals as goal

pub returns-in_ok-push-in-TooLong-2 : goal.returns-in_ok-push-in-TooLong-2
returns-in_ok-push-in-TooLong-2 c =
    rw (
      c.in-TooLong.is,
      c.in_ok-push-in-TooLong-2.ensures.items,
      c.in_ok-push_number-in-TooLong-2.ensures,
      c.in_ok-push-in-TooLong.ensures.items,
      c.in_ok-push_number-in-TooLong.ensures,
      c.in_ok-extend_from_slice-in-TooLong.ensures.items,
    )
    (two_numbers c.args.text.now.items (codes "refused long ") (decimal c.in-TooLong.ops) (decimal c.in-TooLong.most))
