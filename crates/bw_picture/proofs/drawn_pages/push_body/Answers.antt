use Rattle.std.proofs.Common.{append_assoc}
use Rattle.bw_picture.proofs.drawn_pages.push_body.Goals as goal

pub returns : goal.returns
returns c =
    rw (
      c.in_ok-push_chain.ensures,
      c.in_ok-push_fill.ensures,
      c.in_ok-push_lines.ensures,
      c.in_ok-push_box.ensures,
      c.in_ok-push_title.ensures,
    )
    (simp append_assoc)
