use Rattle.std.proofs.Common.{append_assoc}
use Rattle.bw_picture.proofs.drawn_pages.push_lines.Goals as goal

pub returns : goal.returns
returns c =
    rw (
      c.in_ok-extend_from_slice-4.ensures.items,
      c.in_ok-push_high.ensures,
      c.in_ok-extend_from_slice-3.ensures.items,
      c.in_ok-push_spelled.ensures,
      c.bytes.ensures.value,
      c.in_ok-extend_from_slice-2.ensures.items,
      c.in_ok-push_name.ensures,
      c.in_ok-extend_from_slice.ensures.items,
      c.as_ref.ensures.value,
    )
    (simp append_assoc)
