use Rattle.std.proofs.Common.{append_assoc}
use Rattle.bw_picture.proofs.drawing.push_head.Goals as goal

pub returns : goal.returns
returns c =
    rw (
      c.in_ok-extend_from_slice-2.ensures.items,
      c.in_ok-extend_from_slice.ensures.items,
      c.as_bytes.ensures.value,
      c.in_ok-head.ensures.ok,
    )
    (simp append_assoc)
