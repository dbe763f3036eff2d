use Rattle.std.proofs.Common.{append_assoc}
use Rattle.bw_picture.proofs.drawing.push_place.Goals as goal

pub returns : goal.returns
returns c =
    rw (
      c.in_ok-extend_from_slice.ensures.items,
      c.as_bytes.ensures.value,
      c.in_ok-place.ensures.ok,
    )
    (simp append_assoc)
