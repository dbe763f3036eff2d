use Rattle.std.proofs.Common.{append_assoc}
use Rattle.bw_picture.proofs.drawn_pages.push_box.Goals as goal

pub returns : goal.returns
returns c =
    rw (
      c.in_ok-extend_from_slice.ensures.items,
      c.as_bytes.ensures.value,
      c.in_ok-drawn.ensures.ok,
      c.pale-pale.ensures,
      c.accent-accent.ensures,
    )
    (simp append_assoc)
