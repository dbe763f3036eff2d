use Rattle.std.proofs.Common.{append_assoc}
use Rattle.bw_picture.proofs.drawn_pages.push_bar.Goals as goal

pub returns : goal.returns
returns c =
    rw (
      c.in_ok-extend_from_slice-2.ensures.items,
      c.as_bytes.ensures.value,
      c.in_ok-drawn.ensures.ok,
      c.filled-filled.ensures,
      c.accent-accent.ensures,
      c.in_ok-extend_from_slice.ensures.items,
    )
    (simp append_assoc)
