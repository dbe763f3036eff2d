use Rattle.std.proofs.Common.{◌≡◌, ◌++◌, List, ℕ, take}
use Rattle.std.specs.Io.KnownBytes.{Appends}
use Rattle.bw_text.specs.Texts.{replies_text}
use Rattle.bw_text.proofs.texts.print_replies.Given as goal

abbrev pub invariant-loop-reply : goal.invariant-loop-reply
invariant-loop-reply g l = record {
  written : (front : List ℕ) × Appends (g.W.Outlet.contents l.fn.out) (g.W.Outlet.contents l.out) front × (replies_text (take l.reply-index l.replies) ≡ front ++ l.text.items);
  none_failed : g.W.Outlet.failures l.out ≡ g.W.Outlet.failures l.fn.out;
}
