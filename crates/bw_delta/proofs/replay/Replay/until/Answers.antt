use Rattle.std.proofs.Common.{◌≡◌, ℕ, ◌-◌, List, drop, length, length-drop, sym, ap, subst, ◌∙◌, take, arith}
use Rattle.std.proofs.lemmas.List.{take_all}
use Rattle.std.specs.Prelude.{slice_get}
use Rattle.std.specs.Borrow.{Bor}
use Rattle.std.specs.Option.{option_copied}
use Rattle.bw_delta.specs.Writes.{WriteView}
use Rattle.bw_delta.specs.History.{pointed_to}
use Rattle.bw_delta.specs.Rising.{HasRisingStamps}
use Rattle.bw_delta.specs.Replays.{ReplayView, StaysUntil}
use Rattle.bw_delta.proofs.Replays.{rises_from_first, rises_where_none, stays}
use Rattle.bw_delta.proofs.replay.Replay.until.Goals as goal

pub returns-in-Some : goal.returns-in-Some
returns-in-Some c key stamp le upto =
    let passed = c.self.inside.passed in
    let all = c.deref.result.now in
    let left : take (length all - passed) (drop passed all) ≡ drop passed c.self.inside.writes.items =
    take_all _ (drop passed all) (omega (arith, length-drop passed all)) ∙ ap (drop passed) c.deref.ensures.value
    in
    let first = ap (λ (l : List (Bor WriteView)). slice_get l 0) (sym left) ∙ sym c.first.ensures.value ∙ ap option_copied c.in-Some.is in
    let until = c.stamp.result in
    subst (λ (v : ReplayView). StaysUntil v until) c.self.view_is
    (stays _ until (subst (λ (n : ℕ). HasRisingStamps n (pointed_to (drop passed c.self.inside.writes.items))) (sym c.stamp.ensures)
    (rises_from_first c.self.inside.stamp (drop passed c.self.inside.writes.items) _ first c.self.invariant.1))) key stamp le upto

pub returns-in-None : goal.returns-in-None
returns-in-None c key stamp le upto =
    let passed = c.self.inside.passed in
    let all = c.deref.result.now in
    let left : take (length all - passed) (drop passed all) ≡ drop passed c.self.inside.writes.items =
    take_all _ (drop passed all) (omega (arith, length-drop passed all)) ∙ ap (drop passed) c.deref.ensures.value
    in
    let first = ap (λ (l : List (Bor WriteView)). slice_get l 0) (sym left) ∙ sym c.first.ensures.value ∙ ap option_copied c.in-None.is in
    subst (λ (v : ReplayView). StaysUntil v 18446744073709551615) c.self.view_is
    (stays _ 18446744073709551615 (rises_where_none 18446744073709551615 (drop passed c.self.inside.writes.items) first)) key stamp le upto
