use Rattle.std.proofs.Common.{◌≤◌, List, ap, sym, ◌∙◌, subst, arith}
use Rattle.bw_delta.specs.Writes.{WriteView}
use Rattle.bw_delta.specs.History.{action_at, pointed_to}
use Rattle.bw_delta.specs.Readings.{ReadingView}
use Rattle.bw_delta.specs.Rising.{HasRisingStamps}
use Rattle.bw_delta.proofs.Batches.{from_lower}
use Rattle.bw_delta.proofs.Histories.{none_below, quiet}
use Rattle.bw_delta.proofs.Readings.{all_left, left_rises}
use Rattle.bw_delta.proofs.reading.Reading.advance.Goals as goal

pub passed-requires : goal.passed-requires
passed-requires c = from_lower 0 c.self.inside.stamp (pointed_to c.self.inside.rest.now) (omega arith) c.self.invariant

pub invariant_of-self : goal.invariant_of-self
invariant_of-self c =
    subst (λ (ws : List WriteView). HasRisingStamps c.args.stamp ws) (sym c.passed.ensures.rest)
    (left_rises c.args.stamp c.self.inside.stamp (pointed_to c.self.inside.rest.now) c.self.invariant)

pub returns-clause-back : goal.returns-clause-back
returns-clause-back c = λ le.
    let left = pointed_to c.self.inside.rest.now in
    let at = c.self.inside.stamp in
    let below : c.args.stamp ≤ at = omega (arith, le, ap (λ (v : ReadingView). v.stamp) c.self.view_is) in (
      c.passed.ensures.value ∙ quiet _ (action_at left) c.args.stamp (λ t lt. none_below at left t c.self.invariant (omega (arith, lt, below))) ∙ ap (λ (v : ReadingView). v.value) c.self.view_is,
      c.passed.ensures.rest ∙ all_left c.args.stamp at left below c.self.invariant ∙ ap (λ (v : ReadingView). v.rest) c.self.view_is,
    )
