use Rattle.std.proofs.Common.{sym, ap, ◌∙◌}
use Rattle.bw_page.specs.declared.pages.Page.{Page}
use Rattle.bw_level.specs.Changes.{plain}
use Rattle.bw_level.specs.Scans.{high_of}
use Rattle.bw_level.specs.Targets.{lies_past}
use Rattle.bw_level.proofs.TurnLemmas.{none_there, stays}
use Rattle.bw_level.proofs.turns.turn_plain.Goals as goal
use Rattle.bw_level.proofs.turns.turn_plain.Goals.{in-Leaf, in-Inner, in-Gone}

pub returns-in-None : goal.returns-in-None
returns-in-None c =
    let past = lies_past c.args.target in
    stays c.args.target (plain c.args.base.now) c.turn_within.result
    (elim c.match-base.branch [
      | in-Leaf w ↦ ap (λ (p : Page). past (high_of (plain p))) w.in-Leaf.is ∙ sym (ap past w.high.ensures) ∙ none_there _ _ _ _ c.in-None.is w.next-is w.past-next.ensures
      | in-Inner w ↦ ap (λ (p : Page). past (high_of (plain p))) w.in-Inner.is ∙ sym (ap past w.high-in-Inner.ensures) ∙ none_there _ _ _ _ c.in-None.is w.next-is w.past-next-in-Inner.ensures
      | in-Gone w ↦ ap (λ (p : Page). past (high_of (plain p))) w.in-Gone.is
    ])
    c.turn_within.ensures
