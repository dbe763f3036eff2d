use Rattle.std.proofs.Common.{rules}
use Rattle.bw_core.specs.Transitions.{IsSeat}
use Rattle.bw_core.proofs.Allowed.{link_allowed, is_zero}
use Rattle.bw_world.proofs.state.State.may_link.Goals as goal

pub returns-then-not-has_posted : goal.returns-then-not-has_posted
returns-then-not-has_posted c = let b = c.in_ok-book.book.now in let seat : IsSeat c.args.self.now c.args.seat b = search rules in
    link_allowed c.args.self.now c.args.seat c.args.rec c.args.page b c.resumes.result seat (c.has_page.ensures.0 c.if-has_page.true) (c.owns.ensures.0 c.if-owns.true) (is_zero c.has_posted.result _ c.if-not-has_posted.true c.has_posted.ensures) c.resumes.ensures
