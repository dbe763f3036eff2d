use Rattle.std.proofs.Common.{subst, arith}
use Rattle.bw_look.specs.Routing.{IsInLevel}
use Rattle.bw_look.proofs.PageLemmas.{lowest_leaf}
use Rattle.bw_look.proofs.look.Look.state.Goals as goal

pub returns-then-level-eq0 : goal.returns-then-level-eq0
returns-then-level-eq0 c = (
  lowest_leaf c.args.self.now c.args.self.now.root c.know_levels.ensures.lawful c.args.page
      (subst (IsInLevel c.args.self.now c.args.page) (omega (arith, c.if-level-eq0.true)) c.in-Some.ensures.level),
  c.in_ok-leaf_as_of.ensures,
)

pub inner_page-requires : goal.inner_page-requires
inner_page-requires c = record {
  in_levels = record { level = c.in-Some.level; within = c.in-Some.ensures.level.0; in_level = c.in-Some.ensures.level.1 };
  raised = omega (arith, c.if-level-eq0.false);
}
