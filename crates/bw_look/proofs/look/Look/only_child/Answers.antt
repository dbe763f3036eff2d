use Rattle.std.proofs.Common.{sym, subst, arith}
use Rattle.bw_level.specs.Roots.{HasOneChild}
use Rattle.bw_level.proofs.LoweringLemmas.{least_below, two}
use Rattle.bw_look.proofs.look.Look.only_child.Goals as goal

pub returns : goal.returns
returns c =
    let tree = c.args.self.now in
    let high = two tree.slots tree.root tree.levels c.requires.0 c.know_levels.ensures.lawful c.requires.1 in
    subst (HasOneChild tree.slots tree.root) (sym (least_below tree.slots tree.root tree.levels c.requires.0 c.know_levels.ensures.lawful c.requires.1 _ c.first_page.result (omega (arith, c.root_level.ensures, high)) c.first_page.ensures)) c.requires.1
