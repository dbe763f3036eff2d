use Rattle.bw_steps.proofs.MergeStepLemmas.{decides_not, under_one}
use Rattle.bw_steps.proofs.merge_steps.are_under_one.Goals as goal

pub returns-in_default : goal.returns-in_default
returns-in_default c = decides_not (λ u. c.in_default.ensures u.0 u.1.0)

pub returns-in_default-namer : goal.returns-in_default-namer
returns-in_default-namer c = decides_not (λ u. c.in_default-namer.ensures u.0 u.1.1)

pub returns : goal.returns
returns c =
    under_one c.args.tree.now c.args.tree.now.root c.know_levels.ensures.lawful c.args.page c.args.other c.in-Some.parent c.in-Some-namer.namer c.in-Some.ensures c.in-Some-namer.ensures
    c.parent.inside.0 c.namer-3.inside.0 c.parent.view_is c.namer-3.view_is
