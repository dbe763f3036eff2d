use Rattle.bw_tree.proofs.RestartLemmas.{restart_on}
use Rattle.bw_tree.proofs.tree.Tree.restart.Goals as goal

pub invariant_of-self : goal.invariant_of-self
invariant_of-self c =
    (restart_on c.self.inside.heads.items c.self.inside.chains.bases c.self.inside.chains.records c.self.inside.root c.self.inside.next c.self.inside.staged c.args.self.now c.self.invariant c.self.view_is c.requires.none c.requires.plain
    _ _ c.truncate.ensures.bases c.truncate.ensures.records).tree_is

pub returns-clause-value : goal.returns-clause-value
returns-clause-value c =
    (restart_on c.self.inside.heads.items c.self.inside.chains.bases c.self.inside.chains.records c.self.inside.root c.self.inside.next c.self.inside.staged c.args.self.now c.self.invariant c.self.view_is c.requires.none c.requires.plain
    _ _ c.truncate.ensures.bases c.truncate.ensures.records).view

pub returns-clause-contents : goal.returns-clause-contents
returns-clause-contents c =
    (restart_on c.self.inside.heads.items c.self.inside.chains.bases c.self.inside.chains.records c.self.inside.root c.self.inside.next c.self.inside.staged c.args.self.now c.self.invariant c.self.view_is c.requires.none c.requires.plain
    _ _ c.truncate.ensures.bases c.truncate.ensures.records).contents

pub returns-clause-bare : goal.returns-clause-bare
returns-clause-bare c =
    (restart_on c.self.inside.heads.items c.self.inside.chains.bases c.self.inside.chains.records c.self.inside.root c.self.inside.next c.self.inside.staged c.args.self.now c.self.invariant c.self.view_is c.requires.none c.requires.plain
    _ _ c.truncate.ensures.bases c.truncate.ensures.records).bare
