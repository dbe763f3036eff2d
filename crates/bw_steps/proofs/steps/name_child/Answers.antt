use Rattle.std.proofs.lemmas.Result.{on_ok_weaker}
use Rattle.bw_steps.proofs.FinishLemmas.{fits_inner, named_over}
use Rattle.bw_steps.proofs.steps.name_child.Goals as goal

pub rebase-requires-clause-page : goal.rebase-requires-clause-page
rebase-requires-clause-page c = fits_inner c.args.tree.now c.args.parent c.args.sep c.args.child c.requires.fits

pub returns-clause-ok : goal.returns-clause-ok
returns-clause-ok c =
    on_ok_weaker c.set_child.result
    (named_over c.args.tree.now c.rebase.new.tree c.set_child.new.self c.args.parent c.args.sep c.args.child c.in_ok-rebase.ensures.ok)
    c.set_child.ensures.ok
