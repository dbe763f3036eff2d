use Rattle.bw_steps.proofs.SideLemmas.{no_side_link}
use Rattle.bw_steps.proofs.releasing.release.Goals as goal

pub returns-clause-beside : goal.returns-clause-beside
returns-clause-beside c = λ done.
    let tree = c.args.tree.now in
    no_side_link tree tree.root c.know_levels.ensures.lawful c.know_records.ensures.stand c.args.page (c.is_unreached.ensures.0 c.if-not-is_unreached.false)
