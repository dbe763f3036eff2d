use Rattle.std.proofs.Common.{◌≡◌, false, rules}
use Rattle.bw_tidy.proofs.DueLevelLemmas.{found_fits, found_leaf, leaf_lowest, not_back}
use Rattle.bw_tidy.proofs.findings.inspect.Goals as goal

pub returns-then-not-is_over-clause-found : goal.returns-then-not-is_over-clause-found
returns-then-not-is_over-clause-found c =
    let within : c.is_over.result ≡ false = search rules in
    record { leaf = tt; fits = λ off. c.is_over.ensures.within within; lowest = λ off level on. leaf_lowest c.args.tree.now c.know_levels.ensures.lawful c.args.page level on (c.is_leaf.ensures (not_back c.is_leaf.result off)) }

pub returns-clause-found : goal.returns-clause-found
returns-clause-found c =
    let tree = c.args.tree.now in
    let leaf = c.consolidated-leaf.result in
    record {
      leaf = c.consolidated-leaf.ensures;
      fits = λ off. found_fits tree c.args.limits.now c.args.page leaf (c.needs_more-is_due.ensures.some off) (c.needs_more-is_due.ensures.few off);
      lowest = λ off level on. leaf_lowest tree c.know_levels.ensures.lawful c.args.page level on (found_leaf tree c.know_levels.ensures.lawful c.args.stamp c.args.page leaf (c.needs_more-is_due.ensures.some off) c.consolidated-leaf.ensures);
    }
