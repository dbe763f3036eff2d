use Rattle.bw_tidy.specs.Findings.{IsFinding}
use Rattle.bw_tidy.proofs.FindingsLemmas.{all_with_last, next_page}
use Rattle.bw_tidy.proofs.leaf_findings.Findings.of_pages.Goals as goal

pub loop-page-preserved : goal.loop-page-preserved
loop-page-preserved c =
    let i = c.loop-page.invariant in
    record {
      pages = next_page c.loop-page.findings.items c.push.new.self.items c.finding_of.result c.args.pages.now c.loop-page.page-index c.page-item.result c.loop-page-test.true c.page-item.is c.finding_of.ensures.page c.in_ok-push.ensures.items i.pages;
      found = λ tree stamp are.
          let before = i.found tree stamp are in
          let taken = c.finding_of.ensures.found tree c.args.self.limits stamp before.1 in
          (all_with_last (IsFinding tree c.args.self.limits stamp) c.loop-page.findings.items c.push.new.self.items c.finding_of.result c.in_ok-push.ensures.items before.0 taken.0, taken.1);
    }

pub returns-clause-found : goal.returns-clause-found
returns-clause-found c = λ tree stamp are. (c.loop-page.invariant.found tree stamp are).0
