use Rattle.std.proofs.Common.{◌≡◌, length, rules, ap, sym, ◌∙◌, subst, arith}
use Rattle.bw_tidy.specs.Findings.{IsFinding}
use Rattle.bw_tidy.specs.declared.findings.Finding.{Finding}
use Rattle.bw_tidy.proofs.PutLeafLemmas.{all_each, same_pages}
use Rattle.bw_tidy.proofs.leaf_workers.inspect_all.Goals as goal

pub returns-clause-pages : goal.returns-clause-pages
returns-clause-pages g c =
    let len : length c.for_each_mut.new.s ≡ length c.args.findings.now = search rules in
    same_pages c.args.findings.now c.for_each_mut.new.s len (λ i d lt. (let call = (c.for_each_mut.ensures i d lt).1 in ap (λ (l : Finding). l.page) (sym call.left) ∙ call.call.0 ∙ ap (λ (l : Finding). l.page) call.argument_is))

pub returns-clause-found : goal.returns-clause-found
returns-clause-found g c =
    let len : length c.for_each_mut.new.s ≡ length c.args.findings.now = search rules in
    all_each (IsFinding c.args.tree.now c.args.limits.now c.args.tree.now.next) c.for_each_mut.new.s (λ i d lt. (let call = (c.for_each_mut.ensures i d (omega (arith, lt, len))).1 in subst (IsFinding c.args.tree.now c.args.limits.now c.args.tree.now.next) call.left call.call.1))
