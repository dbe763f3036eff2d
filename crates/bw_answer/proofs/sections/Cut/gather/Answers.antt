use Rattle.std.proofs.Common.{◌≡◌, ◌++◌, flat_map, refl, sym, ap, subst, ◌∙◌}
use Rattle.std.specs.List.{AllByRecursion}
use Rattle.std.specs.List.Sorted.{IsPermutation}
use Rattle.std.proofs.lemmas.List.Sorted.{IsPermutation-refl}
use Rattle.bw_tidy.specs.Findings.{GoOn}
use Rattle.bw_tidy.proofs.FindingsLemmas.{stay}
use Rattle.bw_answer.specs.Sections.{answers_in, answers_of, AreBySection}
use Rattle.bw_answer.specs.declared.batch_reader.PartAnswers.{PartAnswers}
use Rattle.bw_answer.proofs.Sectioned.{next_same, no_answers}
use Rattle.bw_answer.proofs.sections.Cut.gather.Goals as goal

pub add_lists-requires-clause-lists : goal.add_lists-requires-clause-lists
add_lists-requires-clause-lists c =
    (subst (AllByRecursion (λ (part : PartAnswers). AreBySection c.args.self part.lists.items)) c.in-Some.ensures.steps.0 c.loop-part.invariant.parts).0

pub append-requires : goal.append-requires
append-requires c =
    let i = c.loop-part.invariant in
    (subst (AllByRecursion (λ (part : PartAnswers). part.findings.limits ≡ c.args.findings.now.limits)) c.in-Some.ensures.steps.0 i.alike).0 ∙ sym i.limits

pub loop-part-init : goal.loop-part-init
loop-part-init c =
    let first = c.args.findings.now in
    let parts = c.args.parts.items in
    let rest = c.into_iter-part-iterator.result.rest.items in
    let all = sym c.into_iter-part-iterator.ensures.into_iter_gives.0 in
    let none = no_answers answers_of c.in_ok-sections.sections.items c.in_ok-sections.ensures.empty in
    record {
      sections = c.in_ok-sections.ensures.sections;
      parts = subst (AllByRecursion (λ (part : PartAnswers). AreBySection c.args.self part.lists.items)) all c.requires.lists;
      same = subst (IsPermutation (flat_map answers_in parts)) (ap (flat_map answers_in) all ∙ ap (λ l. l ++ flat_map answers_in rest) (sym none)) (IsPermutation-refl (flat_map answers_in parts));
      limits = refl;
      alike = subst (AllByRecursion (λ (part : PartAnswers). part.findings.limits ≡ first.limits)) all c.requires.limits;
      found = λ tree stamp found. (stay tree stamp first, subst (AllByRecursion (λ (part : PartAnswers). GoOn tree stamp first part.findings)) all found);
    }

pub loop-part-preserved : goal.loop-part-preserved
loop-part-preserved c =
    let i = c.loop-part.invariant in
    let first = c.args.findings.now in
    let part = c.in-Some.part in
    let next = c.in-Some.ensures.steps.0 in
    let rest = c.loop-part.part-iterator.rest.items in
    let rest' = c.next.new.self.rest.items in
    let old = flat_map answers_of c.loop-part.sections.items in
    let new = flat_map answers_of c.add_lists.new.sections.items in
    record {
      sections = c.in_ok-add_lists.ensures.sections;
      parts = (subst (AllByRecursion (λ (part : PartAnswers). AreBySection c.args.self part.lists.items)) next i.parts).1;
      same = next_same (flat_map answers_in c.args.parts.items) (flat_map answers_in rest) (flat_map answers_in rest') old new (answers_in part) (ap (flat_map answers_in) next) c.in_ok-add_lists.ensures.same i.same;
      limits = c.append.ensures.limits ∙ i.limits;
      alike = (subst (AllByRecursion (λ (part : PartAnswers). part.findings.limits ≡ first.limits)) next i.alike).1;
      found = λ tree stamp found.
          let before = i.found tree stamp found in
          let parts = subst (AllByRecursion (λ (part : PartAnswers). GoOn tree stamp first part.findings)) next before.1 in
          (record { limits = c.append.ensures.limits ∙ i.limits; found = λ are. (c.append.ensures.found tree stamp (parts.0.found are)).found (before.0.found are) }, parts.1);
    }

pub returns-in_err-add_lists-clause-findings : goal.returns-in_err-add_lists-clause-findings
returns-in_err-add_lists-clause-findings c = λ tree stamp found. (c.loop-part.invariant.found tree stamp found).0

pub returns-clause-findings : goal.returns-clause-findings
returns-clause-findings c = λ tree stamp found. (c.loop-part.invariant.found tree stamp found).0
