use Rattle.std.proofs.Common.{◌≡◌, None, ℕ, ◌+◌, ◌*◌, ◌∷◌, [], length, flat_map, arith, sym, ap, subst, ◌∙◌}
use Rattle.std.specs.List.{AllByRecursion}
use Rattle.std.proofs.lemmas.List.{length-append}
use Rattle.bw_answer.specs.Sections.{answers_of, AreStartsFrom}
use Rattle.bw_answer.specs.declared.sections.Section.{Section}
use Rattle.bw_group.proofs.ListParts.{all_append}
use Rattle.bw_answer.proofs.Sectioned.{none_parted, starts_more}
use Rattle.bw_answer.proofs.sections.Cut.empty_sections.Goals as goal

pub loop-number-preserved : goal.loop-number-preserved
loop-number-preserved c =
    let i = c.loop-number.invariant in
    let sections = c.loop-number.sections.items in
    let section : Section = record { start = c.loop-number.number * c.args.self.size; lists = c.new.result; replies = None } in
    let pushed = c.in_ok-push.ensures.items in
    record {
      count = ap length pushed ∙ length-append sections (section ∷ []) ∙ ap (λ n. n + 1) i.count;
      starts = subst (AreStartsFrom 0 c.args.self.size) (sym pushed) (starts_more 0 c.args.self.size sections section i.starts (ap (λ n. n * c.args.self.size) (sym i.count) ∙ first (length sections * c.args.self.size)));
      empty = subst (AllByRecursion (λ section. answers_of section ≡ [])) (sym pushed) (all_append (λ section. answers_of section ≡ []) sections (section ∷ []) i.empty (ap (flat_map (λ list. list.items)) c.new.ensures.items, tt));
    }
  where
    first : (n : ℕ) → n ≡ 0 + n
    first n = omega arith

pub returns-clause-sections : goal.returns-clause-sections
returns-clause-sections c =
    let i = c.loop-number.invariant in
    let sections = c.loop-number.sections.items in
    record {
      count = i.count ∙ omega (arith, c.loop-number-test.false, c.loop-number.auto.number-end);
      starts = i.starts;
      parted = none_parted answers_of 0 c.args.self.size sections i.empty;
    }
