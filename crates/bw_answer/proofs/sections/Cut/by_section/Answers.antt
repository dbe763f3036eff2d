use Rattle.std.proofs.Common.{◌*◌, ◌/◌, ◌<◌, ◌++◌, ◌∷◌, [], length, arith, sym, ap, subst, ◌∙◌}
use Rattle.std.specs.List.{AllByRecursion}
use Rattle.std.specs.List.Sorted.{IsPermutation}
use Rattle.std.proofs.Math.Nat.{div-lt_iff_lt-mul, div-mul-le_self, lt-div-mul-add}
use Rattle.std.proofs.lemmas.List.{length-set}
use Rattle.std.proofs.lemmas.List.Sorted.{IsPermutation-refl}
use Rattle.bw_answer.specs.Sections.{IsAnswerFrom}
use Rattle.bw_answer.proofs.Sectioned.{no_answers, none_parted, parted_more, same_step}
use Rattle.bw_answer.proofs.sections.Cut.by_section.Goals as goal

pub loop-answer-init : goal.loop-answer-init
loop-answer-init c =
    let lists = c.in_ok-lists.lists.items in
    let answers = c.args.answers.items in
    let all = sym c.into_iter-answer-iterator.ensures.into_iter_gives.0 in
    record {
      count = c.in_ok-lists.ensures.count;
      parted = none_parted (λ list. list.items) 0 c.args.self.size lists c.in_ok-lists.ensures.empty;
      there = subst (AllByRecursion (IsAnswerFrom 0 (c.args.self.count * c.args.self.size))) all c.requires.there;
      same = subst (IsPermutation answers) (all ∙ ap (λ l. l ++ c.into_iter-answer-iterator.result.rest.items) (sym (no_answers (λ list. list.items) lists c.in_ok-lists.ensures.empty))) (IsPermutation-refl answers);
    }

pub loop-answer-preserved : goal.loop-answer-preserved
loop-answer-preserved c =
    let i = c.loop-answer.invariant in
    let size = c.args.self.size in
    let lists = c.loop-answer.lists.items in
    let a = c.in-Some.answer in
    let k = a.place / size in
    let next = c.in-Some.ensures.steps.0 in
    let there = subst (AllByRecursion (IsAnswerFrom 0 (c.args.self.count * size))) next i.there in
    let at = c.index_mut.ensures.value in
    let low = div-mul-le_self a.place size in
    let high = lt-div-mul-add {a = a.place} c.requires.size in
    let lt : k < length lists = subst (λ n. k < n) (sym i.count) ((div-lt_iff_lt-mul c.requires.size).1 (omega (arith, there.0.1))) in
    record {
      count = length-set lists k c.push.new.self ∙ i.count;
      parted = parted_more (λ list. list.items) 0 size lists k c.index_mut.result.now c.push.new.self (a ∷ []) lt at c.in_ok-push.ensures.items i.parted ((omega (arith, low), omega (arith, high)), tt);
      there = there.1;
      same = same_step (λ list. list.items) c.args.answers.items c.loop-answer.answer-iterator.rest.items c.next.new.self.rest.items lists k c.index_mut.result.now c.push.new.self (a ∷ []) lt at c.in_ok-push.ensures.items next i.same;
    }
