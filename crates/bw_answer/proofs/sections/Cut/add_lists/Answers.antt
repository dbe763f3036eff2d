use Rattle.std.proofs.Common.{◌≡◌, ◌+◌, ◌*◌, ◌<◌, ◌++◌, ◌∷◌, [], length, map, flat_map, arith, refl, ap, subst, ◌∙◌}
use Rattle.std.specs.List.{AllByRecursion}
use Rattle.std.proofs.lemmas.Grind.{flat_map-append}
use Rattle.std.proofs.lemmas.List.{append-nil, length-set}
use Rattle.bw_answer.specs.Sections.{answers_of, ArePartedFrom, IsAnswerFrom}
use Rattle.bw_answer.specs.declared.sections.Section.{Section}
use Rattle.bw_answer.proofs.Sectioned.{parted_more, same_step, starts_kept}
use Rattle.bw_answer.proofs.sections.Cut.add_lists.Goals as goal

pub loop-list-preserved : goal.loop-list-preserved
loop-list-preserved c =
    let i = c.loop-list.invariant in
    let size = c.args.self.size in
    let number = c.loop-list.number in
    let sections = c.loop-list.sections.items in
    let list = c.in-Some.list in
    let section = c.index_mut.result.now in
    let section' : Section = record { start = section.start; lists = c.push.new.self; replies = section.replies } in
    let next = c.in-Some.ensures.steps.0 in
    let at = c.index_mut.ensures.value in
    let longer : answers_of section' ≡ answers_of section ++ list.items =
    ap (flat_map (λ list. list.items)) c.in_ok-push.ensures.items
    ∙ flat_map-append (λ list. list.items) section.lists.items (list ∷ [])
    ∙ ap (λ l. answers_of section ++ l) (append-nil list.items) in
    let parted = subst (λ l. ArePartedFrom (number * size) size (map (λ list. list.items) l)) next i.parted in
    let left = ap length next in
    let lt : number < length sections = omega (arith, i.left, left, i.sections.count) in
    let first : number * size ≡ 0 + number * size = omega arith in
    let after : number * size + size ≡ (number + 1) * size = omega arith in
    record {
      sections = record {
        count = length-set sections number section' ∙ i.sections.count;
        starts = starts_kept 0 size sections number section section' at refl i.sections.starts;
        parted = parted_more answers_of 0 size sections number section section' list.items lt at longer i.sections.parted (subst (λ n. AllByRecursion (IsAnswerFrom n size) list.items) first parted.0);
      };
      left = omega (arith, i.left, left);
      parted = subst (λ n. ArePartedFrom n size (map (λ list. list.items) c.next.new.self.rest.items)) after parted.1;
      same = same_step answers_of (flat_map answers_of c.args.sections.now.items ++ flat_map (λ list. list.items) c.args.lists.items) (flat_map (λ list. list.items) c.loop-list.list-iterator.rest.items) (flat_map (λ list. list.items) c.next.new.self.rest.items) sections number section section' list.items lt at longer (ap (flat_map (λ list. list.items)) next) i.same;
    }
