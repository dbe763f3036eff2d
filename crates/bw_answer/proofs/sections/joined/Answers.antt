use Rattle.std.proofs.Common.{◌≡◌, [], is_some, length, flat_map, rules, sym, ap, subst, ◌∙◌}
use Rattle.std.specs.List.{AllByRecursion}
use Rattle.std.specs.Option.{option_map_or}
use Rattle.bw_answer.specs.Sections.{replies_in, HasReplies}
use Rattle.bw_answer.proofs.Sectioned.{all_joined, next_joined}
use Rattle.bw_answer.proofs.sections.joined.Goals as goal

pub loop-section-preserved : goal.loop-section-preserved
loop-section-preserved c =
    let i = c.loop-section.invariant in
    let rest' = c.next.new.self.rest.items in
    let next = c.in-Some.ensures.steps.0 in
    let some = c.in_ok-more.ensures.ok_part in
    record {
      same = next_joined c.loop-section.replies.items c.append.new.self.items c.in_ok-more.more.items c.loop-section.section-iterator.rest.items rest' c.args.sections.items c.in-Some.section next (ap (λ o. option_map_or (λ list. list.items) o []) some) c.in_ok-append.ensures.items i.same;
      made = λ all. i.made (subst (AllByRecursion HasReplies) (sym next) (ap is_some some, all));
    }

pub returns : goal.returns
returns c =
    let i = c.loop-section.invariant in
    let rest = c.loop-section.section-iterator.rest.items in
    let none : length rest ≡ 0 = search rules in
    all_joined c.loop-section.replies.items rest c.args.sections.items none i.same i.made
