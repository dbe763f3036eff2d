use Rattle.std.proofs.Common.{◌≡◌, length, get_or, rules, sym, subst}
use Rattle.std.specs.List.{AllByRecursion}
use Rattle.std.proofs.ByRecursion.{All-get_or}
use Rattle.bw_answer.specs.Sections.{answers_of, IsAnswerFrom, IsMade}
use Rattle.bw_answer.specs.declared.sections.Section.{Section}
use Rattle.bw_answer.proofs.Sectioned.{sections_within}
use Rattle.bw_answer.proofs.sections.Cut.make_replies.Goals as goal

pub for_each_mut-requires-clause-accepts : goal.for_each_mut-requires-clause-accepts
for_each_mut-requires-clause-accepts g c κs within =
    let size = c.args.self.size in
    let sections = c.args.sections.now in
    let Within : Section → Type 0 = λ section. AllByRecursion (IsAnswerFrom section.start size) (answers_of section) in
    let all = sections_within 0 size sections c.requires.sections.starts c.requires.sections.parted in
    λ i p lt at. subst Within (sym at) (All-get_or Within sections i p.now lt all)

pub returns : goal.returns
returns g c =
    let size = c.args.self.size in
    let old = c.args.sections.now in
    let new = c.for_each_mut.new.s in
    let count : length new ≡ length old = search rules in
    record {
      count = count;
      each = λ i d lt.
          let call = (c.for_each_mut.ensures i d lt).1 in
          subst (λ section. IsMade size section (get_or new i d)) call.argument_is (subst (IsMade size call.argument.now) call.left call.call);
    }
