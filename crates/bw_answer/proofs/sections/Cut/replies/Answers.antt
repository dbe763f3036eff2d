use Rattle.std.proofs.Common.{◌≡◌, ◌++◌, ◌*◌, length, take, drop, replicate, flat_map, sym, ap, subst, ◌∙◌, arith}
use Rattle.rayon.proofs.ListFacts.{IfOk-then}
use Rattle.bw_model.specs.declared.operations.Reply.TheVariants.{Absent}
use Rattle.bw_delta.proofs.Zips.{whole}
use Rattle.bw_answer.specs.Sections.{answers_of, replies_in, with_answers_from, AreAllMade, AreJoined}
use Rattle.bw_answer.proofs.Sectioned.{all_made}
use Rattle.bw_answer.proofs.sections.Cut.replies.Goals as goal

pub returns : goal.returns
returns g c =
    let size = c.args.self.size in
    let old = c.args.sections.items in
    let new = c.make_replies.new.sections in
    let made = subst (λ l. AreAllMade size l new) c.deref_mut.ensures.value c.make_replies.ensures in
    let count = made.count in
    let back : take c.args.sections.len (new ++ drop (length new) old) ≡ new = whole c.args.sections.len new (drop (length new) old) (omega (arith, count, c.args.sections.ok)) in
    IfOk-then c.joined.result _ _ c.joined.ensures (λ replies joined.
    let are = subst (λ l. AreJoined l replies.items) back joined in
    are.same
    ∙ all_made size 0 old new made are.made c.requires.sections.starts c.requires.sections.parted
    ∙ ap (λ n. with_answers_from 0 (replicate (n * size) Absent) (flat_map answers_of old)) c.requires.sections.count)
