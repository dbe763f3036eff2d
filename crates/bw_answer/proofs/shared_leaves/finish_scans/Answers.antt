use Rattle.std.proofs.Common.{◌≡◌, ◌++◌, map, sym, subst, ◌∙◌}
use Rattle.std.specs.List.{AllByRecursion}
use Rattle.bw_answer.specs.Replies.{answer_of}
use Rattle.bw_answer.proofs.ScanLemmas.{next_answered}
use Rattle.bw_answer.proofs.shared_leaves.finish_scans.Goals as goal

pub finish-requires : goal.finish-requires
finish-requires c =
    let i = c.loop-scan.invariant in
    let rest = subst (AllByRecursion (λ scan. scan.cursor.tree ≡ c.args.tree)) c.in-Some.ensures.steps.0 i.trees in
    i.same ∙ sym rest.0

pub loop-scan-preserved : goal.loop-scan-preserved
loop-scan-preserved c =
    let i = c.loop-scan.invariant in
    let next = c.in-Some.ensures.steps.0 in
    let rest = subst (AllByRecursion (λ scan. scan.cursor.tree ≡ c.args.tree)) next i.trees in
    record {
      same = c.in_ok-reply.ensures.tree ∙ i.same;
      trees = rest.1;
      answered =
          next_answered (c.args.answers.now.items ++ map answer_of c.args.scans.items) c.loop-scan.answers.items c.push.new.self.items c.loop-scan.scan-iterator.rest.items c.next.new.self.rest.items c.in-Some.scan c.in_ok-reply.reply next
          c.in_ok-reply.ensures.reply c.in_ok-push.ensures.items i.answered;
    }
