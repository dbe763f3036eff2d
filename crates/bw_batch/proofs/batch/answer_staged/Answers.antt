use Rattle.std.proofs.Common.{ℕ, ◌+◌, List, ◌++◌, length, ap, subst, ◌∙◌}
use Rattle.bw_tree.proofs.SwappedWords.{length_put}
use Rattle.bw_model.specs.Model.{replies_of}
use Rattle.bw_look.specs.View.{contents_at}
use Rattle.bw_tidy.specs.Findings.{AreLeft, GoOn}
use Rattle.bw_batch.proofs.BatchLemmas.{start_adopted}
use Rattle.bw_batch.proofs.DueLemmas.{has_both, within_left, within_posted}
use Rattle.bw_batch.proofs.LeavesLemmas.{wide_leaves}
use Rattle.bw_batch.proofs.KeptHomes.{adopted_wide, homes_stay}
use Rattle.bw_batch.proofs.batch.answer_staged.Goals as goal

pub replies-requires-clause-homes : goal.replies-requires-clause-homes
replies-requires-clause-homes g c κs within =
    let tree = c.args.tree.now in
    let posting = c.in_ok-homes.field-0 in
    let after = c.adopt.new.tree in
    homes_stay tree after c.in_ok-pages.ensures.ok.levels
    (adopted_wide tree after posting.folded.items c.know_levels.ensures.lawful c.in_ok-homes.ensures.posted.folded c.in_ok-pages.ensures.ok.pages)
    c.args.batch.now.ops posting.homes
    (ap (λ (l : List ℕ). length l) c.in_ok-pages.ensures.ok.heads ∙ length_put tree.heads posting.pages.items posting.closed.heads) c.in_ok-homes.ensures.homes

pub returns-clause-replies : goal.returns-clause-replies
returns-clause-replies g c =
    c.in_ok-replies.ensures.replies
    ∙ ap (replies_of c.args.batch.now.ops) (ap (contents_at c.adopt.new.tree) c.next_stamp-base.ensures ∙ start_adopted c.args.tree.now c.adopt.new.tree c.in_ok-pages.ensures.ok.next c.in_ok-pages.ensures.ok.contents)

pub returns-clause-found : goal.returns-clause-found
returns-clause-found g c =
    let first = c.args.findings.now in
    subst (λ n. GoOn c.adopt.new.tree (n + length c.args.batch.now.ops) first c.replies.new.findings) (c.next_stamp-base.ensures ∙ c.in_ok-pages.ensures.ok.next) c.replies.ensures.findings

pub returns-clause-within : goal.returns-clause-within
returns-clause-within g c = λ are but.
    let posting = c.in_ok-homes.field-0 in
    let limits = c.args.findings.now.limits in
    let pages = posting.pages.items in
    let due = c.args.due.now.pages in
    within_left limits c.adopt.new.tree c.replies.new.findings (c.args.tree.now.next + length c.args.batch.now.ops) pages c.left_of-pages.result.items due c.add.new.self.pages are c.replies.ensures.findings.limits
    (subst (λ (l : List ℕ). AreLeft l c.replies.new.findings.fitting.items c.left_of-pages.result.items) c.in_ok-pages.ensures.pages c.left_of-pages.ensures) c.in_ok-add.ensures.ok
    (within_posted c.args.tree.now c.adopt.new.tree pages posting.closed.heads posting.closed.links due (pages ++ due) (has_both pages due)
    posting.folded.items c.in_ok-homes.ensures.posted c.in_ok-pages.ensures.ok.levels c.in_ok-pages.ensures.ok.pages c.in_ok-pages.ensures.ok.writes limits but)

pub returns-clause-leaves : goal.returns-clause-leaves
returns-clause-leaves g c =
    wide_leaves c.args.tree.now c.adopt.new.tree c.in_ok-pages.ensures.ok.levels
    (adopted_wide c.args.tree.now c.adopt.new.tree c.in_ok-homes.field-0.folded.items c.know_levels.ensures.lawful c.in_ok-homes.ensures.posted.folded c.in_ok-pages.ensures.ok.pages)
