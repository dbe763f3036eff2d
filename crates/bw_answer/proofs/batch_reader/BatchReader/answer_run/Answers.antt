use Rattle.std.proofs.Common.{◌≡◌, ◌-◌, length, List, take, drop, get_or, sym, ap, subst, ◌∙◌, arith}
use Rattle.std.specs.Borrow.{Bor}
use Rattle.std.specs.List.{AllByRecursion, Contains}
use Rattle.std.specs.Option.{option_copied}
use Rattle.bw_delta.specs.Writes.{WriteView}
use Rattle.bw_delta.specs.Batches.{writes_to}
use Rattle.bw_delta.specs.History.{pointed_to}
use Rattle.bw_tree.specs.Levels.{IsHome, row}
use Rattle.bw_look.specs.View.{TreeView}
use Rattle.bw_group.specs.Points.{IsEntryOf, IsPointOf, entries_of}
use Rattle.bw_answer.specs.Replies.{IsReadBy, ReaderView}
use Rattle.bw_group.proofs.PointGroups.{group_rises, part_holds}
use Rattle.bw_group.proofs.ListParts.{all_part}
use Rattle.bw_answer.proofs.ReplyLemmas.{all_answered, answered_none, part_answered}
use Rattle.bw_answer.proofs.GroupReads.{group_read, group_reads}
use Rattle.bw_answer.proofs.batch_reader.BatchReader.answer_run.Goals as goal

pub answer_group-requires-clause-reads : goal.answer_group-requires-clause-reads
answer_group-requires-clause-reads c =
    let tree = c.self.inside.tree.now in
    let is : tree ≡ c.args.self.now.tree = ap (λ (v : ReaderView). v.tree) c.self.view_is in
    let page = c.args.page in
    let points = c.args.points.now in
    let at = c.loop-start.start in
    let first = c.index-points-start.result in
    let key = (get_or points at first).key.now in
    let part = entries_of (take (c.group_end-end.result - at) (drop at points)) in
    let start = option_copied c.find_near-next.result.0 in
    let writes = pointed_to c.group_of-changes_end.result.0.now in
    let homes = subst (λ (t : TreeView). AllByRecursion (λ e. IsHome t.slots t.levels e.0 page) part) (sym is)
    (part_holds (λ e. IsHome c.args.self.now.tree.slots c.args.self.now.tree.levels e.0 page) points at (c.group_end-end.result - at) c.requires.homes) in
    let distinct = c.know_homes.ensures.distinct page (subst (λ (t : TreeView). Contains (row t.levels 0) page) (sym is) c.requires.leaf) in
    let found = ap pointed_to c.deref.ensures.value ∙ c.in_ok-leaf.ensures.leaf.writes in
    let group = c.group_of-changes_end.ensures.group ∙ ap (λ (l : List (Bor WriteView)). writes_to key (pointed_to l)) c.deref-in-loop-start.ensures.value in
    subst (λ (t : TreeView). AllByRecursion (λ e. IsReadBy t start writes e.0) part) is
    (group_reads tree key start writes page part
    (group_read tree page key c.in_ok-leaf.leaf.base.now.pairs (pointed_to c.deref.result.now) (pointed_to c.in_ok-writes.writes.items) writes start c.know_homes.ensures.values c.in_ok-leaf.ensures.values distinct found
    c.in_ok-writes.ensures.same c.find_near-next.ensures.value group)
    (c.group_end-end.ensures.same first) homes)

pub answer_group-requires-clause-entries : goal.answer_group-requires-clause-entries
answer_group-requires-clause-entries c = part_holds (IsEntryOf c.args.self.now.ops) c.args.points.now c.loop-start.start (c.group_end-end.result - c.loop-start.start) c.requires.points.entries

pub answer_group-requires-clause-verbs : goal.answer_group-requires-clause-verbs
answer_group-requires-clause-verbs c = all_part (IsPointOf c.args.self.now.ops) c.args.points.now c.loop-start.start (c.group_end-end.result - c.loop-start.start) c.requires.points.verbs

pub answer_group-requires-clause-rising : goal.answer_group-requires-clause-rising
answer_group-requires-clause-rising c =
    group_rises _ c.args.points.now c.loop-start.start c.group_end-end.result (omega (arith, c.group_end-end.ensures.more)) (c.requires.points.rising _) (c.group_end-end.ensures.same c.index-points-start.result)

pub group_of-changes_end-requires-clause-from : goal.group_of-changes_end-requires-clause-from
group_of-changes_end-requires-clause-from c = omega (arith, c.loop-start.invariant.changed, ap length c.deref-in-loop-start.ensures.value)

pub loop-start-init : goal.loop-start-init
loop-start-init c = record { answered = answered_none c.args.self.now c.args.points.now c.args.answers.now.items; changed = omega arith }

pub loop-start-preserved : goal.loop-start-preserved
loop-start-preserved c = record {
  answered = part_answered c.args.self.now c.args.points.now c.loop-start.start c.group_end-end.result c.args.answers.now.items c.loop-start.answers.items c.answer_group.new.answers.items
      (omega (arith, c.group_end-end.ensures.more)) c.group_end-end.ensures.bound c.loop-start.invariant.answered c.in_ok-answer_group.ensures;
  changed = omega (arith, c.group_of-changes_end.ensures.end, ap length c.deref-in-loop-start.ensures.value);
}

pub returns : goal.returns
returns c = all_answered c.args.self.now c.args.points.now c.loop-start.start c.args.answers.now.items c.loop-start.answers.items c.loop-start-test.false c.loop-start.invariant.answered
