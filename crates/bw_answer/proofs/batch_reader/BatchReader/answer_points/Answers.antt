use Rattle.std.proofs.Common.{◌-◌, ◌+◌, length, take, drop, subst, arith}
use Rattle.std.specs.List.{AllByRecursion}
use Rattle.bw_tree.specs.Levels.{IsHome, IsOneHome}
use Rattle.bw_group.specs.Homes.{IsPageAt}
use Rattle.bw_group.specs.Points.{IsEntryOf, entries_of}
use Rattle.bw_answer.specs.Replies.{IsReadInTurn, ReaderView}
use Rattle.bw_group.proofs.PointGroups.{part_holds}
use Rattle.bw_group.proofs.HomeReads.{run_at_home}
use Rattle.bw_group.proofs.ListParts.{all_same}
use Rattle.bw_answer.proofs.GroupReads.{all_listed, first_home, points_part}
use Rattle.bw_answer.proofs.ReplyLemmas.{all_answered, answered_none, part_answered}
use Rattle.bw_tidy.specs.Findings.{GoOn}
use Rattle.bw_tidy.proofs.FindingsLemmas.{go_on, stay}
use Rattle.bw_answer.proofs.batch_reader.BatchReader.answer_points.Goals as goal

pub run_from-page-requires-clause-pages : goal.run_from-page-requires-clause-pages
run_from-page-requires-clause-pages c = all_listed _ c.args.self.now c.self.view_is c.self.invariant (entries_of c.args.points.now) c.requires.points.entries

pub answer_run-requires-clause-homes : goal.answer_run-requires-clause-homes
answer_run-requires-clause-homes c =
    let batch = c.args.self.now in
    let page = c.run_from-page.result.0 in
    let start = c.loop-start.start in
    let len = c.run_from-page.result.1 - start in
    let part = entries_of (take len (drop start c.args.points.now)) in
    let listed = subst (λ (v : ReaderView). AllByRecursion (λ e. IsPageAt v.homes page e.1) part) c.self.view_is c.run_from-page.ensures.page in
    all_same (λ e. IsOneHome batch.tree.slots batch.tree.levels e.0 page) (λ e. IsHome batch.tree.slots batch.tree.levels e.0 page) (λ e home. home.0) part
    (run_at_home batch.tree batch.ops batch.homes (subst IsReadInTurn c.self.view_is c.self.invariant).homes page part
    (part_holds (IsEntryOf batch.ops) c.args.points.now start len c.requires.points.entries) listed)

pub answer_run-requires-clause-leaf : goal.answer_run-requires-clause-leaf
answer_run-requires-clause-leaf c =
    let tree = c.args.self.now.tree in
    first_home tree.slots tree.levels c.run_from-page.result.0 c.args.points.now c.loop-start.start c.run_from-page.result.1 c.run_from-page.ensures.more c.run_from-page.ensures.bound (answer_run-requires-clause-homes c)

pub answer_run-requires-clause-points : goal.answer_run-requires-clause-points
answer_run-requires-clause-points c =
    let start = c.loop-start.start in
    points_part c.args.self.now.ops c.args.points.now start (c.run_from-page.result.1 - start) c.requires.points

pub loop-start-init : goal.loop-start-init
loop-start-init c = record {
  answered = answered_none c.args.self.now c.args.points.now c.args.answers.now.items;
  findings = stay c.args.self.now.tree (c.args.self.now.base + length c.args.self.now.ops) c.args.findings.now;
}

pub loop-start-preserved : goal.loop-start-preserved
loop-start-preserved c =
    let batch = c.args.self.now in
    record {
      answered = part_answered batch c.args.points.now c.loop-start.start c.run_from-page.result.1 c.args.answers.now.items c.loop-start.answers.items c.answer_run.new.answers.items (omega (arith, c.run_from-page.ensures.more))
          c.run_from-page.ensures.bound c.loop-start.invariant.answered c.in_ok-answer_run.ensures;
      findings = go_on batch.tree (batch.base + length batch.ops) c.args.findings.now c.loop-start.findings c.look_at.new.self c.loop-start.invariant.findings
          (subst (λ n. GoOn batch.tree n c.loop-start.findings c.look_at.new.self) c.stamp_behind-stamp.ensures
          (subst (λ (v : ReaderView). GoOn v.tree c.stamp_behind-stamp.result c.loop-start.findings c.look_at.new.self) c.self.view_is c.look_at.ensures));
    }

pub returns-clause-answers : goal.returns-clause-answers
returns-clause-answers c = all_answered c.args.self.now c.args.points.now c.loop-start.start c.args.answers.now.items c.loop-start.answers.items c.loop-start-test.false c.loop-start.invariant.answered
