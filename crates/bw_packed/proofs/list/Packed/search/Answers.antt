use Rattle.std.proofs.Common.{◌+◌, ◌/◌, List, ℕ, arith, slice_range}
use Rattle.bw_packed.specs.Search.{is_before}
use Rattle.bw_packed.proofs.Halving.{answers_in_run, goes_on, run_ends_behind, run_ends_there, stays}
use Rattle.bw_packed.proofs.RunLemmas.{length_run}
use Rattle.bw_packed.proofs.list.Packed.search.Goals as goal
use Rattle.bw_packed.proofs.list.Packed.search.Goals.{then-is_before, else-is_before}

pub loop-size-preserved : goal.loop-size-preserved
loop-size-preserved g c =
    let p : List ℕ × _ → _ = λ e. is_before c.args.bound c.args.key.now (g.E.Keyed.key e.1 e.0) in
    let i = c.args.range.start in
    let j = c.args.range.end in
    let xs = slice_range c.args.self.now i j in
    let base = c.loop-size.base in
    let size = c.loop-size.size in
    let within = c.loop-size.invariant in
    let there = answers_in_run p c.args.self.now i j (base + size / 2) c.is_before.result
    (omega (arith, within.inside, length_run c.args.self.now i j c.requires.ordered c.requires.within)) c.is_before.ensures in
    elim c.if-is_before.branch [
      | then-is_before w ↦ rw w.base-is (goes_on p xs base size (size / 2) c.is_before.result within (omega arith) (omega arith) there w.if-is_before.true)
      | else-is_before w ↦ rw w.base-is (stays p xs base size (size / 2) c.is_before.result within (omega arith) (omega arith) there w.if-is_before.false)
    ]

pub returns-then-is_before-2-clause-parts : goal.returns-then-is_before-2-clause-parts
returns-then-is_before-2-clause-parts g c =
    run_ends_behind (λ e. is_before c.args.bound c.args.key.now (g.E.Keyed.key e.1 e.0)) c.args.self.now c.args.range.start c.args.range.end c.loop-size.base c.loop-size.size c.is_before-2.result
    c.loop-size.invariant c.loop-size-test.false c.requires.ordered c.requires.within c.is_before-2.ensures c.if-is_before-2.true

pub returns-else-is_before-2-clause-parts : goal.returns-else-is_before-2-clause-parts
returns-else-is_before-2-clause-parts g c =
    run_ends_there (λ e. is_before c.args.bound c.args.key.now (g.E.Keyed.key e.1 e.0)) c.args.self.now c.args.range.start c.args.range.end c.loop-size.base c.loop-size.size c.is_before-2.result
    c.loop-size.invariant c.requires.ordered c.requires.within c.is_before-2.ensures c.if-is_before-2.false
