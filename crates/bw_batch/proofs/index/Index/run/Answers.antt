use Rattle.std.proofs.Common.{arith, length, subst, ◌≤◌, ◌∙◌}
use Rattle.bw_delta.specs.Batches.{writes_of}
use Rattle.bw_batch.specs.Settings.{Settings, most_lost}
use Rattle.bw_batch.specs.View.{next_stamp_of, settings_of}
use Rattle.bw_batch.proofs.OutcomesLemmas.{same_writes}
use Rattle.bw_batch.proofs.index.Index.run.Goals as goal

pub returns-clause-recorded : goal.returns-clause-recorded
returns-clause-recorded g c =
    omega (
      arith,
      c.tidy-tidy.ensures.records,
      c.in_ok-replies.ensures.recorded,
      c.in_ok-make_room.ensures.records,
      same_writes c.args.ops.now (next_stamp_of c.make_room.new.self) 0,
    )

pub returns-clause-lost : goal.returns-clause-lost
returns-clause-lost g c =
    subst (λ n. c.in_ok-replies.field-0.lost ≤ most_lost (settings_of c.args.self.now) n) (same_writes c.args.ops.now (next_stamp_of c.make_room.new.self) (next_stamp_of c.args.self.now))
    (subst (λ (s : Settings). c.in_ok-replies.field-0.lost ≤ most_lost s (length (writes_of (next_stamp_of c.make_room.new.self) c.args.ops.now))) c.make_room.ensures.settings c.in_ok-replies.ensures.lost)

pub returns-clause-leaves : goal.returns-clause-leaves
returns-clause-leaves g c = λ same.
    c.tidy-tidy.ensures.leaves
    (omega (
      arith,
      same,
      c.tidy-tidy.ensures.records,
      c.in_ok-replies.ensures.recorded,
      c.in_ok-make_room.ensures.records,
      same_writes c.args.ops.now (next_stamp_of c.make_room.new.self) 0,
    ))
    ∙ c.in_ok-replies.ensures.leaves
    ∙ c.make_room.ensures.leaves
