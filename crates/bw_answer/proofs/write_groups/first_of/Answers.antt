use Rattle.std.proofs.Common.{◌-◌, ap, sym, ◌∙◌, arith, rules}
use Rattle.std.specs.Borrow.{Bor}
use Rattle.std.specs.Ordering.{is_lt}
use Rattle.std.proofs.lemmas.List.{get_or_default}
use Rattle.std.proofs.lemmas.List.Sorted.{IsPartitionPoint-from_clause}
use Rattle.bw_key.specs.Order.{key_cmp}
use Rattle.bw_delta.specs.Writes.{WriteView}
use Rattle.bw_answer.proofs.WriteGroups.{before_place, below_parted, first_here}
use Rattle.bw_answer.proofs.write_groups.first_of.Goals as goal
use Rattle.bw_answer.proofs.write_groups.first_of.Goals.{else-from-gt0-via-then-from-gt0+else-lies_from, else-from-gt0-via-else-from-gt0}

pub returns-then-lies_from-clause-first : goal.returns-then-lies_from-clause-first
returns-then-lies_from-clause-first c =
    let key = c.args.key.now in
    let refs = c.args.grouped.now in
    IsPartitionPoint-from_clause (λ (r : Bor WriteView). is_lt (key_cmp r.now.key key)) _ _ c.partition_point.ensures.partitioned (below_parted key refs c.requires.sorted) (λ a r f k. search rules)

pub loop-start-init : goal.loop-start-init
loop-start-init c =
    let key = c.args.key.now in
    let refs = c.args.grouped.now in
    elim c.else-from-gt0.branch [
      | else-from-gt0-via-then-from-gt0+else-lies_from w ↦ before_place key refs c.args.from c.requires.sorted c.requires.from (λ some d.
          ap (λ (r : Bor WriteView). is_lt (key_cmp r.now.key key)) (get_or_default refs (c.args.from - 1) d w.index-grouped-from.result (omega (arith, some, c.requires.from)) ∙ sym w.index-grouped-from.is)
          ∙ w.lies_from.ensures.no w.if-lies_from.false)
      | else-from-gt0-via-else-from-gt0 w ↦ λ k d le lt. absurd (omega (arith, lt, w.if-from-gt0.false))
    ]

pub returns-then-lies_from-2-clause-first : goal.returns-then-lies_from-2-clause-first
returns-then-lies_from-2-clause-first c =
    let key = c.args.key.now in
    let refs = c.args.grouped.now in
    first_here key refs c.loop-start.start c.requires.sorted c.loop-start.invariant (λ lt d.
    ap (λ (r : Bor WriteView). is_lt (key_cmp r.now.key key)) (get_or_default refs c.loop-start.start d c.index-grouped-start.result lt ∙ sym c.index-grouped-start.is)
    ∙ c.lies_from-in-loop-start.ensures.yes c.if-lies_from-2.true)
