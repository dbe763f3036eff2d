use Rattle.std.proofs.Common.{◌≡◌, false, Option, Some, sym, ap, ◌∙◌}
use Rattle.std.specs.Prelude.{filter}
use Rattle.std.specs.Borrow.{Bor}
use Rattle.std.specs.BTreeMap.Range.{entries_between}
use Rattle.std.specs.Option.{option_copied}
use Rattle.std.specs.Ordering.{is_gt, is_lt}
use Rattle.std.specs.declared.ops.Bound.TheVariants.{Included, Excluded}
use Rattle.bw_key.specs.Order.{KeyBytes, key_cmp}
use Rattle.bw_model.specs.Contents.{is_pair_in_range}
use Rattle.bw_page.proofs.KeyLemmas.{below_self}
use Rattle.bw_delta.proofs.PairMaps.{in_order}
use Rattle.bw_delta.proofs.Replays.{is_forward, between_all, between_ends, between_none}
use Rattle.bw_delta.proofs.present.range.Goals as goal
use Rattle.bw_delta.proofs.present.range.Goals.{then-lt, else-lt}

pub returns-in_default-clause-sorted : goal.returns-in_default-clause-sorted
returns-in_default-clause-sorted c = in_order c.args.changes.now.entries c.range.ensures.ordered

pub returns-in_default-clause-between : goal.returns-in_default-clause-between
returns-in_default-clause-between c =
    c.range.ensures.between tt ∙ between_all c.args.low.now c.args.changes.now.entries
    ∙ ap (λ (o : Option (Bor KeyBytes)). filter (is_pair_in_range c.args.low.now (option_copied o)) c.args.changes.now.entries) (sym c.in_default.is)

pub range-requires-2 : goal.range-requires-2
range-requires-2 c = elim c.if-lt.branch as (λ b. is_gt (key_cmp c.args.low.now c.if-lt.end.now) ≡ false) [
  | then-lt w ↦ is_forward c.args.low.now c.if-lt.end.now (ap (λ (k : Bor KeyBytes). is_lt (key_cmp k.now c.args.low.now)) w.end-is ∙ below_self c.args.low.now)
  | else-lt w ↦ is_forward c.args.low.now c.if-lt.end.now (ap (λ (k : Bor KeyBytes). is_lt (key_cmp k.now c.args.low.now)) w.end-is ∙ sym c.lt.ensures ∙ w.if-lt.false)
]

pub returns-clause-sorted : goal.returns-clause-sorted
returns-clause-sorted c = in_order c.args.changes.now.entries c.range-2.ensures.ordered

pub returns-clause-between : goal.returns-clause-between
returns-clause-between c =
    let low = c.args.low.now in
    let es = c.args.changes.now.entries in
    c.range-2.ensures.between tt
    ∙ (elim c.if-lt.branch as (λ b. entries_between key_cmp (Included low) (Excluded c.if-lt.end.now) es ≡ filter (is_pair_in_range low (Some c.in-Some.high.now)) es) [
      | then-lt w ↦ ap (λ (k : Bor KeyBytes). entries_between key_cmp (Included low) (Excluded k.now) es) w.end-is ∙ between_ends low low es ∙ between_none low c.in-Some.high.now es (sym c.lt.ensures ∙ w.if-lt.true)
      | else-lt w ↦ ap (λ (k : Bor KeyBytes). entries_between key_cmp (Included low) (Excluded k.now) es) w.end-is ∙ between_ends low c.in-Some.high.now es
    ])
    ∙ ap (λ (o : Option (Bor KeyBytes)). filter (is_pair_in_range low (option_copied o)) es) (sym c.in-Some.is)
