use Rattle.std.proofs.Common.{arith}
use Rattle.bw_shape.proofs.AbsorbLemmas.{few_on}
use Rattle.bw_shape.proofs.absorbing.has_room.Goals as goal

pub entries-requires : goal.entries-requires
entries-requires c = c.know_records.ensures.there c.args.page c.requires

pub count_writes-writes-requires : goal.count_writes-writes-requires
count_writes-writes-requires c = c.know_records.ensures.there c.args.page c.requires

pub returns-then-saturating_add-page_max : goal.returns-then-saturating_add-page_max
returns-then-saturating_add-page_max c = λ room.
    let tree = c.args.tree.now in
    omega (arith, few_on tree tree.root c.args.page c.know_levels.ensures.lawful c.know_pairs.ensures c.requires, c.if-saturating_add-page_max.true, c.saturating_add.ensures, c.saturating_add-entries.ensures, c.entries.ensures, c.count_writes-writes.ensures, c.page_max.ensures.value, c.page_max.ensures.least.small_page)
