use Rattle.std.proofs.Common.{◌<◌, length, not, sym, subst, ap, ◌∙◌, arith}
use Rattle.bw_level.specs.Slots.{side_of, slot_at}
use Rattle.bw_level.specs.Splits.{slot_entries}
use Rattle.bw_steps.proofs.MergeStepLemmas.{decides_one, none_of, root_on}
use Rattle.bw_steps.proofs.merge_steps.has_one_child.Goals as goal

pub entries-requires : goal.entries-requires
entries-requires c =
    let tree = c.args.tree.now in
    subst (λ p. p < length tree.heads) (sym c.root-root.ensures) (c.know_records.ensures.there tree.root (root_on tree tree.root c.know_levels.ensures.lawful))

pub returns-then-is_none : goal.returns-then-is_none
returns-then-is_none c =
    let tree = c.args.tree.now in
    decides_one tree tree.root c.know_levels.ensures.lawful (omega (arith, c.if-root_level-eq0.false, c.root_level.ensures))
    (ap (side_of tree.slots) (sym c.root-root.ensures) ∙ sym c.right_of.ensures ∙ none_of c.right_of.result (c.is_none.ensures ∙ ap not c.if-is_none.true))
    c.entries.result (c.entries.ensures ∙ ap (λ p. slot_entries (slot_at tree.slots p)) c.root-root.ensures)
