use Rattle.std.proofs.Common.{◌∙◌, not, Some, None, cond, sym, ap}
use Rattle.std.specs.BTreeMap as tree
use Rattle.std.specs.Option.{option_copied}
use Rattle.bw_key.specs.Order.{key_cmp, key_eq}
use Rattle.std.specs.FinMap.{find}
use Rattle.bw_delta.specs.Present.{base_pairs}
use Rattle.bw_delta.proofs.Changes.{none_there, put_change, take_back}
use Rattle.bw_delta.proofs.PairMaps.{changed, found_in}
use Rattle.bw_delta.proofs.present.Present.set.Goals as goal

pub returns-then-is_none-2 : goal.returns-then-is_none-2
returns-then-is_none-2 c =
    let old = c.args.self.now.changes.entries in
    let key = c.args.key in
    take_back old c.remove.new.self.entries (base_pairs c.args.self.now.base) key c.args.value
    (none_there c.args.value (c.is_none.ensures ∙ ap not c.if-is_none.true))
    (ap (find key_cmp key) (sym c.leaf.ensures) ∙ sym c.find.ensures ∙ ap option_copied (none_there c.find.result (c.is_none-then-is_none.ensures ∙ ap not c.if-is_none-2.true)))
    (λ q.
    let before = tree.get key_cmp c.args.self.now.changes q in
    sym (found_in q c.remove.new.self.entries)
    ∙ c.remove.ensures.updates.0 q
    ∙ changed q key None before
    ∙ ap (cond (key_eq q key) None) (found_in q old))

pub returns : goal.returns
returns c =
    let old = c.args.self.now.changes.entries in
    let key = c.args.key in
    put_change old c.insert.new.self.entries (base_pairs c.args.self.now.base) key c.args.value
    (λ q.
    let before = tree.get key_cmp c.args.self.now.changes q in
    sym (found_in q c.insert.new.self.entries)
    ∙ c.in_ok-insert.ensures.updates.0 q
    ∙ changed q key (Some c.args.value) before
    ∙ ap (cond (key_eq q key) (Some c.args.value)) (found_in q old))
