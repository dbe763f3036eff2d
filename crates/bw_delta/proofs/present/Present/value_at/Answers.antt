use Rattle.std.proofs.Common.{◌≡◌, ◌∙◌, List, Option, Some, None, sym, ap}
use Rattle.std.specs.FinMap.{find}
use Rattle.bw_key.specs.Order.{KeyBytes, key_cmp}
use Rattle.bw_model.specs.Values.{Pair, ValueBytes}
use Rattle.bw_delta.specs.Present.{base_pairs, changed_pairs, Change}
use Rattle.bw_delta.proofs.Changes.{find_changed, value_under}
use Rattle.bw_delta.proofs.PairMaps.{found_in}
use Rattle.bw_delta.proofs.present.Present.value_at.Goals as goal

-- the value under changes, by what is found among these
by_change : (changes : List Change) (base : List Pair) (key : KeyBytes) (found : Option (Option ValueBytes)) → found ≡ find key_cmp key changes →
    value_under found (find key_cmp key base) ≡ find key_cmp key (changed_pairs changes base)
by_change changes base key found is = ap (λ o. value_under o (find key_cmp key base)) is ∙ sym (find_changed changes base key)

pub returns-in-Some-Some : goal.returns-in-Some-Some
returns-in-Some-Some c =
    let changes = c.args.self.now.changes.entries in
    let key = c.args.key.now in
    let value = c.in-Some-Some.value in
    ap Some c.bytes.ensures.value
    ∙ by_change changes (base_pairs c.args.self.now.base) key (Some (Some value)) (ap Some (sym c.in-Some-Some.field-0-is) ∙ c.in-Some-Some.ensures.value ∙ found_in key changes)

pub returns-in-Some-None : goal.returns-in-Some-None
returns-in-Some-None c =
    let changes = c.args.self.now.changes.entries in
    let key = c.args.key.now in
    by_change changes (base_pairs c.args.self.now.base) key (Some None) (ap Some (sym c.in-Some-None.field-0-is) ∙ c.in-Some-None.ensures.value ∙ found_in key changes)

pub returns-in-None : goal.returns-in-None
returns-in-None c =
    let changes = c.args.self.now.changes.entries in
    let key = c.args.key.now in
    c.find.ensures ∙ ap (find key_cmp key) c.leaf.ensures
    ∙ by_change changes (base_pairs c.args.self.now.base) key None (c.in-None.ensures.value ∙ found_in key changes)
