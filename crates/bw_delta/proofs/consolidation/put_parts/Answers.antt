use Rattle.std.proofs.Common.{List, ◌∷◌, [], sym, ap, ◌∙◌}
use Rattle.std.proofs.lemmas.List.{map-append}
use Rattle.std.specs.Borrow.{Bor}
use Rattle.std.specs.Option.{option_or}
use Rattle.std.specs.BTreeMap as tree
use Rattle.bw_key.specs.Order.{key_cmp}
use Rattle.bw_model.specs.Values.{ValueBytes}
use Rattle.bw_page.specs.Leaves.{LeafView}
use Rattle.bw_delta.specs.PagePairs.{parts_of, value_in_parts}
use Rattle.bw_delta.proofs.PairMaps.{value_last}
use Rattle.bw_delta.proofs.consolidation.put_parts.Goals as goal

pub loop-part-preserved : goal.loop-part-preserved
loop-part-preserved c q below =
    let rest = c.next.new.self.iter.rest.now in
    let part = c.in-Some.part.now in
    let before = tree.get key_cmp c.loop-part.values q in
    let put = c.in_ok-put_pairs.ensures q below in
    let seen = ap parts_of c.in-Some.ensures.steps ∙ map-append (λ (r : Bor (LeafView ValueBytes)). r.now) rest (part ∷ []) in
    ap (option_or (value_in_parts (parts_of rest) q)) put ∙ value_last q (parts_of rest) part.now before
    ∙ ap (λ (l : List (LeafView ValueBytes)). option_or (value_in_parts l q) before) (sym seen) ∙ c.loop-part.invariant q below
