use Rattle.std.proofs.Common.{◌≡◌, List, [], None, subst, sym, ap, ◌∙◌, refl, rules}
use Rattle.std.specs.Map.{lookup}
use Rattle.std.specs.Option.{option_or}
use Rattle.std.specs.FinMap.{find}
use Rattle.std.specs.BTreeMap as tree
use Rattle.bw_key.specs.Order.{KeyBytes, key_cmp}
use Rattle.bw_model.specs.Values.{Pair}
use Rattle.bw_page.specs.Pages.{IsPage}
use Rattle.bw_delta.specs.PagePairs.{parts_of, value_in_parts}
use Rattle.bw_delta.proofs.PairMaps.{found_in, or_none}
use Rattle.bw_delta.proofs.Replays.{all_from_least}
use Rattle.bw_delta.proofs.consolidation.joined.Goals as goal

pub from_pairs-requires : goal.from_pairs-requires
from_pairs-requires c =
    let least : c.unwrap-low.result ≡ [] = search rules in
    subst (λ (k : KeyBytes). IsPage k None None c.in_ok-packed.field-0) (sym least)
    (record { sorted = c.in_ok-packed.ensures.sorted; inside = all_from_least c.in_ok-packed.field-0; wide = tt; linked = refl })

pub returns : goal.returns
returns c q below =
    let parts = value_in_parts (parts_of c.args.parts.now) q in
    ap (find key_cmp q) (c.from_pairs.ensures.pairs ∙ c.in_ok-packed.ensures.all)
    ∙ sym (found_in q c.put_parts.new.values.entries)
    ∙ c.in_ok-put_parts.ensures q below
    ∙ ap (λ (es : List Pair). option_or parts (lookup (tree.is_at (key_cmp q)) es)) c.new-values.ensures.empty ∙ or_none parts
