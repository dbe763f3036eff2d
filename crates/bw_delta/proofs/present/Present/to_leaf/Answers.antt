use Rattle.std.proofs.Common.{◌≡◌, [], None, subst, sym, refl, rules}
use Rattle.bw_key.specs.Order.{KeyBytes}
use Rattle.bw_page.specs.Pages.{IsPage}
use Rattle.bw_delta.proofs.Replays.{all_from_least}
use Rattle.bw_delta.proofs.present.Present.to_leaf.Goals as goal

pub from_pairs-requires : goal.from_pairs-requires
from_pairs-requires c =
    let least : c.unwrap-low.result ≡ [] = search rules in
    subst (λ (k : KeyBytes). IsPage k None None c.in_ok-pairs.pairs) (sym least)
    (record { sorted = c.in_ok-pairs.ensures.sorted; inside = all_from_least c.in_ok-pairs.pairs; wide = tt; linked = refl })
