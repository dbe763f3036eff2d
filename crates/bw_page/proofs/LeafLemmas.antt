-- The upper part of a leaf, by its parts.
use Rattle.std.proofs.Common.{◌≡◌, ℕ, ◌<◌, List, [], length, drop, get_or, ap, sym, subst, ◌∙◌, arith}
use Rattle.bw_key.specs.Order.{KeyBytes}
use Rattle.bw_model.specs.Values.{Pair, ValueBytes}
use Rattle.bw_page.specs.Leaves.{LeafView, upper_leaf}
use Rattle.bw_page.specs.Pages.{BeginsAt, BoundsView, IsPage, first_key}
use Rattle.bw_page.proofs.Entries.{first_read, same_page, upper_begins, upper_page}
use Rattle.bw_page.proofs.Search.{read_at}

-- a leaf, as contracts see it, by its bounds and pairs
abbrev leaf_of : BoundsView → List Pair → LeafView ValueBytes
leaf_of b pairs = record { low = b.low; high = b.high; side = b.side; pairs = pairs }

-- bounds and pairs that are the upper part of a leaf, from a place on
pub record IsUpperPart (leaf : LeafView ValueBytes) (n : ℕ) (d : BoundsView) (rest : List Pair) : Type 0 where
  pub view : leaf_of d rest ≡ upper_leaf leaf n
  pub rules : IsPage d.low d.high d.side rest
  pub begins : BeginsAt d.low rest

module _ (leaf : LeafView ValueBytes) (b : BoundsView) (pairs : List Pair) (n : ℕ) (is : leaf_of b pairs ≡ leaf) (lt : n < length leaf.pairs) where
  there : n < length pairs
  there = omega (arith, lt, ap (λ (v : LeafView ValueBytes). length v.pairs) is)

  -- the key that was read at the place is the first one from there on
  low_is : (k : KeyBytes) → ((pair : Pair) → k ≡ (get_or leaf.pairs n pair).0) → k ≡ first_key (drop n pairs)
  low_is k read =
      read ([], [])
      ∙ sym (ap (λ (v : LeafView ValueBytes). (get_or v.pairs n ([], [])).0) is)
      ∙ first_read pairs n (get_or pairs n ([], [])) there (read_at pairs n ([], []) there)

  pub upper_part : (d : BoundsView) (k : KeyBytes) (rest : List Pair) → ((pair : Pair) → k ≡ (get_or leaf.pairs n pair).0) →
      d ≡ record b { low = k } → rest ≡ drop n pairs → IsPage b.low b.high b.side pairs → IsUpperPart leaf n d rest
  upper_part d k rest read bounds rest_is page =
      let low = low_is k read in
      let whole : d ≡ record b { low = first_key (drop n pairs) } = bounds ∙ ap (λ (x : KeyBytes). record b { low = x }) low in
      record {
        view =
            ap (λ (x : BoundsView). leaf_of x rest) whole
            ∙ ap (λ (l : List Pair). leaf_of (record b { low = first_key (drop n pairs) }) l) rest_is
            ∙ ap (λ (l : LeafView ValueBytes). upper_leaf l n) is;
        rules = same_page _ _ _ _ whole rest_is (upper_page b.low b.high b.side pairs n page there);
        begins =
            subst (λ (l : List Pair). BeginsAt d.low l) (sym rest_is)
            (subst (λ (x : KeyBytes). BeginsAt x (drop n pairs)) (sym (ap (λ (x : BoundsView). x.low) whole)) (upper_begins pairs n there));
      }
