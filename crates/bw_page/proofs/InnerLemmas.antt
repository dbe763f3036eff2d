-- The upper part of an inner page, by its parts.
use Rattle.std.proofs.Common.{◌≡◌, ℕ, ◌<◌, List, [], length, drop, get_or, ap, sym, ◌∙◌, arith}
use Rattle.bw_key.specs.Order.{KeyBytes}
use Rattle.bw_page.specs.Inners.{InnerView, IsInner, upper_inner}
use Rattle.bw_page.specs.Pages.{BoundsView, first_key}
use Rattle.bw_page.proofs.Entries.{first_read, same_inner, upper_inner_page}
use Rattle.bw_page.proofs.Search.{read_at}

-- an inner page, as contracts see it, by its level, bounds and children
abbrev inner_of : ℕ → BoundsView → List (KeyBytes × ℕ) → InnerView
inner_of level b children = record { level = level; low = b.low; high = b.high; side = b.side; children = children }

-- bounds and children that are the upper part of an inner page, from a place on
pub record IsUpperInner (inner : InnerView) (n level : ℕ) (d : BoundsView) (rest : List (KeyBytes × ℕ)) : Type 0 where
  pub view : inner_of level d rest ≡ upper_inner inner n
  pub rules : IsInner level d.low d.high d.side rest

module _ (inner : InnerView) (level : ℕ) (b : BoundsView) (children : List (KeyBytes × ℕ)) (n : ℕ) (is : inner_of level b children ≡ inner) (lt : n < length inner.children) where
  there : n < length children
  there = omega (arith, lt, ap (λ (v : InnerView). length v.children) is)

  pub upper_inner_part : (d : BoundsView) (k : KeyBytes) (rest : List (KeyBytes × ℕ)) → ((e : KeyBytes × ℕ) → k ≡ (get_or inner.children n e).0) →
      d ≡ record b { low = k } → rest ≡ drop n children → IsInner level b.low b.high b.side children → IsUpperInner inner n level d rest
  upper_inner_part d k rest read bounds rest_is rules =
      let low : k ≡ first_key (drop n children) =
      read ([], 0)
      ∙ sym (ap (λ (v : InnerView). (get_or v.children n ([], 0)).0) is)
      ∙ first_read children n (get_or children n ([], 0)) there (read_at children n ([], 0) there) in
      let whole : d ≡ record b { low = first_key (drop n children) } = bounds ∙ ap (λ (x : KeyBytes). record b { low = x }) low in
      record {
        view =
            ap (λ (x : BoundsView). inner_of level x rest) whole
            ∙ ap (λ (l : List (KeyBytes × ℕ)). inner_of level (record b { low = first_key (drop n children) }) l) rest_is
            ∙ ap (λ (v : InnerView). upper_inner v n) is;
        rules = same_inner level _ _ _ _ whole rest_is (upper_inner_page level b.low b.high b.side children n rules there);
      }
