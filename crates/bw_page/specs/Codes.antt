-- How contracts keep a page.
use Rattle.std.specs.Prelude.{ℕ, List, Option, refl}
use Rattle.std.specs.Coded.{Coded, code_by, coded×, coded_ℕ, coded_list, coded_option}
use Rattle.bw_model.specs.Values.{ValueBytes}
use Rattle.bw_page.specs.Leaves.{LeafView}
use Rattle.bw_page.specs.Inners.{InnerView}

abbrev pub coded_leaf : Coded (LeafView ValueBytes)
coded_leaf =
    code_by (List ℕ × (Option (List ℕ) × (Option ℕ × List (List ℕ × List ℕ))))
    (coded× (coded_list coded_ℕ) (coded× (coded_option (coded_list coded_ℕ))
    (coded× (coded_option coded_ℕ) (coded_list (coded× (coded_list coded_ℕ) (coded_list coded_ℕ))))))
    (λ l. (l.low, (l.high, (l.side, l.pairs))))
    (λ p. record { low = p.0; high = p.1.0; side = p.1.1.0; pairs = p.1.1.1 })
    (λ _. refl)

abbrev pub coded_inner : Coded InnerView
coded_inner =
    code_by (ℕ × (List ℕ × (Option (List ℕ) × (Option ℕ × List (List ℕ × ℕ)))))
    (coded× coded_ℕ (coded× (coded_list coded_ℕ)
    (coded× (coded_option (coded_list coded_ℕ))
    (coded× (coded_option coded_ℕ) (coded_list (coded× (coded_list coded_ℕ) coded_ℕ))))))
    (λ p. (p.level, (p.low, (p.high, (p.side, p.children)))))
    (λ p. record { level = p.0; low = p.1.0; high = p.1.1.0; side = p.1.1.1.0; children = p.1.1.1.1 })
    (λ _. refl)
