-- An identifier that is given back leaves a lawful tree that holds the same.
use Rattle.std.proofs.Common.{◌≡◌, ℕ, List, [], ◌∷◌, Some, sym, ap, ◌∙◌}
use Rattle.bw_level.specs.Freeing.{IsUnreached, IsFreed}
use Rattle.bw_level.specs.Laws.{FreedPageIsKept}
use Rattle.bw_level.specs.Slots.{Slot, PageState, Free, Live, left_of, left_of_slot}
use Rattle.bw_level.specs.Walk.{Leads}
use Rattle.bw_level.proofs.AsideLemmas.{kept_aside}

not_free : {s : PageState} → Free ≡ Live s → ⊥
not_free e = cc

-- left links lead where they led, as none leads to the page
way_same : (old new : List Slot) (levels : List (List ℕ)) (p : ℕ) → IsUnreached old levels p → IsFreed old new p → (c : ℕ) (xs : List ℕ) (e : ℕ) → (c ≡ p → ⊥) → Leads (left_of old) c xs e → Leads (left_of new) c xs e
way_same old new levels p gone freed c [] e other way = (way.0, ap left_of_slot (freed.others c other) ∙ way.1)
way_same old new levels p gone freed c (x ∷ xs) e other way =
    let next = way.1.0 in
    (way.0, (next, ap left_of_slot (freed.others c other) ∙ way.1.1, way_same old new levels p gone freed next xs e (λ same. gone.left c (way.1.1 ∙ ap (λ n. Some n) same)) way.1.2))

pub page_freed : FreedPageIsKept
page_freed old new root levels p lawful gone freed =
    kept_aside old new root levels p lawful (record { stands = gone.stands; named = gone.named }) freed.others
    (λ c xs e other on way. way_same old new levels p gone freed c xs e other way)
    (λ s is. not_free (sym freed.free ∙ is))
