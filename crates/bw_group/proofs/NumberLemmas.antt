-- The numbers of the pages of a run of points.
use Rattle.std.proofs.Common.{◌≡◌, ℕ, zero, suc, ◌<◌, List, [], ◌∷◌, length, get_or, Some, sym, ap, ◌∙◌, subst, arith}
use Rattle.std.specs.Prelude.{slice_get, slice_index}
use Rattle.std.specs.List.{AllByRecursion}
use Rattle.std.proofs.lemmas.List.{get_or_default}
use Rattle.std.proofs.lemmas.Option.{get_or_from_slice_get, slice_get_within}
use Rattle.bw_group.specs.Homes.{HasPageAt, HomesView, IsPageAt, number_of}
use Rattle.bw_group.specs.Points.{Entry, entries_of, place_at}
use Rattle.bw_group.specs.declared.points.Point.{Point}
use Rattle.bw_group.proofs.PointGroups.{entry_holds}
use Rattle.bw_group.proofs.ListParts.{all_same}
use Rattle.bw_group.proofs.HomeRuns.{all_both}

-- a place within a list has its element
some_at : (xs : List ℕ) (i x : ℕ) → i < length xs → slice_index xs i ≡ x → slice_get xs i ≡ Some x
some_at [] i x lt is = absurd (omega (arith, lt))
some_at (y ∷ xs) zero x lt is = ap Some is
some_at (y ∷ xs) (suc i) x lt is = some_at xs i x (omega (arith, lt)) is

pub places_within : (homes : HomesView) (es : List Entry) → AllByRecursion (λ e. HasPageAt homes e.1) es → AllByRecursion (λ e. e.1 < length homes.numbers) es
places_within homes = all_same (λ e. HasPageAt homes e.1) (λ e. e.1 < length homes.numbers) (λ e at. slice_get_within homes.numbers e.1 at.1.number at.1.at)

module _ (homes : HomesView) (items : List ℕ) (ps : List Point) (n : ℕ) (p : Point) (are : items ≡ homes.numbers) (lt : n < length ps) (is : p ≡ get_or ps n p) where
  abbrev at : ℕ
  at = (get_or ps n p).place

  -- the place of a point has a number
  pub number_there : AllByRecursion (λ e. e.1 < length homes.numbers) (entries_of ps) → at < length items
  number_there within =
      let here : p.place < length homes.numbers = entry_holds (λ e. e.1 < length homes.numbers) ps n p lt is within in
      omega (arith, here, ap (λ (q : Point). q.place) is, ap (λ (l : List ℕ). length l) are)

  -- which is the one that was read
  pub number_read : (got : ℕ) (d : Point) → AllByRecursion (λ e. e.1 < length homes.numbers) (entries_of ps) → got ≡ get_or items at got → number_of homes (place_at ps n d) ≡ got
  number_read got d within read =
      ap (λ (q : Point). number_of homes q.place) (get_or_default ps n d p lt)
      ∙ ap (λ (l : List ℕ). slice_index l at) (sym are) ∙ get_or_default items at 0 got (number_there within) ∙ sym read

  -- and so where any number was to be read past the end
  pub number_at : (d : Point) → AllByRecursion (λ e. e.1 < length homes.numbers) (entries_of ps) → number_of homes (place_at ps n d) ≡ get_or items at 0
  number_at d within = number_read (get_or items at 0) d within (get_or_default items at 0 (get_or items at 0) (number_there within))

  -- and that of a page
  pub page_there : (got : ℕ) → AllByRecursion (λ e. HasPageAt homes e.1) (entries_of ps) → got ≡ get_or items at got → got < length homes.pages
  page_there got pages read =
      let here = entry_holds (λ e. HasPageAt homes e.1) ps n p lt is pages in
      let number : here.1.number ≡ got =
      sym (get_or_from_slice_get homes.numbers p.place here.1.number got here.1.at)
      ∙ ap (λ (i : ℕ). get_or homes.numbers i got) (ap (λ (q : Point). q.place) is) ∙ ap (λ (l : List ℕ). get_or l at got) (sym are) ∙ sym read in
      omega (arith, number, slice_get_within homes.pages here.1.number here.0 here.1.is)

  pub page_at : AllByRecursion (λ e. HasPageAt homes e.1) (entries_of ps) → get_or items at 0 < length homes.pages
  page_at pages = page_there (get_or items at 0) pages (get_or_default items at 0 (get_or items at 0) (number_there (places_within homes (entries_of ps) pages)))

-- points with the number of a page have the page
pub pages_at : (homes : HomesView) (pages : List ℕ) (number page : ℕ) (es : List Entry) → pages ≡ homes.pages → number < length homes.pages → page ≡ get_or pages number page →
    AllByRecursion (λ e. e.1 < length homes.numbers) es → AllByRecursion (λ e. number_of homes e.1 ≡ number) es → AllByRecursion (λ e. IsPageAt homes page e.1) es
pages_at homes pages number page es are lt read =
    let is : slice_index homes.pages number ≡ page = ap (λ (l : List ℕ). slice_index l number) (sym are) ∙ get_or_default pages number 0 page (subst (λ (l : List ℕ). number < length l) (sym are) lt) ∙ sym read in
    all_both (λ e. e.1 < length homes.numbers) (λ e. number_of homes e.1 ≡ number) (λ e. IsPageAt homes page e.1)
    (λ e within same. record { number = number; at = some_at homes.numbers e.1 number within same; is = some_at homes.pages number page lt is }) es
