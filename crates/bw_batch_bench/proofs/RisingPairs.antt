-- Pairs whose keys rise, one behind the other.
use Rattle.std.proofs.Common.{◌≡◌, Bool, true, false, List, [], ◌∷◌, ◌++◌, None, T, refl, sym, ap, ◌∙◌, subst}
use Rattle.std.specs.List.{list_all}
use Rattle.std.specs.Ordering.{is_lt}
use Rattle.std.specs.FinMap.{is_sorted}
use Rattle.std.specs.FinMap.Entries.{below_all}
use Rattle.bw_key.specs.Order.{KeyBytes, key_cmp}
use Rattle.bw_model.specs.Contents.{is_pair_in_range}
use Rattle.bw_model.specs.Values.{Pair}
use Rattle.bw_page.specs.MergedEntries.{AreBefore}
use Rattle.bw_page.specs.Pages.{IsPage}
use Rattle.bw_page.proofs.Truths.{holds, true_holds, not_holds, left_of, right_of, both_of}
use Rattle.bw_page.proofs.KeyLemmas.{below_back, below_trans, upto_below}

-- The keys rise from the low key on and come before the next one, which isn't below the low key.
pub record RiseTo (low next : KeyBytes) (pairs : List Pair) : Type 0 where
  pub sorted : T (is_sorted key_cmp pairs)
  pub inside : T (list_all (is_pair_in_range low None) pairs)
  pub before : AreBefore next pairs
  pub from : is_lt (key_cmp next low) ≡ false

pub none : (low next : KeyBytes) (pairs : List Pair) → pairs ≡ [] → is_lt (key_cmp next low) ≡ false → RiseTo low next pairs
none low next [] e from = record { sorted = tt; inside = tt; before = tt; from = from }
none low next (pair ∷ pairs) e from = absurd cc

below_pushed : (key : KeyBytes) (pair : Pair) (pairs : List Pair) → is_lt (key_cmp key pair.0) ≡ true → T (below_all key_cmp key pairs) → T (below_all key_cmp key (pairs ++ pair ∷ []))
below_pushed key pair [] lt below = both_of _ _ (true_holds _ lt) tt
below_pushed key pair (p ∷ ps) lt below = both_of _ _ (left_of _ _ below) (below_pushed key pair ps lt (right_of _ _ below))

sorted_pushed : (pair : Pair) (pairs : List Pair) → AreBefore pair.0 pairs → T (is_sorted key_cmp pairs) → T (is_sorted key_cmp (pairs ++ pair ∷ []))
sorted_pushed pair [] before sorted = tt
sorted_pushed pair (p ∷ ps) before sorted =
    both_of _ _ (below_pushed p.0 pair ps (holds _ (left_of _ _ before)) (left_of _ _ sorted)) (sorted_pushed pair ps (right_of _ _ before) (right_of _ _ sorted))

all_pushed : (is : Pair → Bool) (pair : Pair) (pairs : List Pair) → T (is pair) → T (list_all is pairs) → T (list_all is (pairs ++ pair ∷ []))
all_pushed is pair [] one all = both_of _ _ one tt
all_pushed is pair (p ∷ ps) one all = both_of _ _ (left_of _ _ all) (all_pushed is pair ps one (right_of _ _ all))

before_later : (next end : KeyBytes) (pairs : List Pair) → is_lt (key_cmp next end) ≡ true → AreBefore next pairs → AreBefore end pairs
before_later next end [] lt before = tt
before_later next end (p ∷ ps) lt before =
    both_of _ _ (true_holds _ (below_trans p.0 next end (holds _ (left_of _ _ before)) lt)) (before_later next end ps lt (right_of _ _ before))

-- the pair of the next key behind them
pub pushed : (low next end : KeyBytes) (pair : Pair) (pairs after : List Pair) → after ≡ pairs ++ pair ∷ [] → pair.0 ≡ next → is_lt (key_cmp next end) ≡ true → RiseTo low next pairs → RiseTo low end after
pushed low next end pair pairs after is key lt rise =
    let at : RiseTo low pair.0 pairs = subst (λ k. RiseTo low k pairs) (sym key) rise in
    let less : is_lt (key_cmp pair.0 end) ≡ true = ap (λ k. is_lt (key_cmp k end)) key ∙ lt in
    subst (RiseTo low end) (sym is) (record {
      sorted = sorted_pushed pair pairs at.before at.sorted;
      inside = all_pushed (is_pair_in_range low None) pair pairs (both_of _ _ (not_holds _ at.from) tt) at.inside;
      before = all_pushed (λ p. is_lt (key_cmp p.0 end)) pair pairs (true_holds _ less) (before_later pair.0 end pairs less at.before);
      from = below_back low end (upto_below low pair.0 end at.from less);
    })

-- they are a page
pub page : (low next : KeyBytes) (pairs : List Pair) → RiseTo low next pairs → IsPage low None None pairs
page low next pairs rise = record { sorted = rise.sorted; inside = rise.inside; wide = tt; linked = refl }
