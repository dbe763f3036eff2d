-- A sorted list of pairs as a map.
use Rattle.std.proofs.Common.{◌≡◌, Bool, true, false, cond, not, List, [], Option, None, T, length, refl, sym, ap, ◌∙◌}
use Rattle.std.specs.Prelude.{filter}
use Rattle.std.specs.Ordering.{eq_by_cmp}
use Rattle.std.specs.FinMap.{IsAntisymmetric, nat_cmp-IsAntisymmetric, slice_cmp-IsAntisymmetric, empty, get, insert, remove, entries, from_sorted, find, put, is_sorted, entries-from_sorted, entries-insert, same_entries_map, same_map, empty_of_len, len-entries, get-from_sorted, get-remove}
use Rattle.std.specs.FinMap.Entries.{is_sorted-put, is_sorted-where_key, find-where_key}
use Rattle.bw_key.specs.Order.{KeyBytes, key_cmp, key_cmp_total, key_eq, key_eq_equiv, key_ties}

-- keys that compare alike are equal
only_equal_tie : IsAntisymmetric key_cmp
only_equal_tie = slice_cmp-IsAntisymmetric nat_cmp-IsAntisymmetric

module _ {V : Type 0} where
  abbrev pub IsInOrder : List (KeyBytes × V) → Type 0
  IsInOrder es = T (is_sorted key_cmp es)

  -- a list of no pairs is the empty map
  pub from_nothing : (es : List (KeyBytes × V)) → es ≡ [] → from_sorted {R = key_cmp} es ≡ empty
  from_nothing es none = empty_of_len _ (len-entries (from_sorted {R = key_cmp} es) ∙ ap (λ (l : List (KeyBytes × V)). length (entries (from_sorted {R = key_cmp} l))) none ∙ ap length (entries-from_sorted {X = V} key_cmp [] tt))

  -- a value put in the list is put in the map
  pub from_put : (es : List (KeyBytes × V)) (q : KeyBytes) (v : V) → IsInOrder es → from_sorted {R = key_cmp} (put key_cmp q v es) ≡ insert (from_sorted es) q v
  from_put es q v sorted = same_entries_map _ _ (
      entries-from_sorted key_cmp (put key_cmp q v es) (is_sorted-put key_cmp key_cmp_total q v es sorted)
      ∙ ap (put key_cmp q v) (sym (entries-from_sorted key_cmp es sorted))
      ∙ sym (entries-insert key_cmp_total (from_sorted es) q v))

  pub order_after_put : (es : List (KeyBytes × V)) (q : KeyBytes) (v : V) → IsInOrder es → IsInOrder (put key_cmp q v es)
  order_after_put es q v sorted = is_sorted-put key_cmp key_cmp_total q v es sorted

  -- a look-up in the map is one in the list
  pub get_from : (es : List (KeyBytes × V)) (q : KeyBytes) → IsInOrder es → get (from_sorted {R = key_cmp} es) q ≡ find key_cmp q es
  get_from es q sorted = get-from_sorted key_cmp es q sorted

  not_swaps : (b : Bool) (x y : Option V) → cond (not b) x y ≡ cond b y x
  not_swaps true x y = refl
  not_swaps false x y = refl

  -- the entries whose key is another
  abbrev pub without : KeyBytes → List (KeyBytes × V) → List (KeyBytes × V)
  without q es = filter (λ pair. not (key_eq q pair.0)) es

  pub order_after_remove : (es : List (KeyBytes × V)) (q : KeyBytes) → IsInOrder es → IsInOrder (without q es)
  order_after_remove es q sorted = is_sorted-where_key key_cmp (λ k. not (key_eq q k)) es sorted

  -- a key taken from the list is taken from the map
  pub from_remove : (es : List (KeyBytes × V)) (q : KeyBytes) → IsInOrder es → from_sorted {R = key_cmp} (without q es) ≡ remove (from_sorted es) q
  from_remove es q sorted = same_map key_cmp_total only_equal_tie _ _ (λ k.
      get-from_sorted key_cmp (without q es) k (order_after_remove es q sorted)
      ∙ find-where_key key_cmp (λ x. not (key_eq q x)) k (λ x e. ap (λ y. not (key_eq q y)) (sym (only_equal_tie k x e))) es
      ∙ not_swaps (key_eq q k) (find key_cmp k es) None
      ∙ ap (λ b. cond b None (find key_cmp k es)) (key_eq_equiv.symm q k ∙ key_ties k q)
      ∙ ap (cond (eq_by_cmp key_cmp k q) None) (sym (get-from_sorted key_cmp es k sorted))
      ∙ sym (get-remove key_cmp_total (from_sorted es) q k))
