-- Ordered maps and sorted lists of pairs, looked up at a key.
use Rattle.std.proofs.Common.{◌≡◌, Bool, true, false, cond, ◌&&◌, List, [], ◌∷◌, ◌++◌, map, Option, Some, None, T, Result, Ok, Err, IfOk, refl, sym, ap, ◌∙◌}
use Rattle.std.specs.Prelude.{filter}
use Rattle.std.specs.List.{AllByRecursion}
use Rattle.std.specs.List.Sorted.{IsStrictlySortedBy}
use Rattle.std.specs.Map.{lookup}
use Rattle.std.specs.Option.{option_or}
use Rattle.std.specs.Ordering.{is_eq, is_lt}
use Rattle.std.specs.BTreeMap as tree
use Rattle.std.specs.FinMap.{find, is_sorted}
use Rattle.std.specs.FinMap.Entries.{below_all, find-where_key, is_sorted-where_key}
use Rattle.std.specs.declared.cmp.Ordering.TheVariants.{Less}
use Rattle.bw_key.specs.Order.{KeyBytes, key_cmp, key_eq, key_eq_equiv, key_ties}
use Rattle.bw_model.specs.Contents.{is_in_range, is_pair_in_range}
use Rattle.bw_page.proofs.KeyLemmas.{keys_tie}
use Rattle.bw_page.specs.Leaves.{LeafView}
use Rattle.bw_delta.specs.PagePairs.{value_in_parts}

both_hold : (a b : Bool) → a ≡ true → T b → T (a && b)
both_hold true b e h = h
both_hold false b e h = absurd (different e)
  where
    different : false ≡ true → ⊥
    different e = cc

module _ {V : Type 0} where
  -- a look-up in a map is one in the list of its entries
  pub found_in : (q : KeyBytes) (es : List (KeyBytes × V)) → lookup (tree.is_at (key_cmp q)) es ≡ find key_cmp q es
  found_in q [] = refl
  found_in q (e ∷ es) = ap (cond (is_eq (key_cmp q e.0)) (Some e.1)) (found_in q es)

  -- the entries of a map are sorted
  pub in_order : (es : List (KeyBytes × V)) → IsStrictlySortedBy key_cmp (map (λ (e : KeyBytes × V). e.0) es) → T (is_sorted key_cmp es)
  unfolding IsStrictlySortedBy
  in_order [] h = tt
  in_order (e ∷ es) h = both_hold (below_all key_cmp e.0 es) (is_sorted key_cmp es) (below es h.0) (in_order es h.1)
    where
      below : (es : List (KeyBytes × V)) → AllByRecursion (λ y. key_cmp e.0 y ≡ Less) (map (λ (e : KeyBytes × V). e.0) es) → below_all key_cmp e.0 es ≡ true
      below [] h = refl
      below (x ∷ xs) h = ap (λ o. is_lt o && below_all key_cmp e.0 xs) h.0 ∙ below xs h.1

  -- a value, or none, at a key
  pub changed : (q k : KeyBytes) (w o : Option V) → cond (tree.is_at (key_cmp k) q) w o ≡ cond (key_eq q k) w o
  changed q k w o = ap (λ b. cond b w o) (sym (key_ties k q) ∙ sym (key_eq_equiv.symm q k))

  -- values that agree inside a range
  pub only_inside : (b : Bool) (v w : Option V) → (b ≡ true → v ≡ w) → cond b v None ≡ cond b w None
  only_inside true v w same = same refl
  only_inside false v w same = refl

  -- the entries of a range
  pub find_in_range : (low : KeyBytes) (high : Option KeyBytes) (q : KeyBytes) (es : List (KeyBytes × V)) →
      find key_cmp q (filter (is_pair_in_range low high) es) ≡ cond (is_in_range low high q) (find key_cmp q es) None
  find_in_range low high q es = find-where_key key_cmp (is_in_range low high) q (λ x e. ap (is_in_range low high) (sym (keys_tie q x e))) es

  pub sorted_in_range : (low : KeyBytes) (high : Option KeyBytes) (es : List (KeyBytes × V)) → T (is_sorted key_cmp es) → T (is_sorted key_cmp (filter (is_pair_in_range low high) es))
  sorted_in_range low high es sorted = is_sorted-where_key key_cmp (is_in_range low high) es sorted

  -- a look-up that passes all but the last pair
  pub find_last : (q : KeyBytes) (es : List (KeyBytes × V)) (x : KeyBytes × V) (b : Option V) →
      option_or (find key_cmp q es) (cond (key_eq q x.0) (Some x.1) b) ≡ option_or (find key_cmp q (es ++ x ∷ [])) b
  find_last q [] x b = by (key_eq q x.0) ∙ ap (λ t. option_or (cond t (Some x.1) None) b) (key_ties q x.0)
    where
      by : (t : Bool) → cond t (Some x.1) b ≡ option_or (cond t (Some x.1) None) b
      by true = refl
      by false = refl
  find_last q (e ∷ es) x b = by (is_eq (key_cmp q e.0)) (find_last q es x b)
    where
      by : (t : Bool) → option_or (find key_cmp q es) (cond (key_eq q x.0) (Some x.1) b) ≡ option_or (find key_cmp q (es ++ x ∷ [])) b →
          option_or (cond t (Some e.1) (find key_cmp q es)) (cond (key_eq q x.0) (Some x.1) b) ≡ option_or (cond t (Some e.1) (find key_cmp q (es ++ x ∷ []))) b
      by true more = refl
      by false more = more

  or_or : (a b c : Option V) → option_or (option_or a b) c ≡ option_or a (option_or b c)
  or_or None b c = refl
  or_or (Some v) b c = refl

  pub or_none : (a : Option V) → option_or a None ≡ a
  or_none None = refl
  or_none (Some v) = refl

  -- and one that passes all but the last part
  pub value_last : (q : KeyBytes) (parts : List (LeafView V)) (part : LeafView V) (b : Option V) →
      option_or (value_in_parts parts q) (option_or (find key_cmp q part.pairs) b) ≡ option_or (value_in_parts (parts ++ part ∷ []) q) b
  value_last q [] part b = ap (λ o. option_or o b) (sym (or_none (find key_cmp q part.pairs)))
  value_last q (p ∷ parts) part b =
      or_or (find key_cmp q p.pairs) (value_in_parts parts q) (option_or (find key_cmp q part.pairs) b)
      ∙ ap (option_or (find key_cmp q p.pairs)) (value_last q parts part b)
      ∙ sym (or_or (find key_cmp q p.pairs) (value_in_parts (parts ++ part ∷ []) q) b)

-- two facts on a result make a third
pub both_ok : {X E : Type 0} {P Q R : X → Type 0} (r : Result X E) → ((x : X) → P x → Q x → R x) → IfOk r P → IfOk r Q → IfOk r R
both_ok (Ok x) makes p q = makes x p q
both_ok (Err e) makes p q = tt
