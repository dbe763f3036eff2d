-- Entries of a sorted list that pass tests on their keys.
use Rattle.std.proofs.Common.{◌≡◌, ℕ, ◌≤◌, Bool, true, false, cond, ◌||◌, T, List, [], ◌∷◌, ◌++◌, length, take, refl, sym, ap, ◌∙◌}
use Rattle.std.specs.Ordering.{is_lt}
use Rattle.std.specs.FinMap.{is_sorted}
use Rattle.std.specs.FinMap.Entries.{below_all, where_key}
use Rattle.std.proofs.lemmas.List.{take-append-le}
use Rattle.bw_key.specs.Order.{KeyBytes, key_cmp}
use Rattle.bw_page.proofs.Truths.{holds, left_of, right_of}

different : true ≡ false → ⊥
different e = cc

module _ {V : Type 0} where
  -- where the test refuses all keys above one that is below all
  none_above : (p : KeyBytes → Bool) (k : KeyBytes) (es : List (KeyBytes × V)) → ((b : KeyBytes) → is_lt (key_cmp k b) ≡ true → p b ≡ false) → T (below_all key_cmp k es) → where_key key_cmp p es ≡ []
  none_above p k [] refuses below = refl
  none_above p k (e ∷ es) refuses below =
      ap (λ b. cond b (e ∷ where_key key_cmp p es) (where_key key_cmp p es)) (refuses e.0 (holds _ (left_of _ _ below)))
      ∙ none_above p k es refuses (right_of _ _ below)

  -- entries that pass a test, and then those that pass another one which only keys above them pass
  pub one_then_other : (p q r : KeyBytes → Bool) → ((k : KeyBytes) → p k ≡ true → q k ≡ false) → ((a b : KeyBytes) → q a ≡ true → is_lt (key_cmp a b) ≡ true → p b ≡ false) → ((k : KeyBytes) → r k ≡ (p k || q k)) →
      (es : List (KeyBytes × V)) → T (is_sorted key_cmp es) → where_key key_cmp p es ++ where_key key_cmp q es ≡ where_key key_cmp r es
  one_then_other p q r either rises whole [] sorted = refl
  one_then_other p q r either rises whole (e ∷ es) sorted =
      step (p e.0) (q e.0) (r e.0) (whole e.0) (either e.0) (λ passes. none_above p e.0 es (λ b above. rises e.0 b passes above) (left_of _ _ sorted))
      (one_then_other p q r either rises whole es (right_of _ _ sorted))
    where
      step : (a b c : Bool) → c ≡ (a || b) → (a ≡ true → b ≡ false) → (b ≡ true → where_key key_cmp p es ≡ []) → where_key key_cmp p es ++ where_key key_cmp q es ≡ where_key key_cmp r es →
          cond a (e ∷ where_key key_cmp p es) (where_key key_cmp p es) ++ cond b (e ∷ where_key key_cmp q es) (where_key key_cmp q es) ≡ cond c (e ∷ where_key key_cmp r es) (where_key key_cmp r es)
      step true true c is apart none rest = absurd (different (apart refl))
      step true false c is apart none rest = ap (λ l. e ∷ l) rest ∙ sym (ap (λ b. cond b (e ∷ where_key key_cmp r es) (where_key key_cmp r es)) is)
      step false true c is apart none rest =
          ap (λ (l : List (KeyBytes × V)). l ++ (e ∷ where_key key_cmp q es)) (none refl)
          ∙ ap (λ (l : List (KeyBytes × V)). e ∷ l) (sym (ap (λ (l : List (KeyBytes × V)). l ++ where_key key_cmp q es) (none refl)) ∙ rest)
          ∙ sym (ap (λ b. cond b (e ∷ where_key key_cmp r es) (where_key key_cmp r es)) is)
      step false false c is apart none rest = rest ∙ sym (ap (λ b. cond b (e ∷ where_key key_cmp r es) (where_key key_cmp r es)) is)

  -- a test that passes what passed before, and one that refuses it
  pub all_of_those : (p r : KeyBytes → Bool) → ((k : KeyBytes) → r k ≡ true → p k ≡ true) → (es : List (KeyBytes × V)) → where_key key_cmp p (where_key key_cmp r es) ≡ where_key key_cmp r es
  all_of_those p r passes [] = refl
  all_of_those p r passes (e ∷ es) = step (r e.0) refl (all_of_those p r passes es)
    where
      step : (b : Bool) → r e.0 ≡ b → where_key key_cmp p (where_key key_cmp r es) ≡ where_key key_cmp r es →
          where_key key_cmp p (cond b (e ∷ where_key key_cmp r es) (where_key key_cmp r es)) ≡ cond b (e ∷ where_key key_cmp r es) (where_key key_cmp r es)
      step true is rest = ap (λ b. cond b (e ∷ where_key key_cmp p (where_key key_cmp r es)) (where_key key_cmp p (where_key key_cmp r es))) (passes e.0 is) ∙ ap (λ (l : List (KeyBytes × V)). e ∷ l) rest
      step false is rest = rest

  pub none_of_those : (p r : KeyBytes → Bool) → ((k : KeyBytes) → r k ≡ true → p k ≡ false) → (es : List (KeyBytes × V)) → where_key key_cmp p (where_key key_cmp r es) ≡ []
  none_of_those p r refuses [] = refl
  none_of_those p r refuses (e ∷ es) = step (r e.0) refl (none_of_those p r refuses es)
    where
      step : (b : Bool) → r e.0 ≡ b → where_key key_cmp p (where_key key_cmp r es) ≡ [] → where_key key_cmp p (cond b (e ∷ where_key key_cmp r es) (where_key key_cmp r es)) ≡ []
      step true is rest = ap (λ b. cond b (e ∷ where_key key_cmp p (where_key key_cmp r es)) (where_key key_cmp p (where_key key_cmp r es))) (refuses e.0 is) ∙ rest
      step false is rest = rest

  -- the first entries of a list are those of its front, where this is long enough
  pub first_of_front : (most : ℕ) (front back all : List (KeyBytes × V)) → front ++ back ≡ all → most ≤ length front → take most front ≡ take most all
  first_of_front most front back all is enough = sym (take-append-le most front back enough) ∙ ap (take most) is
