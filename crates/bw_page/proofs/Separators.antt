-- The last entry of a sorted list whose key isn't above a given one.
use Rattle.std.proofs.Common.{inl, inr, ◌≡◌, ℕ, zero, suc, ◌-◌, ◌<◌, ◌≤◌, Bool, true, false, not, List, [], ◌∷◌, length, get_or, T, sym, ap, ◌∙◌, arith}
use Rattle.std.proofs.lemmas.Bool.{cases_lt}
use Rattle.std.proofs.lemmas.List.{get_or_default}
use Rattle.std.specs.List.Sorted.{IsPartitionedBy, IsPartitionPoint}
use Rattle.std.specs.Ordering.{is_lt}
use Rattle.std.specs.FinMap.{is_sorted}
use Rattle.bw_key.specs.Order.{KeyBytes, key_cmp}
use Rattle.bw_page.specs.Inners.{IsLastUpto, IsUpto, is_upto}
use Rattle.bw_page.specs.Pages.{BeginsAt, first_key}
use Rattle.bw_page.proofs.Truths.{holds_not, not_holds, true_holds}
use Rattle.bw_page.proofs.KeyLemmas.{below_back, below_self, below_upto}
use Rattle.bw_page.proofs.Search.{rises}

-- whether an entry's key isn't above another
abbrev pub isnt_above : {X : Type 0} → KeyBytes → KeyBytes × X → Bool
isnt_above q e = is_upto e.0 q

upto_not : (a b : KeyBytes) → is_upto a b ≡ true → is_lt (key_cmp b a) ≡ false
upto_not a b h = holds_not _ (true_holds _ h)

upto_is : (a b : KeyBytes) → is_lt (key_cmp b a) ≡ false → is_upto a b ≡ true
upto_is a b h = ap not h

not_upto : (a b : KeyBytes) → is_lt (key_cmp b a) ≡ true → is_upto a b ≡ false
not_upto a b h = ap not h

-- entries that begin at a key
pub first_there : {X : Type 0} (low : KeyBytes) (es : List (KeyBytes × X)) → BeginsAt low es → (0 < length es) × (first_key es ≡ low)
first_there low [] h = absurd h
first_there low (e ∷ es) h = (omega arith, h)

module _ {X : Type 0} where
  -- an entry before one that isn't above a key isn't either
  before_upto : (q : KeyBytes) (x y : KeyBytes × X) → is_lt (key_cmp x.0 y.0) ≡ true → is_lt (key_cmp q y.0) ≡ false → is_lt (key_cmp q x.0) ≡ false
  before_upto q x y less upto = below_back x.0 q (below_upto x.0 y.0 q less upto)

  read : (es : List (KeyBytes × X)) (i : ℕ) (d : KeyBytes × X) → i < length es → get_or es i d ≡ get_or es i (get_or es i d)
  read es i d lt = get_or_default es i d (get_or es i d) lt

  -- the entries that aren't above a key come first
  pub parted_upto : (q : KeyBytes) (es : List (KeyBytes × X)) → T (is_sorted key_cmp es) → IsPartitionedBy (isnt_above q) es
  parted_upto q es sorted i j d le lt upto = elim (cases_lt i j) [
    | inl less ↦
        let rising = rises es i j (get_or es i d) (get_or es j d) sorted less lt (read es i d (omega arith)) (read es j d lt) in
        upto_is (get_or es i d).0 q (before_upto q (get_or es i d) (get_or es j d) rising (upto_not (get_or es j d).0 q upto))
    | inr ge ↦
        let same : j ≡ i = omega arith in
        ap (λ (n : ℕ). isnt_above q (get_or es n d)) (sym same) ∙ upto
  ]

  -- where they end
  abbrev pub EndsUpto : KeyBytes → List (KeyBytes × X) → ℕ → Type 0
  EndsUpto q es n = IsPartitionPoint (λ e. is_upto e.0 q ≡ true) (λ e. is_upto e.0 q ≡ false) es n

  pub some_upto : (q : KeyBytes) (es : List (KeyBytes × X)) (n : ℕ) → 0 < length es → IsUpto (first_key es) q → EndsUpto q es n → 1 ≤ n
  some_upto q [] n some first ends = absurd (omega arith)
  some_upto q (e ∷ es) zero some first ends = absurd (different (sym (ends.1 0 e (omega arith) (omega arith)) ∙ upto_is e.0 q (holds_not _ first)))
    where
      different : false ≡ true → ⊥
      different e = cc
  some_upto q (e ∷ es) (suc n) some first ends = omega arith

  -- the entry before that is the one
  pub last_there : (q : KeyBytes) (es : List (KeyBytes × X)) (n : ℕ) (d : KeyBytes × X) → T (is_sorted key_cmp es) → 1 ≤ n → n ≤ length es → EndsUpto q es n → IsLastUpto q es (get_or es (n - 1) d).1
  last_there q es n d sorted some within ends =
      let x = get_or es (n - 1) d in
      let at : n - 1 < length es = omega arith in
      record {
        separator = x.0;
        named = (n - 1, at, sym (read es (n - 1) d at));
        not_above = not_holds _ (upto_not x.0 q (ends.0 (n - 1) d (omega arith) (omega arith)));
        greatest = λ e in_list upto. elim (cases_lt in_list.0 (n - 1)) [
          | inl lt ↦ not_holds _ (below_back e.0 x.0 (rises es in_list.0 (n - 1) e x sorted lt at (sym in_list.2) (read es (n - 1) d at)))
          | inr ge ↦ elim (cases_lt (n - 1) in_list.0) [
            | inl gt ↦ absurd (different (sym (ends.1 in_list.0 e (omega arith) in_list.1) ∙ ap (isnt_above q) in_list.2 ∙ upto_is e.0 q (holds_not _ upto)))
            | inr le ↦
                let same : n - 1 ≡ in_list.0 = omega arith in
                let one : x ≡ e = get_or_default es (n - 1) d e at ∙ ap (λ (m : ℕ). get_or es m e) same ∙ in_list.2 in
                not_holds _ (ap (λ (y : KeyBytes × X). is_lt (key_cmp x.0 y.0)) (sym one) ∙ below_self x.0)
          ]
        ];
      }
    where
      different : false ≡ true → ⊥
      different e = cc
