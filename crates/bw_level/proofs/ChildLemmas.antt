-- An inner page that was given a child.
use Rattle.std.proofs.Common.{inl, inr, ◌⊎◌, ◌≡◌, ℕ, zero, suc, true, false, List, [], ◌∷◌, refl, sym, ap, ◌∙◌, subst, Ordering, arith}
use Rattle.std.specs.List.{Contains}
use Rattle.std.specs.Ordering.{is_lt}
use Rattle.std.specs.FinMap.{put}
use Rattle.std.specs.FinMap.Entries.{by_order}
use Rattle.std.specs.declared.cmp.Ordering.TheVariants.{Less, Equal, Greater}
use Rattle.bw_key.specs.Order.{KeyBytes, key_cmp}
use Rattle.bw_page.specs.Inners.{IsLastUpto, IsUpto, is_upto}
use Rattle.bw_page.proofs.Truths.{holds, holds_not, not_holds, true_holds}
use Rattle.bw_page.proofs.KeyLemmas.{below_back, below_self, keys_tie, upto_trans}
use Rattle.bw_level.specs.declared.target.Target.{Target}
use Rattle.bw_level.specs.Targets.{IsChildFor, IsEntryFor, IsLastEntry, SeparatorsAgree, lies_from}

different : true ≡ false → ⊥
different e = cc

behind : (e x : KeyBytes × ℕ) (es : List (KeyBytes × ℕ)) → Contains es x → Contains (e ∷ es) x
behind e x es has = (suc has.0, omega (arith, has.1), has.2)

-- the entry that was put is there
pub put_there : (k : KeyBytes) (v : ℕ) (es : List (KeyBytes × ℕ)) → Contains (put key_cmp k v es) (k, v)
put_there k v [] = (0, omega arith, refl)
put_there k v (e ∷ es) = by (key_cmp k e.0) refl (put_there k v es)
  where
    by : (o : Ordering) → key_cmp k e.0 ≡ o → Contains (put key_cmp k v es) (k, v) → Contains (by_order o ((k, v) ∷ e ∷ es) ((e.0, v) ∷ es) (e ∷ put key_cmp k v es)) (k, v)
    by Less is rest = (0, omega arith, refl)
    by Equal is rest = subst (λ (x : KeyBytes). Contains ((x, v) ∷ es) (k, v)) (keys_tie k e.0 is) (0, omega arith, refl)
    by Greater is rest = behind e (k, v) (put key_cmp k v es) rest

-- an entry with another key stays
pub put_keeps : (k : KeyBytes) (v : ℕ) (es : List (KeyBytes × ℕ)) (x : KeyBytes × ℕ) → Contains es x → Contains (put key_cmp k v es) x ⊎ (x.0 ≡ k)
put_keeps k v [] x has = absurd (omega (arith, has.1))
put_keeps k v (e ∷ es) x (zero, lt, at) = by (key_cmp k e.0) refl
  where
    by : (o : Ordering) → key_cmp k e.0 ≡ o → Contains (by_order o ((k, v) ∷ e ∷ es) ((e.0, v) ∷ es) (e ∷ put key_cmp k v es)) x ⊎ (x.0 ≡ k)
    by Less is = inl (1, omega arith, at)
    by Equal is = inr (ap (λ (y : KeyBytes × ℕ). y.0) (sym at) ∙ sym (keys_tie k e.0 is))
    by Greater is = inl (0, omega arith, at)
put_keeps k v (e ∷ es) x (suc i, lt, at) = by (key_cmp k e.0) (i, omega (arith, lt), at) (put_keeps k v es x (i, omega (arith, lt), at))
  where
    later : Contains (put key_cmp k v es) x ⊎ (x.0 ≡ k) → Contains (e ∷ put key_cmp k v es) x ⊎ (x.0 ≡ k)
    later (inl kept) = inl (behind e x (put key_cmp k v es) kept)
    later (inr tied) = inr tied

    by : (o : Ordering) → Contains es x → Contains (put key_cmp k v es) x ⊎ (x.0 ≡ k) → Contains (by_order o ((k, v) ∷ e ∷ es) ((e.0, v) ∷ es) (e ∷ put key_cmp k v es)) x ⊎ (x.0 ≡ k)
    by Less has rest = inl (behind (k, v) x (e ∷ es) (behind e x es has))
    by Equal has rest = inl (behind (e.0, v) x es has)
    by Greater has rest = later rest

-- and there are no others
pub put_was : (k : KeyBytes) (v : ℕ) (es : List (KeyBytes × ℕ)) (x : KeyBytes × ℕ) → Contains (put key_cmp k v es) x → Contains es x ⊎ (x ≡ (k, v))
put_was k v [] x (zero, lt, at) = inr (sym at)
put_was k v [] x (suc i, lt, at) = absurd (omega (arith, lt))
put_was k v (e ∷ es) x has = by (key_cmp k e.0) refl has (put_was k v es x)
  where
    later : Contains es x ⊎ (x ≡ (k, v)) → Contains (e ∷ es) x ⊎ (x ≡ (k, v))
    later (inl was) = inl (behind e x es was)
    later (inr new) = inr new

    by : (o : Ordering) → key_cmp k e.0 ≡ o → Contains (by_order o ((k, v) ∷ e ∷ es) ((e.0, v) ∷ es) (e ∷ put key_cmp k v es)) x → (Contains (put key_cmp k v es) x → Contains es x ⊎ (x ≡ (k, v))) → Contains (e ∷ es) x ⊎ (x ≡ (k, v))
    by Less is (zero, lt, at) rest = inr (sym at)
    by Less is (suc i, lt, at) rest = inl (i, omega (arith, lt), at)
    by Equal is (zero, lt, at) rest = inr (sym at ∙ ap (λ (y : KeyBytes). (y, v)) (sym (keys_tie k e.0 is)))
    by Equal is (suc i, lt, at) rest = inl (suc i, omega (arith, lt), at)
    by Greater is (zero, lt, at) rest = inl (0, omega arith, at)
    by Greater is (suc i, lt, at) rest = later (rest (i, omega (arith, lt), at))

-- a key that stands for what is sought among the separators with the new one does so among those before
agree_before : (target : Target) (key sep : KeyBytes) (child : ℕ) (children : List (KeyBytes × ℕ)) → SeparatorsAgree target key (put key_cmp sep child children) → SeparatorsAgree target key children
agree_before target key sep child children agree c has = by (put_keeps sep child children c has)
  where
    by : Contains (put key_cmp sep child children) c ⊎ (c.0 ≡ sep) → lies_from target c.0 ≡ is_upto c.0 key
    by (inl kept) = agree c kept
    by (inr tied) = ap (lies_from target) tied ∙ agree (sep, child) (put_there sep child children) ∙ sym (ap (λ (k : KeyBytes). is_upto k key) tied)

-- the new child is the last one where its separator isn't above the key, and the last one before isn't behind it
new_last : (key sep : KeyBytes) (child : ℕ) (children : List (KeyBytes × ℕ)) (e : KeyBytes × ℕ) → IsLastEntry key children e → IsUpto sep key → is_lt (key_cmp sep e.0) ≡ false → IsLastUpto key (put key_cmp sep child children) child
new_last key sep child children e last from upto = record {
  separator = sep;
  named = put_there sep child children;
  not_above = from;
  greatest = λ x has x_upto. by x x_upto (put_was sep child children x has);
}
  where
    by : (x : KeyBytes × ℕ) → IsUpto x.0 key → Contains children x ⊎ (x ≡ (sep, child)) → IsUpto x.0 sep
    by x x_upto (inl was) = not_holds _ (upto_trans x.0 e.0 sep (holds_not _ (last.greatest x was x_upto)) upto)
    by x x_upto (inr new) = subst (λ (y : KeyBytes × ℕ). IsUpto y.0 sep) (sym new) (not_holds _ (below_self sep))

-- the last one before stays the last where the new separator is another one, and is above the key or isn't behind it
old_last : (key sep : KeyBytes) (child : ℕ) (children : List (KeyBytes × ℕ)) (e : KeyBytes × ℕ) → IsLastEntry key children e → (e.0 ≡ sep → ⊥) → (IsUpto sep key → IsUpto sep e.0) → IsLastUpto key (put key_cmp sep child children) e.1
old_last key sep child children e last other before = record {
  separator = e.0;
  named = kept (put_keeps sep child children e last.named);
  not_above = last.not_above;
  greatest = λ x has x_upto. by x x_upto (put_was sep child children x has);
}
  where
    kept : Contains (put key_cmp sep child children) e ⊎ (e.0 ≡ sep) → Contains (put key_cmp sep child children) e
    kept (inl there) = there
    kept (inr tied) = absurd (other tied)

    by : (x : KeyBytes × ℕ) → IsUpto x.0 key → Contains children x ⊎ (x ≡ (sep, child)) → IsUpto x.0 e.0
    by x x_upto (inl was) = last.greatest x was x_upto
    by x x_upto (inr new) = subst (λ (y : KeyBytes × ℕ). IsUpto y.0 e.0) (sym new) (before (subst (λ (y : KeyBytes × ℕ). IsUpto y.0 key) new x_upto))

module _ (target : Target) (sep : KeyBytes) (child : ℕ) (children : List (KeyBytes × ℕ)) (e : KeyBytes × ℕ) (last : IsEntryFor target children e) where
  new_agrees : (key : KeyBytes) → SeparatorsAgree target key (put key_cmp sep child children) → lies_from target sep ≡ is_upto sep key
  new_agrees key agree = agree (sep, child) (put_there sep child children)

  last_before : (key : KeyBytes) → SeparatorsAgree target key (put key_cmp sep child children) → IsLastEntry key children e
  last_before key agree = last key (agree_before target key sep child children agree)

  -- what is sought lies at the new child
  pub at_new : lies_from target sep ≡ true → is_lt (key_cmp sep e.0) ≡ false → IsChildFor target (put key_cmp sep child children) child
  at_new from upto = λ key agree. new_last key sep child children e (last_before key agree) (true_holds _ (sym (new_agrees key agree) ∙ from)) upto

  -- it lies before the new separator
  pub before_new : lies_from target sep ≡ false → IsChildFor target (put key_cmp sep child children) e.1
  before_new inside = λ key agree.
      let l = last_before key agree in
      let above : IsUpto sep key → ⊥ = λ upto. different (sym (holds _ upto) ∙ sym (new_agrees key agree) ∙ inside) in
      old_last key sep child children e l (λ tied. above (subst (λ (k : KeyBytes). IsUpto k key) tied l.not_above)) (λ upto. absurd (above upto))

  -- it lies at a separator behind the new one
  pub behind_new : is_lt (key_cmp sep e.0) ≡ true → IsChildFor target (put key_cmp sep child children) e.1
  behind_new less = λ key agree.
      old_last key sep child children e (last_before key agree)
      (λ tied. different (sym less ∙ ap (λ (k : KeyBytes). is_lt (key_cmp sep k)) tied ∙ below_self sep))
      (λ upto. not_holds _ (below_back sep e.0 less))
