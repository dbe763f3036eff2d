-- Ends of ranges of keys.
use Rattle.std.proofs.Common.{◌≡◌, true, false, T, Option, Some, None, refl, sym, ap, ◌∙◌, subst, Ordering, Bool, ◌&&◌}
use Rattle.std.specs.Ordering.{is_le, is_lt, ordering_reverse}
use Rattle.std.specs.declared.cmp.Ordering.TheVariants.{Less, Equal, Greater}
use Rattle.bw_key.specs.Order.{KeyBytes, key_cmp, key_cmp_total}
use Rattle.bw_model.specs.Contents.{is_below_end}
use Rattle.bw_page.proofs.Truths.{holds, true_holds}
use Rattle.bw_page.proofs.KeyLemmas.{below_upto, upto_below, below_trans, upto_trans}
use Rattle.bw_level.specs.Scans.{EndsBelow, Reaches}

different : false ≡ true → ⊥
different e = cc

pub not_below : (h t : KeyBytes) → is_le (key_cmp t h) ≡ true → is_lt (key_cmp h t) ≡ false
not_below h t e = by (key_cmp h t) (sym (ap is_le (key_cmp_total.antisymm t h)) ∙ e)
  where
    by : (o : Ordering) → is_le (ordering_reverse o) ≡ true → is_lt o ≡ false
    by Less e = absurd (different e)
    by Equal e = refl
    by Greater e = refl

-- an end that isn't below the end of a range
pub reaches_end : (high to : Option KeyBytes) (h t : KeyBytes) → high ≡ Some h → to ≡ Some t → is_le (key_cmp t h) ≡ true → Reaches high to
reaches_end high to h t is is' upto = λ key below.
    subst (λ (o : Option KeyBytes). T (is_below_end o key)) (sym is)
    (true_holds _ (below_upto key t h (holds _ (subst (λ (o : Option KeyBytes). T (is_below_end o key)) is' below)) (not_below h t upto)))

pub reaches_same : (high high' to : Option KeyBytes) → high ≡ high' → Reaches high' to → Reaches high to
reaches_same high high' to same reaches = subst (λ (o : Option KeyBytes). Reaches o to) (sym same) reaches

pub no_le : (h t : KeyBytes) → is_le (key_cmp t h) ≡ false → is_lt (key_cmp h t) ≡ true
no_le h t e = by (key_cmp h t) (sym (ap is_le (key_cmp_total.antisymm t h)) ∙ e)
  where
    by : (o : Ordering) → is_le (ordering_reverse o) ≡ false → is_lt o ≡ true
    by Less e = refl
    by Equal e = absurd (different (sym e))
    by Greater e = absurd (different (sym e))

pub misses_end : (high to : Option KeyBytes) (h t : KeyBytes) → high ≡ Some h → to ≡ Some t → is_le (key_cmp t h) ≡ false → EndsBelow high to
misses_end high to h t is is' below =
    subst (λ (o : Option KeyBytes). EndsBelow o to) (sym is) (subst (λ (o : Option KeyBytes). EndsBelow (Some h) o) (sym is') (true_holds _ (no_le h t below)))

-- a key that isn't above one below an end is below it too
pub upto_end : (end : Option KeyBytes) (a b : KeyBytes) → is_lt (key_cmp b a) ≡ false → T (is_below_end end b) → T (is_below_end end a)
upto_end None a b upto below = tt
upto_end (Some to) a b upto below = true_holds _ (upto_below a b to upto (holds _ below))

-- below the lower of two ends is below both
pub below_lower : (left right : Option KeyBytes) (x a b key : KeyBytes) → left ≡ Some a → right ≡ Some b → x ≡ a → is_lt (key_cmp a b) ≡ true → is_lt (key_cmp key x) ≡ (is_below_end left key && is_below_end right key)
below_lower left right x a b key is is' here lower =
    ap (λ (k : KeyBytes). is_lt (key_cmp key k)) here ∙ by (is_lt (key_cmp key a)) refl
    ∙ sym (ap (λ (o : Option KeyBytes). is_below_end o key && is_below_end right key) is ∙ ap (λ (o : Option KeyBytes). is_lt (key_cmp key a) && is_below_end o key) is')
  where
    by : (t : Bool) → is_lt (key_cmp key a) ≡ t → is_lt (key_cmp key a) ≡ (is_lt (key_cmp key a) && is_lt (key_cmp key b))
    by true e = e ∙ sym (ap (λ t. t && is_lt (key_cmp key b)) e ∙ below_trans key a b e lower)
    by false e = e ∙ sym (ap (λ t. t && is_lt (key_cmp key b)) e)

pub below_other : (left right : Option KeyBytes) (x a b key : KeyBytes) → left ≡ Some a → right ≡ Some b → x ≡ b → is_lt (key_cmp a b) ≡ false → is_lt (key_cmp key x) ≡ (is_below_end left key && is_below_end right key)
below_other left right x a b key is is' here lower =
    ap (λ (k : KeyBytes). is_lt (key_cmp key k)) here ∙ by (is_lt (key_cmp key a)) refl
    ∙ sym (ap (λ (o : Option KeyBytes). is_below_end o key && is_below_end right key) is ∙ ap (λ (o : Option KeyBytes). is_lt (key_cmp key a) && is_below_end o key) is')
  where
    by : (t : Bool) → is_lt (key_cmp key a) ≡ t → is_lt (key_cmp key b) ≡ (is_lt (key_cmp key a) && is_lt (key_cmp key b))
    by true e = sym (ap (λ t. t && is_lt (key_cmp key b)) e)
    by false e = upto_trans b a key lower e ∙ sym (ap (λ t. t && is_lt (key_cmp key b)) e)
