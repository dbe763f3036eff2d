-- What a search is for, and the keys that stand for it.
use Rattle.std.proofs.Common.{◌≡◌, ℕ, ◌-◌, ◌<◌, ◌≤◌, Bool, true, false, not, T, List, [], ◌∷◌, length, get_or, Option, Some, None, Ordering, inl, inr, refl, sym, ap, ◌∙◌, subst, arith}
use Rattle.std.specs.List.{Contains}
use Rattle.std.specs.List.Sorted.{IsPartitionedBy}
use Rattle.std.specs.Option.{option_copied}
use Rattle.std.specs.Ordering.{is_ge, is_lt}
use Rattle.std.specs.declared.cmp.Ordering.TheVariants.{Less, Equal, Greater}
use Rattle.std.specs.FinMap.{is_sorted}
use Rattle.std.proofs.lemmas.Bool.{cases_lt}
use Rattle.std.proofs.lemmas.List.{get_or_default}
use Rattle.bw_key.specs.Order.{KeyBytes, key_cmp}
use Rattle.bw_model.specs.Contents.{is_below_end}
use Rattle.bw_page.specs.Inners.{IsInner, IsUpto}
use Rattle.bw_page.specs.Pages.{BeginsAt}
use Rattle.bw_page.proofs.Truths.{holds, true_holds}
use Rattle.bw_page.proofs.KeyLemmas.{below_back, below_self, upto_below, upto_trans}
use Rattle.bw_page.proofs.Search.{rises}
use Rattle.bw_level.specs.declared.target.Target.{Target}
use Rattle.bw_level.specs.declared.target.Target.TheVariants.{Home, Before}
use Rattle.bw_level.specs.Targets.{PartsChildren, SeparatorsAgree, IsChildFor, IsEntryFor, lies_from}

pub holds_not : (a : Bool) → not a ≡ true → a ≡ false
holds_not true h = absurd (different h)
  where
    different : false ≡ true → ⊥
    different e = cc
holds_not false h = refl

pub not_holds : (a : Bool) → a ≡ false → not a ≡ true
not_holds a e = ap not e

different : true ≡ false → ⊥
different e = cc

-- the code's test of two keys
pub ge_is : (o : Ordering) → is_ge o ≡ not (is_lt o)
ge_is Less = refl
ge_is Equal = refl
ge_is Greater = refl

-- what lies at a key or behind it does so at each key that isn't above
pub lies_before : (target : Target) (a b : KeyBytes) → lies_from target b ≡ true → is_lt (key_cmp b a) ≡ false → lies_from target a ≡ true
lies_before (Home key) a b from upto = not_holds _ (upto_trans a b key.now upto (holds_not _ from))
lies_before (Before end) a b from upto = by (option_copied end) from
  where
    by : (o : Option KeyBytes) → is_below_end o b ≡ true → is_below_end o a ≡ true
    by None e = refl
    by (Some to) e = upto_below a b to upto e

-- and what is before a key is before each key that isn't below it
pub lies_no_more : (target : Target) (a b : KeyBytes) → lies_from target a ≡ false → is_lt (key_cmp b a) ≡ false → lies_from target b ≡ false
lies_no_more target a b from upto = by (lies_from target b) refl
  where
    by : (t : Bool) → lies_from target b ≡ t → lies_from target b ≡ false
    by true e = absurd (different (sym (lies_before target a b e upto) ∙ from))
    by false e = e

-- so separators that rise are parted
pub parted : (target : Target) (es : List (KeyBytes × ℕ)) → T (is_sorted key_cmp es) → IsPartitionedBy (λ (c : KeyBytes × ℕ). lies_from target c.0) es
parted target es sorted i j d le lt from = elim (cases_lt i j) [
  | inl less ↦ lies_before target (get_or es i d).0 (get_or es j d).0 from (below_back (get_or es i d).0 (get_or es j d).0 (rises es i j (get_or es i d) (get_or es j d) sorted less lt (get_or_default es i d (get_or es i d) (omega arith)) (get_or_default es j d (get_or es j d) lt)))
  | inr ge ↦ let same : j ≡ i = omega arith in subst (λ m. lies_from target (get_or es m d).0 ≡ true) same from
]

-- where a page begins at what is sought or before it, a separator is there too
pub some_there : (target : Target) (low : KeyBytes) (es : List (KeyBytes × ℕ)) (n : ℕ) → BeginsAt low es → T (lies_from target low) → PartsChildren target es n → n ≤ length es → 1 ≤ n
some_there target low [] n begins from parts within = absurd begins
some_there target low (e ∷ es) n begins from parts within = elim (cases_lt 0 n) [
  | inl some ↦ some
  | inr none ↦ absurd (different (sym (ap (lies_from target) begins ∙ holds _ from) ∙ parts.1 0 e (omega arith) (omega arith)))
]

-- the last separator that what is sought isn't before is the last one that isn't above a key which stands for it
pub entry_there : (target : Target) (level : ℕ) (low : KeyBytes) (high : Option KeyBytes) (side : Option ℕ) (children : List (KeyBytes × ℕ)) (n : ℕ) (d : KeyBytes × ℕ) → IsInner level low high side children → T (lies_from target low) →
    PartsChildren target children n → n ≤ length children → IsEntryFor target children (get_or children (n - 1) d)
entry_there target level low high side children n d rules from parts within = λ key agree.
    let x = get_or children (n - 1) d in
    let some = some_there target low children n rules.begins from parts within in
    let at : n - 1 < length children = omega arith in
    let named : Contains children x = (n - 1, at, get_or_default children (n - 1) x d at) in
    record {
      named = named;
      not_above = true_holds _ (sym (agree x named) ∙ parts.0 (n - 1) d (omega arith) (omega arith));
      greatest = λ e has upto. greatest key agree e has.0 has.1 has.2 upto;
    }
  where
    greatest : (key : KeyBytes) → SeparatorsAgree target key children → (e : KeyBytes × ℕ) (i : ℕ) → i < length children → get_or children i e ≡ e → IsUpto e.0 key → IsUpto e.0 (get_or children (n - 1) d).0
    greatest key agree e i lt is upto = elim (cases_lt i n) [
      | inl before ↦ elim (cases_lt i (n - 1)) [
        | inl less ↦ true_holds _ (not_holds _ (below_back e.0 (get_or children (n - 1) d).0 (rises children i (n - 1) e (get_or children (n - 1) d) rules.page.sorted less (omega arith) (sym is) (get_or_default children (n - 1) d (get_or children (n - 1) d) (omega arith)))))
        | inr ge ↦
            let same : n - 1 ≡ i = omega arith in
            let one : get_or children (n - 1) d ≡ e = get_or_default children (n - 1) d e (omega arith) ∙ ap (λ m. get_or children m e) same ∙ is in
            true_holds _ (not_holds _ (ap (λ (y : KeyBytes × ℕ). is_lt (key_cmp y.0 e.0)) one ∙ below_self e.0))
      ]
      | inr behind ↦ absurd (different (sym (agree e (i, lt, is) ∙ holds _ upto) ∙ (sym (ap (λ (y : KeyBytes × ℕ). lies_from target y.0) is) ∙ parts.1 i e behind lt)))
    ]

pub entry_child : (target : Target) (children : List (KeyBytes × ℕ)) (e : KeyBytes × ℕ) → IsEntryFor target children e → IsChildFor target children e.1
entry_child target children e entry = λ key agree.
    let last = entry key agree in
    record { separator = e.0; named = last.named; not_above = last.not_above; greatest = last.greatest }
