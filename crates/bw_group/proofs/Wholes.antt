-- All operations of a batch, as its points and its scans.
use Rattle.std.proofs.Common.{◌≡◌, ℕ, zero, suc, ◌+◌, ◌<◌, Bool, true, false, cond, List, [], ◌∷◌, ◌++◌, length, slice_get, Option, Some, None, refl, sym, ap, ◌∙◌, subst, arith}
use Rattle.std.specs.Option.{option_map}
use Rattle.std.specs.List.{AllByRecursion}
use Rattle.bw_key.specs.Order.{KeyBytes, key_eq, key_eq_equiv}
use Rattle.bw_model.specs.declared.operations.Op.{Op}
use Rattle.bw_group.specs.Points.{Entry, entry_at, entries_from, entries_at, places_of, scan_place, scans_from, AreGrouped, GroupingView, IsEntryOf, IsScanOf}
use Rattle.bw_model.specs.Model.{key_of}

module _ (P : Entry → Type 0) where
  -- what holds of all entries, and of those of each key
  pub all_at_key : (key : KeyBytes) (es : List Entry) → AllByRecursion P es → AllByRecursion P (entries_at key es)
  all_at_key key [] all = tt
  all_at_key key (e ∷ es) all = by (key_eq key e.0) (all_at_key key es all.1)
    where
      by : (b : Bool) → AllByRecursion P (entries_at key es) → AllByRecursion P (cond b (e ∷ entries_at key es) (entries_at key es))
      by true rest = (all.0, rest)
      by false rest = rest

  pub all_by_key : (es : List Entry) → ((key : KeyBytes) → AllByRecursion P (entries_at key es)) → AllByRecursion P es
  all_by_key [] each = tt
  all_by_key (e ∷ es) each = (
    (subst (λ b. AllByRecursion P (cond b (e ∷ entries_at e.0 es) (entries_at e.0 es))) (key_eq_equiv.refl e.0) (each e.0)).0,
    all_by_key es (λ key. later (key_eq key e.0) key (each key)),
  )
    where
      later : (b : Bool) (key : KeyBytes) → AllByRecursion P (cond b (e ∷ entries_at key es) (entries_at key es)) → AllByRecursion P (entries_at key es)
      later true key all = all.1
      later false key all = all

  -- the entry of an operation
  pub entry_of : (n : ℕ) (ops : List Op) (i : ℕ) (op : Op) (key : KeyBytes) → slice_get ops i ≡ Some op → key_of op ≡ Some key → AllByRecursion P (entries_from n ops) → P (key, n + i)
  entry_of n [] i op key is has all = absurd (none is)
    where
      none : None ≡ Some op → ⊥
      none e = cc
  entry_of n (o ∷ ops) zero op key is has all = first (key_of o) (ap key_of (same is) ∙ has) all
    where
      same : Some o ≡ Some op → o ≡ op
      same e = cc

      stays : (n : ℕ) → n ≡ n + 0
      stays n = omega arith

      first : (k : Option KeyBytes) → k ≡ Some key → AllByRecursion P (entry_at n k ++ entries_from (n + 1) ops) → P (key, n + 0)
      first None e all = absurd (none e)
        where
          none : None ≡ Some key → ⊥
          none e = cc
      first (Some k) e all = subst (λ q. P (q, n + 0)) (one k e) (subst (λ m. P (k, m)) (stays n) all.0)
        where
          one : (k : KeyBytes) → Some k ≡ Some key → k ≡ key
          one k e = cc
  entry_of n (o ∷ ops) (suc i) op key is has all = subst (λ m. P (key, m)) (next n i) (entry_of (n + 1) ops i op key is has (rest (key_of o) all))
    where
      next : (n i : ℕ) → n + 1 + i ≡ n + suc i
      next n i = omega arith

      rest : (k : Option KeyBytes) → AllByRecursion P (entry_at n k ++ entries_from (n + 1) ops) → AllByRecursion P (entries_from (n + 1) ops)
      rest None all = all
      rest (Some k) all = all.1

-- the entries of a batch are those of its operations
entries_are : (all : List Op) (n : ℕ) (ops : List Op) → ((i : ℕ) → slice_get ops i ≡ slice_get all (n + i)) → AllByRecursion (IsEntryOf all) (entries_from n ops)
entries_are all n [] same = tt
entries_are all n (op ∷ ops) same = by (entries_are all (n + 1) ops (λ i. same (suc i) ∙ ap (slice_get all) (next n i))) (key_of op) refl
  where
    stays : (n : ℕ) → n ≡ n + 0
    stays n = omega arith

    next : (n i : ℕ) → n + suc i ≡ n + 1 + i
    next n i = omega arith

    by : AllByRecursion (IsEntryOf all) (entries_from (n + 1) ops) → (k : Option KeyBytes) → key_of op ≡ k → AllByRecursion (IsEntryOf all) (entry_at n k ++ entries_from (n + 1) ops)
    by rest None e = rest
    by rest (Some k) e = (ap (λ (m : ℕ). option_map key_of (slice_get all m)) (stays n) ∙ ap (option_map key_of) (sym (same 0)) ∙ ap Some e, rest)

pub batch_entries : (ops : List Op) (es : List Entry) → ((key : KeyBytes) → entries_at key es ≡ entries_at key (entries_from 0 ops)) → AllByRecursion (IsEntryOf ops) es
batch_entries ops es same = all_by_key (IsEntryOf ops) es (λ key.
    subst (AllByRecursion (IsEntryOf ops)) (sym (same key)) (all_at_key (IsEntryOf ops) key (entries_from 0 ops) (entries_are ops 0 ops (λ i. ap (slice_get ops) (from_none i)))))
  where
    from_none : (i : ℕ) → i ≡ 0 + i
    from_none i = omega arith

-- the places of a batch's scans are those of operations without a key
scans_are : (all : List Op) (n : ℕ) (ops : List Op) → ((i : ℕ) → slice_get ops i ≡ slice_get all (n + i)) → AllByRecursion (IsScanOf all) (scans_from n ops)
scans_are all n [] same = tt
scans_are all n (op ∷ ops) same = by (scans_are all (n + 1) ops (λ i. same (suc i) ∙ ap (slice_get all) (next n i))) (key_of op) refl
  where
    stays : (n : ℕ) → n ≡ n + 0
    stays n = omega arith

    next : (n i : ℕ) → n + suc i ≡ n + 1 + i
    next n i = omega arith

    by : AllByRecursion (IsScanOf all) (scans_from (n + 1) ops) → (k : Option KeyBytes) → key_of op ≡ k → AllByRecursion (IsScanOf all) (scan_place n k ++ scans_from (n + 1) ops)
    by rest None e = (ap (λ (m : ℕ). option_map key_of (slice_get all m)) (stays n) ∙ ap (option_map key_of) (sym (same 0)) ∙ ap Some e, rest)
    by rest (Some k) e = rest

pub batch_scans : (ops : List Op) (scans : List ℕ) → scans ≡ scans_from 0 ops → AllByRecursion (IsScanOf ops) scans
batch_scans ops scans is = subst (AllByRecursion (IsScanOf ops)) (sym is) (scans_are ops 0 ops (λ i. ap (slice_get ops) (from_none i)))
  where
    from_none : (i : ℕ) → i ≡ 0 + i
    from_none i = omega arith

-- the place of an operation without a key is among them
scan_of : (P : ℕ → Type 0) (n : ℕ) (ops : List Op) (i : ℕ) (op : Op) → slice_get ops i ≡ Some op → key_of op ≡ None → AllByRecursion P (scans_from n ops) → P (n + i)
scan_of P n [] i op is has all = absurd (none is)
  where
    none : None ≡ Some op → ⊥
    none e = cc
scan_of P n (o ∷ ops) zero op is has all = first (key_of o) (ap key_of (same is) ∙ has) all
  where
    same : Some o ≡ Some op → o ≡ op
    same e = cc

    stays : (n : ℕ) → n ≡ n + 0
    stays n = omega arith

    first : (k : Option KeyBytes) → k ≡ None → AllByRecursion P (scan_place n k ++ scans_from (n + 1) ops) → P (n + 0)
    first None e all = subst P (stays n) all.0
    first (Some k) e all = absurd (some e)
      where
        some : Some k ≡ None → ⊥
        some e = cc
scan_of P n (o ∷ ops) (suc i) op is has all = subst P (next n i) (scan_of P (n + 1) ops i op is has (rest (key_of o) all))
  where
    next : (n i : ℕ) → n + 1 + i ≡ n + suc i
    next n i = omega arith

    rest : (k : Option KeyBytes) → AllByRecursion P (scan_place n k ++ scans_from (n + 1) ops) → AllByRecursion P (scans_from (n + 1) ops)
    rest None all = all.1
    rest (Some k) all = all

-- what holds at the places of all points and all scans holds at each place
pub at_each_place : (P : ℕ → Type 0) (batch : GroupingView) → AreGrouped batch → AllByRecursion P (places_of batch.points) → AllByRecursion P batch.scans → (place : ℕ) → place < length batch.ops → P place
at_each_place P batch grouped points scans place lt = at (slice_get batch.ops place) refl
  where
    entries : (es : List Entry) → AllByRecursion P (places_of es) → AllByRecursion (λ e. P e.1) es
    entries [] all = tt
    entries (e ∷ es) all = (all.0, entries es all.1)

    in_batch : AllByRecursion (λ (e : Entry). P e.1) (entries_from 0 batch.ops)
    in_batch = all_by_key (λ e. P e.1) (entries_from 0 batch.ops)
        (λ key. subst (AllByRecursion (λ (e : Entry). P e.1)) (grouped.same key) (all_at_key (λ e. P e.1) key batch.points (entries batch.points points)))

    from_none : (i : ℕ) → 0 + i ≡ i
    from_none i = omega arith

    past : (ops : List Op) (i : ℕ) → slice_get ops i ≡ None → i < length ops → ⊥
    past [] i is lt = omega (arith, lt)
    past (o ∷ ops) zero is lt = none is
      where
        none : Some o ≡ None → ⊥
        none e = cc
    past (o ∷ ops) (suc i) is lt = past ops i is (omega (arith, lt))

    at : (o : Option Op) → slice_get batch.ops place ≡ o → P place
    at None is = absurd (past batch.ops place is lt)
    at (Some op) is = by (key_of op) refl
      where
        by : (k : Option KeyBytes) → key_of op ≡ k → P place
        by None has = subst P (from_none place) (scan_of P 0 batch.ops place op is has (subst (AllByRecursion P) grouped.scans scans))
        by (Some key) has = subst P (from_none place) (entry_of (λ e. P e.1) 0 batch.ops place op key is has in_batch)
