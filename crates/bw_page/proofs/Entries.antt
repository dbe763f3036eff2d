-- Parts, joins and edits of a page's entries keep the rules of a page.
use Rattle.std.proofs.Common.{append_assoc, set, take, ◌+◌, ◌-◌, ◌≡◌, ◌≢◌, ℕ, zero, suc, ◌<◌, ◌≤◌, Bool, true, false, cond, not, List, [], ◌∷◌, ◌++◌, length, get_or, drop, filter, Option, Some, None, T, refl, sym, ap, ◌∙◌, subst, arith, length-drop}
use Rattle.std.proofs.lemmas.List.{drop-drop, get_or-drop, drop-set-lt, take-append-drop, take_more_set}
use Rattle.std.specs.List.{list_all}
use Rattle.std.specs.Ordering.{is_lt}
use Rattle.std.specs.FinMap.{put, is_sorted}
use Rattle.std.specs.FinMap.Entries.{below_all, by_order, is_sorted-put, is_sorted-where_key}
use Rattle.std.specs.declared.cmp.Ordering.TheVariants.{Less, Equal, Greater}
use Rattle.bw_key.specs.Order.{KeyBytes, key_cmp, key_eq, key_cmp_total}
use Rattle.bw_model.specs.Contents.{is_below_end, is_in_range, is_pair_in_range}
use Rattle.bw_page.specs.Pages.{BoundsView, IsPage, BeginsAt, first_key}
use Rattle.bw_model.specs.Sorted.{place_of}
use Rattle.bw_model.proofs.SortedPairs.{put_absent_at, put_found_at}
use Rattle.bw_page.specs.Inners.{InnerView, IsInner}
use Rattle.bw_page.proofs.Truths.{holds, true_holds, holds_not, not_holds, left_of, right_of, both_of}
use Rattle.bw_page.proofs.KeyLemmas.{below_back, below_trans, below_upto, below_self}
use Rattle.bw_page.proofs.Search.{Misses, same_keys}

-- a key below one that is below an end
below_end : (high : Option KeyBytes) (k m : KeyBytes) → is_lt (key_cmp k m) ≡ true → T (is_below_end high m) → T (is_below_end high k)
below_end None k m p h = tt
below_end (Some to) k m p h = true_holds _ (below_trans k m to p (holds _ h))

-- a key of a range that begins above another begins there too
starts_later : (low m k : KeyBytes) → is_lt (key_cmp low m) ≡ true → T (not (is_lt (key_cmp k m))) → is_lt (key_cmp low k) ≡ true
starts_later low m k p h = below_upto low m k p (holds_not _ h)

module _ {X : Type 0} where
  pub sorted_drop : (n : ℕ) (es : List (KeyBytes × X)) → T (is_sorted key_cmp es) → T (is_sorted key_cmp (drop n es))
  sorted_drop zero es h = h
  sorted_drop (suc n) [] h = h
  sorted_drop (suc n) (e ∷ es) h = sorted_drop n es (right_of _ _ h)

  -- the first key of entries in a range is from its lower end on, and below its upper one
  from_low : (low : KeyBytes) (high : Option KeyBytes) (e : KeyBytes × X) (es : List (KeyBytes × X)) → T (list_all (is_pair_in_range low high) (e ∷ es)) → T (not (is_lt (key_cmp e.0 low)))
  from_low low high e es h = left_of (not (is_lt (key_cmp e.0 low))) (is_below_end high e.0) (left_of (is_pair_in_range low high e) (list_all (is_pair_in_range low high) es) h)

  to_high : (low : KeyBytes) (high : Option KeyBytes) (e : KeyBytes × X) (es : List (KeyBytes × X)) → T (list_all (is_pair_in_range low high) (e ∷ es)) → T (is_below_end high e.0)
  to_high low high e es h = right_of (not (is_lt (key_cmp e.0 low))) (is_below_end high e.0) (left_of (is_pair_in_range low high e) (list_all (is_pair_in_range low high) es) h)

  -- entries with keys above a key lie in the range from there on
  range_above : (low k : KeyBytes) (high : Option KeyBytes) (es : List (KeyBytes × X)) → T (below_all key_cmp k es) → T (list_all (is_pair_in_range low high) es) → T (list_all (is_pair_in_range k high) es)
  range_above low k high [] above h = tt
  range_above low k high (e ∷ es) above h =
      both_of _ _
      (both_of _ _ (not_holds _ (below_back k e.0 (holds _ (left_of _ _ above)))) (to_high low high e es h))
      (range_above low k high es (right_of _ _ above) (right_of _ _ h))

  range_first : (low : KeyBytes) (high : Option KeyBytes) (e : KeyBytes × X) (es : List (KeyBytes × X)) → T (is_sorted key_cmp (e ∷ es)) → T (list_all (is_pair_in_range low high) (e ∷ es)) → T (list_all (is_pair_in_range e.0 high) (e ∷ es))
  range_first low high e es sorted h =
      both_of _ _ (both_of _ _ (not_holds _ (below_self e.0)) (to_high low high e es h)) (range_above low e.0 high es (left_of _ _ sorted) (right_of _ _ h))

  range_drop : (low : KeyBytes) (high : Option KeyBytes) (n : ℕ) (es : List (KeyBytes × X)) → T (is_sorted key_cmp es) → T (list_all (is_pair_in_range low high) es) → n < length es → T (list_all (is_pair_in_range (first_key (drop n es)) high) (drop n es))
  range_drop low high n [] sorted h lt = absurd (omega arith)
  range_drop low high zero (e ∷ es) sorted h lt = range_first low high e es sorted h
  range_drop low high (suc n) (e ∷ es) sorted h lt = range_drop low high n es (right_of _ _ sorted) (right_of _ _ h) (omega arith)

  wide_drop : (low : KeyBytes) (high : Option KeyBytes) (n : ℕ) (es : List (KeyBytes × X)) → T (list_all (is_pair_in_range low high) es) → n < length es → T (is_below_end high (first_key (drop n es)))
  wide_drop low high n [] h lt = absurd (omega arith)
  wide_drop low high zero (e ∷ es) h lt = to_high low high e es h
  wide_drop low high (suc n) (e ∷ es) h lt = wide_drop low high n es (right_of _ _ h) (omega arith)

  -- the entries from a place on are a page from the first of their keys on
  pub upper_page : (low : KeyBytes) (high : Option KeyBytes) (side : Option ℕ) (es : List (KeyBytes × X)) (n : ℕ) → IsPage low high side es → n < length es → IsPage (first_key (drop n es)) high side (drop n es)
  upper_page low high side es n h lt = record {
    sorted = sorted_drop n es h.sorted;
    inside = range_drop low high n es h.sorted h.inside lt;
    wide = wide_drop low high n es h.inside lt;
    linked = h.linked;
  }

  pub upper_begins : (es : List (KeyBytes × X)) (n : ℕ) → n < length es → BeginsAt (first_key (drop n es)) (drop n es)
  upper_begins [] n lt = absurd (omega arith)
  upper_begins (e ∷ es) zero lt = refl
  upper_begins (e ∷ es) (suc n) lt = upper_begins es n (omega arith)

  below_later : (k m : KeyBytes) (high : Option KeyBytes) (fs : List (KeyBytes × X)) → is_lt (key_cmp k m) ≡ true → T (list_all (is_pair_in_range m high) fs) → T (below_all key_cmp k fs)
  below_later k m high [] p h = tt
  below_later k m high (f ∷ fs) p h =
      both_of _ _ (true_holds _ (starts_later k m f.0 p (from_low m high f fs h))) (below_later k m high fs p (right_of _ _ h))

  below_join : (k : KeyBytes) (es fs : List (KeyBytes × X)) → T (below_all key_cmp k es) → T (below_all key_cmp k fs) → T (below_all key_cmp k (es ++ fs))
  below_join k [] fs p q = q
  below_join k (e ∷ es) fs p q = both_of _ _ (left_of _ _ p) (below_join k es fs (right_of _ _ p) q)

  sorted_join : (low m : KeyBytes) (high : Option KeyBytes) (es fs : List (KeyBytes × X)) → T (is_sorted key_cmp es) → T (list_all (is_pair_in_range low (Some m)) es) → T (is_sorted key_cmp fs) → T (list_all (is_pair_in_range m high) fs) → T (is_sorted key_cmp (es ++ fs))
  sorted_join low m high [] fs s h t g = t
  sorted_join low m high (e ∷ es) fs s h t g =
      both_of _ _
      (below_join e.0 es fs (left_of _ _ s) (below_later e.0 m high fs (holds _ (to_high low (Some m) e es h)) g))
      (sorted_join low m high es fs (right_of _ _ s) (right_of _ _ h) t g)

  range_before : (low m : KeyBytes) (high : Option KeyBytes) (es : List (KeyBytes × X)) → T (is_below_end high m) → T (list_all (is_pair_in_range low (Some m)) es) → T (list_all (is_pair_in_range low high) es)
  range_before low m high [] wide h = tt
  range_before low m high (e ∷ es) wide h =
      both_of _ _ (both_of _ _ (from_low low (Some m) e es h) (below_end high e.0 m (holds _ (to_high low (Some m) e es h)) wide)) (range_before low m high es wide (right_of _ _ h))

  range_join : (low : KeyBytes) (high : Option KeyBytes) (es fs : List (KeyBytes × X)) → T (list_all (is_pair_in_range low high) es) → T (list_all (is_pair_in_range low high) fs) → T (list_all (is_pair_in_range low high) (es ++ fs))
  range_join low high [] fs p q = q
  range_join low high (e ∷ es) fs p q = both_of _ _ (left_of _ _ p) (range_join low high es fs (right_of _ _ p) q)

  range_wider : (low m : KeyBytes) (high : Option KeyBytes) (fs : List (KeyBytes × X)) → is_lt (key_cmp low m) ≡ true → T (list_all (is_pair_in_range m high) fs) → T (list_all (is_pair_in_range low high) fs)
  range_wider low m high [] p h = tt
  range_wider low m high (f ∷ fs) p h =
      both_of _ _ (both_of _ _ (not_holds _ (below_back low f.0 (starts_later low m f.0 p (from_low m high f fs h)))) (to_high m high f fs h)) (range_wider low m high fs p (right_of _ _ h))

  joined_at : (low m : KeyBytes) (high : Option KeyBytes) (left_side side : Option ℕ) (es fs : List (KeyBytes × X)) → IsPage low (Some m) left_side es → IsPage m high side fs → IsPage low high side (es ++ fs)
  joined_at low m high left_side side es fs left right =
      let over : is_lt (key_cmp low m) ≡ true = holds _ left.wide in
      record {
        sorted = sorted_join low m high es fs left.sorted left.inside right.sorted right.inside;
        inside = range_join low high es fs (range_before low m high es right.wide left.inside) (range_wider low m high fs over right.inside);
        wide = below_end high low m over right.wide;
        linked = right.linked;
      }

  -- two pages of which one begins where the other ends make a page
  pub joined_page : (low m : KeyBytes) (end high : Option KeyBytes) (left_side side : Option ℕ) (es fs : List (KeyBytes × X)) → end ≡ Some m → IsPage low end left_side es → IsPage m high side fs → IsPage low high side (es ++ fs)
  joined_page low m end high left_side side es fs meets left right =
      joined_at low m high left_side side es fs (subst (λ (t : Option KeyBytes). IsPage low t left_side es) meets left) right

  pub begins_join : (low : KeyBytes) (es fs : List (KeyBytes × X)) → BeginsAt low es → BeginsAt low (es ++ fs)
  begins_join low [] fs h = absurd h
  begins_join low (e ∷ es) fs h = h

  range_put : (low : KeyBytes) (high : Option KeyBytes) (k : KeyBytes) (v : X) (es : List (KeyBytes × X)) → T (is_in_range low high k) → T (list_all (is_pair_in_range low high) es) → T (list_all (is_pair_in_range low high) (put key_cmp k v es))
  range_put low high k v [] p h = both_of _ _ p tt
  range_put low high k v (e ∷ es) p h =
      elim (key_cmp k e.0) as (λ o. T (list_all (is_pair_in_range low high) (by_order o ((k, v) ∷ e ∷ es) ((e.0, v) ∷ es) (e ∷ put key_cmp k v es)))) [
        | Less ↦ both_of _ _ p h
        | Equal ↦ h
        | Greater ↦ both_of _ _ (left_of _ _ h) (range_put low high k v es p (right_of _ _ h))
      ]

  -- an entry of the range put in keeps the page
  pub put_page : (low : KeyBytes) (high : Option KeyBytes) (side : Option ℕ) (k : KeyBytes) (v : X) (es : List (KeyBytes × X)) → T (is_in_range low high k) → IsPage low high side es → IsPage low high side (put key_cmp k v es)
  put_page low high side k v es p h = record {
    sorted = is_sorted-put key_cmp key_cmp_total k v es h.sorted;
    inside = range_put low high k v es p h.inside;
    wide = h.wide;
    linked = h.linked;
  }

  pub begins_put : (low : KeyBytes) (k : KeyBytes) (v : X) (es : List (KeyBytes × X)) → T (not (is_lt (key_cmp k low))) → BeginsAt low es → BeginsAt low (put key_cmp k v es)
  begins_put low k v [] p h = absurd h
  begins_put low k v (e ∷ es) p h =
      elim (key_cmp k e.0) as (λ o. key_cmp k e.0 ≡ o → BeginsAt low (by_order o ((k, v) ∷ e ∷ es) ((e.0, v) ∷ es) (e ∷ put key_cmp k v es))) [
        | Less ↦ λ o. absurd (different (sym (holds_not _ p) ∙ ap (λ (b : KeyBytes). is_lt (key_cmp k b)) (sym h) ∙ ap is_lt o))
        | Equal ↦ λ o. h
        | Greater ↦ λ o. h
      ] refl
    where
      different : false ≡ true → ⊥
      different e = cc

  range_filter : (low : KeyBytes) (high : Option KeyBytes) (p : KeyBytes × X → Bool) (es : List (KeyBytes × X)) → T (list_all (is_pair_in_range low high) es) → T (list_all (is_pair_in_range low high) (filter p es))
  range_filter low high p [] h = tt
  range_filter low high p (e ∷ es) h =
      let rest = range_filter low high p es (right_of _ _ h) in
      elim (p e) as (λ b. T (list_all (is_pair_in_range low high) (cond b (e ∷ filter p es) (filter p es)))) [ true ↦ both_of _ _ (left_of _ _ h) rest | false ↦ rest ]

  -- the entries but for one key's are a page
  pub without_page : (low : KeyBytes) (high : Option KeyBytes) (side : Option ℕ) (k : KeyBytes) (es : List (KeyBytes × X)) → IsPage low high side es → IsPage low high side (filter (λ e. not (key_eq k e.0)) es)
  without_page low high side k es h = record {
    sorted = is_sorted-where_key key_cmp (λ x. not (key_eq k x)) es h.sorted;
    inside = range_filter low high (λ e. not (key_eq k e.0)) es h.inside;
    wide = h.wide;
    linked = h.linked;
  }

  pub begins_without : (low k : KeyBytes) (es : List (KeyBytes × X)) → k ≢ low → BeginsAt low es → BeginsAt low (filter (λ e. not (key_eq k e.0)) es)
  begins_without low k [] other h = absurd h
  begins_without low k (e ∷ es) other h =
      elim (key_eq k e.0) as (λ b. key_eq k e.0 ≡ b → BeginsAt low (cond (not b) (e ∷ filter (λ e. not (key_eq k e.0)) es) (filter (λ e. not (key_eq k e.0)) es))) [
        | true ↦ λ is. absurd (other (same_keys k e.0 is ∙ h))
        | false ↦ λ is. h
      ] refl

  -- a page by parts that are another's
  pub same_page : (b d : BoundsView) (es es' : List (KeyBytes × X)) → b ≡ d → es' ≡ es → IsPage d.low d.high d.side es → IsPage b.low b.high b.side es'
  same_page b d es es' same e p =
      subst (λ (fs : List (KeyBytes × X)). IsPage b.low b.high b.side fs) (sym e) (subst (λ (k : BoundsView). IsPage k.low k.high k.side es) (sym same) p)

  -- an entry that was read at a place has the first key from there on
  pub first_read : (es : List (KeyBytes × X)) (n : ℕ) (x : KeyBytes × X) → n < length es → x ≡ get_or es n x → x.0 ≡ first_key (drop n es)
  first_read [] n x lt is = absurd (omega arith)
  first_read (e ∷ es) zero x lt is = ap (λ (y : KeyBytes × X). y.0) is
  first_read (e ∷ es) (suc n) x lt is = first_read es n x (omega arith) is

-- an inner page by parts that are another's
pub same_inner : (level : ℕ) (b d : BoundsView) (es es' : List (KeyBytes × ℕ)) → b ≡ d → es' ≡ es → IsInner level d.low d.high d.side es → IsInner level b.low b.high b.side es'
same_inner level b d es es' same e p =
    subst (λ (fs : List (KeyBytes × ℕ)). IsInner level b.low b.high b.side fs) (sym e) (subst (λ (k : BoundsView). IsInner level k.low k.high k.side es) (sym same) p)

pub upper_inner_page : (level : ℕ) (low : KeyBytes) (high : Option KeyBytes) (side : Option ℕ) (es : List (KeyBytes × ℕ)) (n : ℕ) → IsInner level low high side es → n < length es → IsInner level (first_key (drop n es)) high side (drop n es)
upper_inner_page level low high side es n h lt = record { raised = h.raised; page = upper_page low high side es n h.page lt; begins = upper_begins es n lt }

pub joined_inner_page : (level other : ℕ) (low m : KeyBytes) (end high : Option KeyBytes) (left_side side : Option ℕ) (es fs : List (KeyBytes × ℕ)) → end ≡ Some m → IsInner level low end left_side es → IsInner other m high side fs → IsInner level low high side (es ++ fs)
joined_inner_page level other low m end high left_side side es fs meets left right =
    record { raised = left.raised; page = joined_page low m end high left_side side es fs meets left.page right.page; begins = begins_join low es fs left.begins }

pub put_inner_page : (level : ℕ) (low : KeyBytes) (high : Option KeyBytes) (side : Option ℕ) (k : KeyBytes) (v : ℕ) (es : List (KeyBytes × ℕ)) → T (is_in_range low high k) → IsInner level low high side es → IsInner level low high side (put key_cmp k v es)
put_inner_page level low high side k v es p h =
    record { raised = h.raised; page = put_page low high side k v es p h.page; begins = begins_put low k v es (left_of (not (is_lt (key_cmp k low))) (is_below_end high k) p) h.begins }

pub without_inner_page : (level : ℕ) (low : KeyBytes) (high : Option KeyBytes) (side : Option ℕ) (k : KeyBytes) (es : List (KeyBytes × ℕ)) → k ≢ low → IsInner level low high side es → IsInner level low high side (filter (λ e. not (key_eq k e.0)) es)
without_inner_page level low high side k es other h = record { raised = h.raised; page = without_page low high side k es h.page; begins = begins_without low k es other h.begins }

-- the rules of a page, of its view
pub rules_of_view : (v w : InnerView) → v ≡ w → IsInner v.level v.low v.high v.side v.children → IsInner w.level w.low w.high w.side w.children
rules_of_view v w is h = subst (λ (u : InnerView). IsInner u.level u.low u.high u.side u.children) is h

module _ {X : Type 0} where
  -- an entry put at its place: the entries before it, the entry, and those behind
  pub put_over : (q : KeyBytes) (v : X) (es : List (KeyBytes × X)) (n rest : ℕ) (x : KeyBytes × X) → n ≡ place_of q es → n < length es → x ≡ get_or es n x → key_eq x.0 q ≡ true → rest ≡ n + 1 →
      (take n es ++ (q, v) ∷ []) ++ drop rest es ≡ put key_cmp q v es
  put_over q v es n rest x at lt is same next =
      ap (λ (m : ℕ). (take n es ++ (q, v) ∷ []) ++ drop m es) next
      ∙ ap (λ (k : KeyBytes). (take n es ++ (k, v) ∷ []) ++ drop (n + 1) es) (sym (same_keys x.0 q same))
      ∙ ap (λ l. l ++ drop (n + 1) es) (sym (take_more_set es n (x.0, v) lt))
      ∙ ap (λ l. take (n + 1) (set es n (x.0, v)) ++ l) (sym (drop-set-lt (n + 1) es n (x.0, v) (omega arith)))
      ∙ take-append-drop (n + 1) (set es n (x.0, v))
      ∙ put_found_at q v es n x x at lt is is same

  pub put_between : (q : KeyBytes) (v : X) (es : List (KeyBytes × X)) (n rest : ℕ) → n ≡ place_of q es → Misses q es n → rest ≡ n →
      (take n es ++ (q, v) ∷ []) ++ drop rest es ≡ put key_cmp q v es
  put_between q v es n rest at other same =
      ap (λ (m : ℕ). (take n es ++ (q, v) ∷ []) ++ drop m es) same
      ∙ append_assoc (take n es) ((q, v) ∷ []) (drop n es)
      ∙ put_absent_at q v es n at other

  -- the same among the entries from a place on
  pub put_over_from : (q : KeyBytes) (v : X) (es : List (KeyBytes × X)) (start at : ℕ) (x : KeyBytes × X) → start ≤ at → at - start ≡ place_of q (drop start es) → at < length es → x ≡ get_or es at x → key_eq x.0 q ≡ true →
      (take (at - start) (drop start es) ++ (q, v) ∷ []) ++ drop (at + 1) es ≡ put key_cmp q v (drop start es)
  put_over_from q v es start at x from place lt is same =
      let n = at - start in
      let rest = drop start es in
      let on : start + n ≡ at = omega (arith, from) in
      let read : x ≡ get_or rest n x = is ∙ ap (λ i. get_or es i x) (sym on) ∙ sym (get_or-drop start es n x) in
      let next : drop (n + 1) rest ≡ drop (at + 1) es = drop-drop (n + 1) start es ∙ ap (λ i. drop i es) (omega (arith, from)) in
      ap (λ l. (take n rest ++ (q, v) ∷ []) ++ l) (sym next)
      ∙ put_over q v rest n (n + 1) x place (omega (arith, lt, from, length-drop start es)) read same refl

  pub put_between_from : (q : KeyBytes) (v : X) (es : List (KeyBytes × X)) (start at : ℕ) → start ≤ at → at - start ≡ place_of q (drop start es) → Misses q es at →
      (take (at - start) (drop start es) ++ (q, v) ∷ []) ++ drop at es ≡ put key_cmp q v (drop start es)
  put_between_from q v es start at from place other =
      let n = at - start in
      let rest = drop start es in
      let on : start + n ≡ at = omega (arith, from) in
      let next : drop n rest ≡ drop at es = drop-drop n start es ∙ ap (λ i. drop i es) on in
      let missing : Misses q rest n = λ lt.
      let there = other (omega (arith, lt, from, length-drop start es)) in
      (there.0, there.1 ∙ ap (λ i. get_or es i there.0) (sym on) ∙ sym (get_or-drop start es n there.0), there.2) in
      ap (λ l. (take n rest ++ (q, v) ∷ []) ++ l) (sym next) ∙ put_between q v rest n n place missing refl
