-- The homes of a batch, as they are found run by run.
use Rattle.std.proofs.Common.{◌≡◌, inl, inr, ℕ, zero, suc, ◌+◌, ◌-◌, ◌<◌, ◌≤◌, false, List, [], ◌∷◌, ◌++◌, length, take, drop, get_or, slice_get, slice_set, Option, Some, None, refl, sym, ap, ◌∙◌, subst, arith}
use Rattle.std.specs.Option.{option_map}
use Rattle.std.specs.List.{AllByRecursion}
use Rattle.std.specs.Ordering.{is_lt}
use Rattle.std.proofs.lemmas.Bool.{cases_eq}
use Rattle.std.proofs.lemmas.List.{take_all, map-append, length-set}
use Rattle.bw_key.specs.Order.{KeyBytes, key_cmp}
use Rattle.bw_model.specs.Contents.{is_below_end}
use Rattle.bw_model.specs.declared.operations.Op.{Op}
use Rattle.bw_tree.specs.Levels.{IsOneHome}
use Rattle.bw_tree.specs.Scans.{high_of}
use Rattle.bw_tree.specs.Slots.{slot_at}
use Rattle.bw_look.specs.View.{TreeView}
use Rattle.bw_tree.specs.PageWords.{ArePages}
use Rattle.bw_group.specs.Points.{Entry, entries_at, entries_from, entries_of, key_at, IsEntryOf}
use Rattle.bw_model.specs.Model.{key_of}
use Rattle.bw_group.specs.Homes.{AreHomes, AreInKeyOrder, HasHome, HomesView, IsTouched, with_number}
use Rattle.bw_group.specs.declared.points.Point.{Point}
use Rattle.bw_group.proofs.PointGroups.{place_within}
use Rattle.bw_group.proofs.ListParts.{all_append, all_same, get_other, get_set, take_to}
use Rattle.bw_group.proofs.PassedPages.{IsPassed, order_more, pages_more, passed_more}
use Rattle.bw_group.proofs.Wholes.{all_at_key, all_by_key, entry_of}

abbrev pub homes_of : List ℕ → List ℕ → HomesView
homes_of pages numbers = record { pages = pages; numbers = numbers }

-- where the operation at this place has a key, the number of the key's home is listed there
abbrev pub IsListed : TreeView → List Op → HomesView → ℕ → Type 0
IsListed tree ops homes place = (key : KeyBytes) → IsEntryOf ops (key, place) → HasHome tree homes place key

pub with_number_length : (numbers : List ℕ) (es : List Entry) (n : ℕ) → length (with_number numbers es n) ≡ length numbers
with_number_length numbers [] n = refl
with_number_length numbers (e ∷ es) n = with_number_length (slice_set numbers e.1 n) es n ∙ length-set numbers e.1 n

-- an element of a list is one of the list with more behind it, at the same place
get_front : (xs ys : List ℕ) (i x : ℕ) → slice_get xs i ≡ Some x → slice_get (xs ++ ys) i ≡ Some x
get_front [] ys zero x at = absurd (let e : ◌≡◌ {A = Option ℕ} None (Some x) = at in cc)
get_front [] ys (suc i) x at = absurd (let e : ◌≡◌ {A = Option ℕ} None (Some x) = at in cc)
get_front (y ∷ xs) ys zero x at = at
get_front (y ∷ xs) ys (suc i) x at = get_front xs ys i x at

-- and the next one is the first behind it
pub get_next : (xs : List ℕ) (x : ℕ) → slice_get (xs ++ x ∷ []) (length xs) ≡ Some x
get_next [] x = refl
get_next (y ∷ xs) x = get_next xs x

-- one page more leaves what is listed
more_pages : (tree : TreeView) (ops : List Op) (pages numbers : List ℕ) (p place : ℕ) → IsListed tree ops (homes_of pages numbers) place → IsListed tree ops (homes_of (pages ++ p ∷ []) numbers) place
more_pages tree ops pages numbers p place old key own =
    let h = old key own in
    record {
      number = h.number;
      at = h.at;
      home = record { page = h.home.page; is = get_front pages (p ∷ []) h.number h.home.page h.home.is; one = h.home.one };
    }

module _ (tree : TreeView) (ops : List Op) (pages : List ℕ) (n p : ℕ) (is : slice_get pages n ≡ Some p) where
  -- the home of an entry's key, listed at its place
  home_set : (numbers : List ℕ) (e : Entry) → IsEntryOf ops e → length numbers ≡ length ops → IsOneHome tree.slots tree.levels e.0 p → IsListed tree ops (homes_of pages (slice_set numbers e.1 n)) e.1
  home_set numbers e entry count home key own =
      let lt = place_within ops e entry in
      record {
        number = n;
        at = get_set numbers e.1 n (omega (arith, lt, count));
        home = record { page = p; is = is; one = subst (λ k. IsOneHome tree.slots tree.levels k p) (one (sym entry ∙ own)) home };
      }
    where
      one : Some (Some e.0) ≡ Some (Some key) → e.0 ≡ key
      one e = cc

  -- leaves the others
  other_set : (numbers : List ℕ) (e : Entry) (place : ℕ) → IsListed tree ops (homes_of pages (slice_set numbers e.1 n)) e.1 → IsListed tree ops (homes_of pages numbers) place → IsListed tree ops (homes_of pages (slice_set numbers e.1 n)) place
  other_set numbers e place here old = elim (cases_eq e.1 place) [
    | inl same ↦ subst (IsListed tree ops (homes_of pages (slice_set numbers e.1 n))) same here
    | inr apart ↦ λ key own. let h = old key own in record { number = h.number; at = get_other numbers e.1 place n apart ∙ h.at; home = h.home }
  ]

  pub homes_kept : (es : List Entry) (numbers : List ℕ) (place : ℕ) → length numbers ≡ length ops → AllByRecursion (IsEntryOf ops) es → AllByRecursion (λ e. IsOneHome tree.slots tree.levels e.0 p) es →
      IsListed tree ops (homes_of pages numbers) place → IsListed tree ops (homes_of pages (with_number numbers es n)) place
  homes_kept [] numbers place count entries at_home old = old
  homes_kept (e ∷ es) numbers place count entries at_home old =
      homes_kept es (slice_set numbers e.1 n) place (length-set numbers e.1 n ∙ count) entries.1 at_home.1 (other_set numbers e place (home_set numbers e entries.0 count at_home.0) old)

  pub homes_listed : (es : List Entry) (numbers : List ℕ) → length numbers ≡ length ops → AllByRecursion (IsEntryOf ops) es → AllByRecursion (λ e. IsOneHome tree.slots tree.levels e.0 p) es →
      AllByRecursion (λ e. IsListed tree ops (homes_of pages (with_number numbers es n)) e.1) es
  homes_listed [] numbers count entries at_home = tt
  homes_listed (e ∷ es) numbers count entries at_home =
      let next = slice_set numbers e.1 n in
      let size = length-set numbers e.1 n ∙ count in
      (homes_kept es next e.1 size entries.1 at_home.1 (home_set numbers e entries.0 count at_home.0), homes_listed es next size entries.1 at_home.1)

-- The homes of the points up to a place are found.
pub record AreFoundTo (tree : TreeView) (ops : List Op) (ps : List Point) (n : ℕ) (pages numbers : List ℕ) : Type 0 where
  pub within : n ≤ length ps
  pub count : length numbers ≡ length ops
  pub listed : AllByRecursion (λ e. IsListed tree ops (homes_of pages numbers) e.1) (entries_of (take n ps))
  pub are_pages : ArePages tree pages
  pub order : AreInKeyOrder tree.slots pages
  pub touched : AllByRecursion (IsTouched tree ops) pages
  pub passed : (d : Point) → n < length ps → AllByRecursion (IsPassed tree ops (key_at ps n d)) pages

pub none_found : (tree : TreeView) (ops : List Op) (ps : List Point) (pages numbers : List ℕ) → pages ≡ [] → length numbers ≡ length ops → AreFoundTo tree ops ps 0 pages numbers
none_found tree ops ps pages numbers none count = subst (λ (l : List ℕ). AreFoundTo tree ops ps 0 l numbers) (sym none) (record {
  within = omega arith;
  count = count;
  listed = tt;
  are_pages = record { once = λ p. omega arith; there = tt };
  order = tt;
  touched = tt;
  passed = λ d lt. tt;
})

-- A run of points from one place on and before another, which are at home on a page that ends before the point behind them.
pub record IsRun (tree : TreeView) (ops : List Op) (ps : List Point) (n m p : ℕ) : Type 0 where
  pub more : n < m
  pub bound : m ≤ length ps
  pub there : p < length tree.heads
  pub entries : AllByRecursion (IsEntryOf ops) (entries_of (take (m - n) (drop n ps)))
  pub at_home : AllByRecursion (λ e. IsOneHome tree.slots tree.levels e.0 p) (entries_of (take (m - n) (drop n ps)))
  pub sorted : (d : Point) → m < length ps → is_lt (key_cmp (key_at ps m d) (key_at ps n d)) ≡ false
  pub whole : (d : Point) → m < length ps → is_below_end (high_of (slot_at tree.slots p)) (key_at ps m d) ≡ false

module _ (tree : TreeView) (ops : List Op) (ps : List Point) (n m p : ℕ) (run : IsRun tree ops ps n m p) where
  abbrev pub part : List Entry
  part = entries_of (take (m - n) (drop n ps))

  -- its first point
  first_touched : (d : Point) → (t : IsTouched tree ops p) × (t.key ≡ key_at ps n d)
  first_touched d = by (m - n) (omega (arith, run.more)) run.entries run.at_home
    where
      in_list : n < length ps
      in_list = omega (arith, run.more, run.bound)

      by : (k : ℕ) → 0 < k → AllByRecursion (IsEntryOf ops) (entries_of (take k (drop n ps))) → AllByRecursion (λ e. IsOneHome tree.slots tree.levels e.0 p) (entries_of (take k (drop n ps))) → (t : IsTouched tree ops p) × (t.key ≡ key_at ps n d)
      by zero some entries homes = absurd (omega (arith, some))
      by (suc k) some entries homes = at (drop n ps) refl entries homes
        where
          at : (rest : List Point) → drop n ps ≡ rest → AllByRecursion (IsEntryOf ops) (entries_of (take (suc k) rest)) → AllByRecursion (λ e. IsOneHome tree.slots tree.levels e.0 p) (entries_of (take (suc k) rest)) → (t : IsTouched tree ops p) × (t.key ≡ key_at ps n d)
          at [] is entries homes = absurd (none_left n ps is in_list)
            where
              none_left : (n : ℕ) (ps : List Point) → drop n ps ≡ [] → n < length ps → ⊥
              none_left zero [] is lt = omega (arith, lt)
              none_left zero (p ∷ ps) is lt = let e : p ∷ ps ≡ [] = is in cc
              none_left (suc n) [] is lt = omega (arith, lt)
              none_left (suc n) (p ∷ ps) is lt = none_left n ps is (omega (arith, lt))
          at (first ∷ rest) is entries homes = (
            record { place = first.place; key = first.key.now; entry = entries.0; one = homes.0 },
            ap (λ (q : Point). q.key.now) (sym (first_of n ps is)),
          )
            where
              first_of : (n : ℕ) (ps : List Point) → drop n ps ≡ first ∷ rest → get_or ps n d ≡ first
              first_of zero [] is = absurd (let e : [] ≡ first ∷ rest = is in cc)
              first_of zero (p ∷ ps) is = let e : p ∷ ps ≡ first ∷ rest = is in cc
              first_of (suc n) [] is = absurd (let e : [] ≡ first ∷ rest = is in cc)
              first_of (suc n) (p ∷ ps) is = first_of n ps is

  -- with a run more the homes up to its end are found
  pub run_found : (pages numbers pages' numbers' : List ℕ) (any : Point) → AreFoundTo tree ops ps n pages numbers → pages' ≡ pages ++ p ∷ [] → numbers' ≡ with_number numbers part (length pages) → AreFoundTo tree ops ps m pages' numbers'
  run_found pages numbers pages' numbers' any found pages_are numbers_are =
      let front = entries_of (take n ps) in
      let next = pages ++ p ∷ [] in
      let after = with_number numbers part (length pages) in
      let at_next = get_next pages p in
      let both = ap entries_of (take_to ps n m (omega (arith, run.more))) ∙ map-append (λ (q : Point). (q.key.now, q.place)) (take n ps) (take (m - n) (drop n ps)) in
      let listed = λ (e : Entry). IsListed tree ops (homes_of next after) e.1 in
      let first = first_touched any in
      let here = subst (λ (k : KeyBytes). IsOneHome tree.slots tree.levels k p) first.1 first.0.one in
      let passed = found.passed any (omega (arith, run.more, run.bound)) in
      subst (λ (l : List ℕ). AreFoundTo tree ops ps m l numbers') (sym pages_are)
      (subst (AreFoundTo tree ops ps m next) (sym numbers_are) (record {
        within = run.bound;
        count = with_number_length numbers part (length pages) ∙ found.count;
        listed = subst (AllByRecursion listed) (sym both)
            (all_append listed front part
            (all_same (λ e. IsListed tree ops (homes_of pages numbers) e.1) listed
            (λ e old. homes_kept tree ops next (length pages) p at_next part numbers e.1 found.count run.entries run.at_home (more_pages tree ops pages numbers p e.1 old)) front found.listed)
            (homes_listed tree ops next (length pages) p at_next part numbers found.count run.entries run.at_home));
        are_pages = pages_more tree ops (key_at ps n any) p here pages run.there passed found.are_pages;
        order = order_more tree ops (key_at ps n any) p here pages passed found.order;
        touched = all_append (IsTouched tree ops) pages (p ∷ []) found.touched (first.0, tt);
        passed = λ d lt.
            let own = first_touched d in
            passed_more tree ops (key_at ps n d) (key_at ps m d) p pages own.0 own.1 (run.sorted d lt) (run.whole d lt) (found.passed d (omega (arith, run.more, run.bound)));
      }))

-- where the homes of all points are found, those of the batch are
pub all_found : (tree : TreeView) (ops : List Op) (ps : List Point) (n : ℕ) (pages numbers : List ℕ) → length ps ≤ n → AreFoundTo tree ops ps n pages numbers →
    ((key : KeyBytes) → entries_at key (entries_of ps) ≡ entries_at key (entries_from 0 ops)) → AreHomes tree ops (homes_of pages numbers)
all_found tree ops ps n pages numbers le found same = record {
  pages = found.are_pages;
  order = found.order;
  touched = found.touched;
  count = found.count;
  each = λ place key entry. at place (slice_get ops place) refl key entry;
}
  where
    listed : Entry → Type 0
    listed e = IsListed tree ops (homes_of pages numbers) e.1

    all : AllByRecursion listed (entries_of ps)
    all = subst (λ l. AllByRecursion listed (entries_of l)) (take_all n ps le) found.listed

    in_batch : AllByRecursion listed (entries_from 0 ops)
    in_batch = all_by_key listed (entries_from 0 ops) (λ key. subst (AllByRecursion listed) (same key) (all_at_key listed key (entries_of ps) all))

    from_none : (i : ℕ) → 0 + i ≡ i
    from_none i = omega arith

    at : (place : ℕ) (o : Option Op) → slice_get ops place ≡ o → (key : KeyBytes) → IsEntryOf ops (key, place) → HasHome tree (homes_of pages numbers) place key
    at place None is key entry = absurd (none (sym (ap (option_map key_of) is) ∙ entry))
      where
        none : ◌≡◌ {A = Option (Option KeyBytes)} None (Some (Some key)) → ⊥
        none e = cc
    at place (Some op) is key entry = subst (IsListed tree ops (homes_of pages numbers)) (from_none place) (entry_of listed 0 ops place op key is (same_key (sym (ap (option_map key_of) is) ∙ entry)) in_batch) key entry
      where
        same_key : Some (key_of op) ≡ Some (Some key) → key_of op ≡ Some key
        same_key e = cc
