-- Runs of points that are at home on one page.
use Rattle.std.proofs.Common.{◌≡◌, ℕ, suc, ◌+◌, ◌-◌, ◌<◌, ◌≤◌, Bool, true, false, T, List, [], ◌∷◌, length, take, drop, get_or, Option, sym, ap, ◌∙◌, subst, arith, length-drop}
use Rattle.std.specs.List.{AllByRecursion}
use Rattle.std.specs.List.Sorted.{IsSortedBy}
use Rattle.std.specs.Ordering.{is_lt}
use Rattle.std.proofs.lemmas.List.{get_or-map, get_or_default, map-append}
use Rattle.std.proofs.lemmas.List.Sorted.{sorted_far}
use Rattle.bw_key.specs.Order.{KeyBytes, key_cmp}
use Rattle.bw_model.specs.Contents.{is_below_end}
use Rattle.bw_page.proofs.Truths.{holds_not, not_holds}
use Rattle.bw_page.proofs.KeyLemmas.{upto_trans}
use Rattle.bw_tree.specs.Levels.{IsHome, IsOneHome}
use Rattle.bw_tree.specs.Scans.{high_of}
use Rattle.bw_tree.specs.Slots.{Slot, slot_at}
use Rattle.bw_group.specs.Points.{Entry, entries_of}
use Rattle.bw_group.specs.declared.points.Point.{Point}
use Rattle.bw_group.proofs.PointGroups.{part_holds, seen_length}
use Rattle.bw_group.proofs.Groups.{ranks}
use Rattle.bw_group.proofs.ListParts.{all_append, in_rest, part_more, seen_rest}

-- what a test told that didn't end the run
pub is_under : (b c : Bool) → b ≡ c → b ≡ true → T c
is_under b c e f = subst T (sym f ∙ e) tt

module _ (P : Entry → Type 0) where
  -- a run of points with one more
  pub run_more : (ps : List Point) (n m : ℕ) (p : Point) → n ≤ m → m < length ps → p ≡ get_or ps m p → P (p.key.now, p.place) →
      AllByRecursion P (entries_of (take (m - n) (drop n ps))) → AllByRecursion P (entries_of (take (m + 1 - n) (drop n ps)))
  run_more ps n m p le lt is here so =
      let part = take (m - n) (drop n ps) in
      subst (λ (l : List Point). AllByRecursion P (entries_of l)) (sym (part_more ps n m p le lt is))
      (subst (AllByRecursion P) (sym (map-append (λ (q : Point). (q.key.now, q.place)) part (p ∷ [])))
      (all_append P (entries_of part) ((p.key.now, p.place) ∷ []) so (here, tt)))

  -- and with its first alone
  pub run_one : (ps : List Point) (n : ℕ) (d : Point) → n < length ps → P ((get_or ps n d).key.now, (get_or ps n d).place) → AllByRecursion P (entries_of (take (n + 1 - n) (drop n ps)))
  run_one ps n d lt here =
      let p = get_or ps n d in
      let none : n - n ≡ 0 = omega arith in
      run_more ps n n p (omega arith) lt (get_or_default ps n d p lt) here (subst (λ k. AllByRecursion P (entries_of (take k (drop n ps)))) (sym none) tt)

-- what holds of each element holds of all
all_from_each : {X : Type 0} (P : X → Type 0) (xs : List X) → ((i : ℕ) (d : X) → i < length xs → P (get_or xs i d)) → AllByRecursion P xs
all_from_each P [] each = tt
all_from_each P (x ∷ xs) each = (each 0 x (omega arith), all_from_each P xs (λ i d lt. each (suc i) d (omega (arith, lt))))

abbrev pub AreSorted : List Point → Type 0
AreSorted ps = IsSortedBy (λ d e. is_lt (key_cmp d.0 e.0)) (entries_of ps)

-- the key of an entry isn't below this one
abbrev pub IsFrom : KeyBytes → Entry → Type 0
IsFrom key e = is_lt (key_cmp e.0 key) ≡ false

-- the points from a place on have no smaller key
pub part_above : (ps : List Point) (n k : ℕ) (d : Point) → AreSorted ps → n < length ps → AllByRecursion (IsFrom (get_or ps n d).key.now) (entries_of (take k (drop n ps)))
part_above ps n k d sorted lt =
    let es = entries_of ps in
    let key = (get_or ps n d).key.now in
    let seen : Point → Entry = λ p. (p.key.now, p.place) in
    part_holds (IsFrom key) (drop n ps) 0 k
    (subst (AllByRecursion (IsFrom key)) (sym (seen_rest seen n ps))
    (all_from_each (IsFrom key) (drop n es) (λ i e le.
    let far = sorted_far (λ (a b : Entry). is_lt (key_cmp a.0 b.0)) (ranks (λ (x : Entry). x.0)) es sorted n (n + i) e (omega arith) (omega (arith, le, length-drop n es)) in
    let first = get_or-map seen ps n d e lt in
    ap (λ (x : Entry). is_lt (key_cmp x.0 key)) (in_rest es n i e)
    ∙ sym (ap (λ (x : Entry). is_lt (key_cmp (get_or es (n + i) e).0 x.0)) first) ∙ far)))

-- a later point has no smaller key
pub later_above : (ps : List Point) (n m : ℕ) (d : Point) → AreSorted ps → n ≤ m → m < length ps → is_lt (key_cmp (get_or ps m d).key.now (get_or ps n d).key.now) ≡ false
later_above ps n m d sorted le lt =
    let es = entries_of ps in
    let e : Entry = (d.key.now, d.place) in
    let seen : Point → Entry = λ p. (p.key.now, p.place) in
    let far = sorted_far (λ (a b : Entry). is_lt (key_cmp a.0 b.0)) (ranks (λ (x : Entry). x.0)) es sorted n m e le (omega (arith, lt, seen_length ps)) in
    sym (ap (λ (x : Entry). is_lt (key_cmp x.0 (get_or ps n d).key.now)) (get_or-map seen ps m d e lt))
    ∙ sym (ap (λ (x : Entry). is_lt (key_cmp (get_or es m e).0 x.0)) (get_or-map seen ps n d e (omega (arith, le, lt)))) ∙ far

-- a key between one that is at home on a page and the page's end is at home there
pub home_further : (slots : List Slot) (levels : List (List ℕ)) (key other : KeyBytes) (p : ℕ) → IsHome slots levels key p → is_lt (key_cmp other key) ≡ false → T (is_below_end (high_of (slot_at slots p)) other) → IsHome slots levels other p
home_further slots levels key other p home from below = record {
  reached = record {
    within = home.reached.within;
    in_level = home.reached.in_level;
    state = home.reached.state;
    is = home.reached.is;
    from_low = not_holds _ (upto_trans home.reached.state.low key other (holds_not _ home.reached.from_low) from);
  };
  ends_above = subst (λ (h : Option KeyBytes). T (is_below_end h other)) (ap high_of home.reached.is) below;
}

pub all_both : (P Q R : Entry → Type 0) → ((e : Entry) → P e → Q e → R e) → (es : List Entry) → AllByRecursion P es → AllByRecursion Q es → AllByRecursion R es
all_both P Q R so [] p q = tt
all_both P Q R so (e ∷ es) p q = (so e p.0 q.0, all_both P Q R so es p.1 q.1)

-- the points from one that is at home on a page on, up to the page's end
pub run_homes : (slots : List Slot) (levels : List (List ℕ)) (ps : List Point) (n k : ℕ) (d : Point) (p : ℕ) (end : Option KeyBytes) → AreSorted ps → n < length ps → IsHome slots levels (get_or ps n d).key.now p →
    ((key : KeyBytes) (p q : ℕ) → IsHome slots levels key p → IsHome slots levels key q → q ≡ p) → end ≡ high_of (slot_at slots p) →
    AllByRecursion (λ e. T (is_below_end end e.0)) (entries_of (take k (drop n ps))) → AllByRecursion (λ e. IsOneHome slots levels e.0 p) (entries_of (take k (drop n ps)))
run_homes slots levels ps n k d p end sorted lt home one is below =
    let key = (get_or ps n d).key.now in
    all_both (IsFrom key) (λ e. T (is_below_end end e.0)) (λ e. IsOneHome slots levels e.0 p)
    (λ e from under.
    let here = home_further slots levels key e.0 p home from (subst (λ (h : Option KeyBytes). T (is_below_end h e.0)) is under) in
    (here, λ q other. one e.0 p q here other))
    (entries_of (take k (drop n ps))) (part_above ps n k d sorted lt) below
