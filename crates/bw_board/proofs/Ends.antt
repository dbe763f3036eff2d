-- The table at the start and at the end.
use Rattle.std.proofs.Common.{◌-◌, ◌⊎◌, inl, inr, ⊎_elim, eqb, ◌≤◌, ◌≢◌, Option, Bool, min, ◌≡◌, ℕ, zero, suc, ◌+◌, ◌<◌, ltb, map, true, false, List, [], ◌∷◌, ◌++◌, length, length-append, get_or, take, drop, sym, refl, ap, ◌∙◌, subst, arith, Some, None}
use Rattle.std.proofs.lemmas.Bool.Decides.{nat_tests}
use mathlib.Core.Option.{some, some-ne-none, some-injective}
use native.Mathlib.Decide.{dec_le}
use lib.ListN.{get_elem?, replicate}
use Rattle.atomic_table.specs.Table.{State, opening, Final, Seen}
use Rattle.atomic_table.proofs.Lists.{at_map}
use Rattle.std.specs.List.{AllByRecursion}
use Rattle.std.specs.List.Sorted.{IsStrictlyIncreasing}
use Rattle.bw_core.specs.declared.BookView.{BookView}
use Rattle.bw_core.proofs.Losses.{losses_bound}
use Rattle.bw_core.specs.World.{owns, posts_in, spent, seen_at, late, wins_in, IsLast, Meets, total, World, one_if, times, posts_at, IsEnd, LawfulBook, Lawful}
use Rattle.bw_core.proofs.Lists.{late_other, one_same, one_other, total-append, AllByRecursion-append, AllByRecursion-like, few, meets_low, meets_same, total_at, late_first, total_two}
use Rattle.bw_core.proofs.Events.{last_low}
use Rattle.bw_core.proofs.Without.{one_last}
use Rattle.bw_board.specs.Plays.{Seated}
use Rattle.bw_board.proofs.Kept.{sane}
use Rattle.bw_board.proofs.Spares.{CanOpen, opens_lawful}
use Rattle.bw_board.proofs.Words.{get-left, get-right}
use Rattle.bw_board.specs.declared.table.Sight.{Sight}
use Rattle.bw_board.specs.Rule.{book_of, world, KnowsBoard, HasLawfulWorld, opening_sight}
use Rattle.bw_board.specs.Public.{SeatView, IsIdleSeat, EndsIn, EndsLate, HasEnd, AreSwapped, IsClosed, IsSound, HasEach}

total_sole : (f : BookView → ℕ) (xs : List BookView) (i : ℕ) (v : BookView) → get_elem? xs i ≡ some v → ((j : ℕ) (w : BookView) → (j ≡ i → ⊥) → get_elem? xs j ≡ some w → f w ≡ 0) → total f xs ≡ f v
total_sole f [] i v e h = absurd (some-ne-none v (sym e))
total_sole f (x ∷ xs) zero v e h = let a : f x ≡ f v = ap f (some-injective x v e) in let z = total_none f xs (λ j w k. h (suc j) w (λ q. absurd (omega arith)) k) in omega arith
  where
    total_none : (f : BookView → ℕ) (xs : List BookView) → ((j : ℕ) (w : BookView) → get_elem? xs j ≡ some w → f w ≡ 0) → total f xs ≡ 0
    total_none f [] h = refl
    total_none f (x ∷ xs) h = let a = h zero x refl in let b = total_none f xs (λ j w k. h (suc j) w k) in omega arith
total_sole f (x ∷ xs) (suc i) v e h = let a = h zero x (λ q. absurd (omega arith)) refl in let b = total_sole f xs i v e (λ j w n k. h (suc j) w (λ q. n (omega arith)) k) in omega arith

module _ (first : List ℕ) (floor records piece : ℕ) (spares : List (Option ℕ)) where
  only_sight : (i : ℕ) (b c : Sight) → get_elem? (b ∷ []) i ≡ some c → b ≡ c
  only_sight zero b c e = some-injective b c e
  only_sight (suc i) b c e = absurd (some-ne-none c (sym e))

  pub starts : CanOpen first floor records piece spares → (words : List ℕ) → words ≡ 0 ∷ (first ++ replicate records 0) → HasLawfulWorld first floor records piece spares (opening words [] (opening_sight first floor records piece spares))
  starts can words are = record {
    next = 0;
    heads = first;
    links = replicate records 0;
    words_are = are;
    lawful = opens_lawful first floor records piece spares can;
    each_seat = λ i v e l. subst (λ (z : Sight). KnowsBoard first floor records piece spares (replicate records 0) z) (only_sight i (opening_sight first floor records piece spares) v e)
        record { same_first = refl; same_floor = refl; same_records = refl; same_piece = refl; same_spares = refl; armed_link = λ u e a. let d : None ≡ Some u = e in absurd (cc); joined_seen = λ books e. let d : None ≡ Some books = e in absurd (cc) };
  }

  -- the first seat is idle
  pub opening_idle : CanOpen first floor records piece spares → (m : Seated) → m ≡ (opening_sight first floor records piece spares, []) → IsIdleSeat m 1024 false
  opening_idle can m is = let v : Sight = opening_sight first floor records piece spares in
      let words : List ℕ = 0 ∷ (first ++ replicate records 0) in
      subst (λ (z : Seated). IsIdleSeat z 1024 false) (sym is) record {
        no_slots = refl;
        live = refl;
        idle = refl;
        width_is = refl;
        told_is = refl;
        some_width = omega arith;
        small_width = omega arith;
        sane = sane first floor records piece spares (opening words [] v) (starts can words refl) 0 v refl refl;
      }

  -- where a seat has every width, what it alone did is all that was done
  sole : (w : World) (q : Lawful w) (i : ℕ) (b : BookView) (f : BookView → ℕ) → f spent ≡ 0 → get_elem? w.books i ≡ some b → b.width ≡ 1024 → total f w.books ≡ f b
  sole w q i b f none_dead at whole = total_sole f w.books i b at (λ j c n e. let t = total_two (λ (x : BookView). x.width) w.books i j b c n at e in let m = q.claims.widths in
      gone_then c (q.each j c e) (omega arith))
    where
      gone_then : (c : BookView) → LawfulBook w q.fresh q.last c → c.width ≡ 0 → f c ≡ 0
      gone_then c ok none_left = by c.live refl
        where
          by : (l : Bool) → c.live ≡ l → f c ≡ 0
          by true e = let a = ok.some_width e in absurd (omega arith)
          by false e = ap f (ok.gone e) ∙ none_dead

module _ {A : Type 0} where
  take_more : (xs : List A) (i n : ℕ) (x : A) → n ≡ suc i → get_elem? xs i ≡ some x → take n xs ≡ take i xs ++ x ∷ []
  take_more [] i n x e at = absurd (some-ne-none x (sym at))
  take_more (y ∷ xs) i zero x e at = absurd (omega arith)
  take_more (y ∷ xs) zero (suc n) x e at = let z : n ≡ 0 = omega arith in ap (λ k. y ∷ take k xs) z ∙ ap (λ k. k ∷ []) (some-injective y x at)
  take_more (y ∷ xs) (suc i) (suc n) x e at = ap (λ k. y ∷ k) (take_more xs i n x (omega arith) at)

  pub take_next : (xs : List A) (from i n : ℕ) (x : A) → n ≡ suc i → get_elem? xs (from + i) ≡ some x → take n (drop from xs) ≡ take i (drop from xs) ++ x ∷ []
  take_next [] from i n x e at = absurd (some-ne-none x (sym at))
  take_next (y ∷ xs) zero i n x e at = take_more (y ∷ xs) i n x e (subst (λ k. get_elem? (y ∷ xs) k ≡ some x) (omega arith) at)
  take_next (y ∷ xs) (suc from) i n x e at = let k : suc from + i ≡ suc (from + i) = omega arith in take_next xs from i n x e (subst (λ k. get_elem? (y ∷ xs) k ≡ some x) k at)

  take_left : (xs ys : List A) (n : ℕ) → n ≡ length xs → take n (xs ++ ys) ≡ xs
  take_left [] ys n e = ap (λ k. take k ys) e
  take_left (x ∷ xs) ys zero e = absurd (omega arith)
  take_left (x ∷ xs) ys (suc n) e = ap (λ k. x ∷ k) (take_left xs ys n (omega arith))

  drop_left : (xs ys : List A) (n : ℕ) → n ≡ length xs → drop n (xs ++ ys) ≡ ys
  drop_left [] ys n e = ap (λ k. drop k ys) e
  drop_left (x ∷ xs) ys zero e = absurd (omega arith)
  drop_left (x ∷ xs) ys (suc n) e = drop_left xs ys n (omega arith)

  take_all : (xs : List A) (n : ℕ) → n ≡ length xs → take n xs ≡ xs
  take_all [] zero e = refl
  take_all [] (suc n) e = refl
  take_all (x ∷ xs) zero e = absurd (omega arith)
  take_all (x ∷ xs) (suc n) e = ap (λ k. x ∷ k) (take_all xs n (omega arith))

head_words : (c : ℕ) (ws hs ls : List ℕ) (n : ℕ) → ws ≡ c ∷ (hs ++ ls) → n ≡ length hs → take n (drop 1 ws) ≡ hs
head_words c ws hs ls n e h = ap (λ z. take n (drop 1 z)) e ∙ take_left hs ls n h

link_words : (c : ℕ) (ws hs ls : List ℕ) (n m : ℕ) → ws ≡ c ∷ (hs ++ ls) → n ≡ length hs → m ≡ length ls → take m (drop (1 + n) ws) ≡ ls
link_words c ws hs ls n m e h k = let one : 1 + n ≡ suc n = omega arith in ap (λ z. take m (drop (1 + n) z)) e ∙ (ap (λ z. take m (drop z (c ∷ (hs ++ ls)))) one ∙ (ap (λ z. take m z) (drop_left hs ls n h) ∙ take_all ls m k))

-- what a seat that has every width leaves
pub record Ended (z : SeatView) (hs ls : List ℕ) (p : ℕ) : Type 0 where
  pub chain : List ℕ
  pub last : ℕ
  pub met : Meets z.board.floor ls (get_or hs p 0) chain last
  pub is_last : IsLast z.board.first z.board.spares p last
  pub low : last < z.board.floor
  pub short : length chain ≤ length ls
  pub late_is : late (get_or z.board.first p 0) last ≡ wins_in p z.book.swaps
  pub posts : (r : ℕ) → times r chain ≡ posts_at p r z.book.posted
  pub once : (r : ℕ) → times r chain ≤ 1
  pub seen : IsEnd (seen_at z.book p) chain

all_claimed : (r next records : ℕ) → r < records → records ≤ next → one_if (ltb r (min next records)) ≡ 1
all_claimed r next records h n = grind (arith, nat_tests)

pub ends : (first : List ℕ) (floor records piece : ℕ) (spares : List (Option ℕ)) (id pages : ℕ) (v : Sight) (ws xs : List ℕ) (z : SeatView) → Final (Seen (HasLawfulWorld first floor records piece spares) id v) ws xs → v.book.live ≡ true → pages ≡ length first
    → z.board.first ≡ first → z.board.floor ≡ floor → z.board.records ≡ records → z.board.spares ≡ spares → z.book ≡ v.book → v.book.width ≡ 1024 → v.book.told ≡ true → ((r : ℕ) → owns r v.book ≤ posts_in r v.book.posted)
    → (let hs : List ℕ = take pages (drop 1 ws) in let ls : List ℕ = take records (drop (1 + pages) ws) in
    (length hs ≡ length z.board.first) × (length ls ≡ z.board.records) × ((p : ℕ) → p < length z.board.first → Ended z hs ls p) × ((r : ℕ) → r < z.board.records → posts_in r z.book.posted ≡ 1))
ends first floor records piece spares id pages v ws xs z f live wide e1 e2 e3 e5 e4 whole told all = let s : State ℕ Sight = f.0 in let t = f.1.0 in let at = f.1.1 in let q = t.lawful in
    let are : ws ≡ t.next ∷ (t.heads ++ t.links) = sym f.2 ∙ t.words_are in let at' = at_map book_of s.views id v at in let ok = q.each id v.book at' in
    let hw : pages ≡ length t.heads = wide ∙ sym q.head_each_page in
    let w : World = world first floor records piece spares t.next t.heads t.links (map book_of s.views) in
    let hs : t.heads ≡ take pages (drop 1 ws) = sym (head_words t.next ws t.heads t.links pages are hw) in
    let ls : t.links ≡ take records (drop (1 + pages) ws) = sym (link_words t.next ws t.heads t.links pages records are hw (sym q.link_each_record)) in
    let z' : SeatView = record { board = record { table = z.board.table; first = first; floor = floor; records = records; piece = z.board.piece; spares = spares }; book = v.book } in
    let plain : (length t.heads ≡ length first) × (length t.links ≡ records) × ((p : ℕ) → p < length first → Ended z' t.heads t.links p) × ((r : ℕ) → r < records → posts_in r v.book.posted ≡ 1) = (
      q.head_each_page,
      q.link_each_record,
      λ p h. record {
        chain = q.fresh p;
        last = q.last p;
        met = q.met p h;
        is_last = q.last_is p h;
        low = last_low w q p h;
        short = few (length t.links) (q.fresh p) (meets_low floor t.links (get_or t.heads p 0) (q.fresh p) (q.last p) (q.met p h)) (λ r. q.once p r h);
        late_is = sym (q.swapped p h) ∙ sole first floor records piece spares w q id v.book (λ b. wins_in p b.swaps) refl at' whole;
        posts = λ r. q.placed p r h ∙ sole first floor records piece spares w q id v.book (λ b. posts_at p r b.posted) refl at' whole;
        once = λ r. q.once p r h;
        seen = ok.seen_end p live h;
      },
      λ r h. let o = q.claims.owned_is r in let n = q.claims.told_done id v.book at' told in let one = all_claimed r t.next records h n in
          let s = sole first floor records piece spares w q id v.book (λ b. owns r b) refl at' whole in let a = ok.posts_own r in let m = all r in omega arith,
    ) in
    let is : z' ≡ z = sym (λ j. record { board = record { table = z.board.table; first = e1 j; floor = e2 j; records = e3 j; piece = z.board.piece; spares = e5 j }; book = e4 j }) in
    subst (λ (k : SeatView × (List ℕ × List ℕ)). (length k.1.0 ≡ length k.0.board.first) × (length k.1.1 ≡ k.0.board.records) × ((p : ℕ) → p < length k.0.board.first → Ended k.0 k.1.0 k.1.1 p) × ((r : ℕ) → r < k.0.board.records → posts_in r k.0.book.posted ≡ 1)) (λ j. (is j, (hs j, ls j))) plain

pub ends_each : (first : List ℕ) (floor records piece : ℕ) (spares : List (Option ℕ)) (id : ℕ) (v : Sight) (ws xs : List ℕ) (z : SeatView) → Final (Seen (HasLawfulWorld first floor records piece spares) id v) ws xs
    → z.board.records ≡ records → z.board.spares ≡ spares → z.book ≡ v.book → v.book.width ≡ 1024 → v.book.told ≡ true → ((r : ℕ) → owns r v.book ≤ posts_in r v.book.posted) → HasEach z × IsSound z
ends_each first floor records piece spares id v ws xs z f e3 e5 e4 whole told all = let s : State ℕ Sight = f.0 in let t = f.1.0 in let q = t.lawful in
    let at' = at_map book_of s.views id v f.1.1 in let ok = q.each id v.book at' in
    let w : World = world first floor records piece spares t.next t.heads t.links (map book_of s.views) in
    let z' : SeatView = record { board = record { table = z.board.table; first = z.board.first; floor = z.board.floor; records = records; piece = z.board.piece; spares = spares }; book = v.book } in
    let done : min t.next records ≡ records = (let n = q.claims.told_done id v.book at' told in omega arith) in
    let owned : (r : ℕ) → owns r v.book ≡ one_if (ltb r records) = λ r. sym (sole first floor records piece spares w q id v.book (λ b. owns r b) refl at' whole) ∙ (q.claims.owned_is r ∙ ap (λ n. one_if (ltb r n)) done) in
    let each : HasEach z' = record { owned = owned; posted = λ r. let a = ok.posts_own r in let m = all r in let o = owned r in omega arith } in
    let once : (r : ℕ) → owns r v.book ≤ 1 = λ r. (let a = total_at (λ (x : BookView). owns r x) w.books id v.book at' in let o = q.owned_once r in omega arith) in
    let few = losses_bound w q id v.book at' in let sound : IsSound z' = record { own_once = once; lost_few = few.0; lost_fewer = few.1 } in
    let is : z' ≡ z = sym (λ j. record { board = record { table = z.board.table; first = z.board.first; floor = z.board.floor; records = e3 j; piece = z.board.piece; spares = e5 j }; book = e4 j }) in
    subst (λ (k : SeatView). HasEach k × IsSound k) is (each, sound)

pub closes : (z : SeatView) (hs ls sw : List ℕ) → length hs ≡ length z.board.first → length ls ≡ z.board.records → ((p : ℕ) → p < length z.board.first → Ended z hs ls p) → ((r : ℕ) → r < z.board.records → posts_in r z.book.posted ≡ 1)
    → AreSwapped z.board.first z.board.floor hs ls (length z.board.first) sw → IsClosed z hs ls sw
closes z hs ls sw a b each full s = record {
  head_each_page = a;
  link_each_record = b;
  rising = s.rising;
  within = s.within;
  posted = full;
  each_page = λ p h. let e = each p h in let t = s.each_page p h in
      let same : t.last ≡ e.last = (meets_same z.board.floor ls (get_or hs p 0) t.chain e.chain t.last e.last t.low e.low t.met e.met).1 in
      let here : times p sw ≡ late (get_or z.board.first p 0) e.last = t.is_late ∙ ap (late (get_or z.board.first p 0)) same in record {
        chain = e.chain;
        last = e.last;
        met = e.met;
        is_last = e.is_last;
        swapped_is = here;
        won_is = here ∙ e.late_is;
        posts = e.posts;
        once = e.once;
        seen = e.seen;
      };
}

-- one step of a walk down a chain
pub walk_down : (fl : ℕ) (links : List ℕ) (word : ℕ) (rest : List ℕ) (x : ℕ) → Meets fl links word rest x → x < fl → fl ≤ word
    → (word - fl < length links) × ((tail : List ℕ) × Meets fl links (get_or links (word - fl) 0) tail x × (length rest ≡ length tail + 1))
walk_down fl links word [] x m low h = absurd (omega arith)
walk_down fl links word (r ∷ rest) x m low h = let e = m.0 in let same : r ≡ word - fl = omega arith in
    (subst (λ z. z < length links) same m.1, (rest, subst (λ z. Meets fl links (get_or links z 0) rest x) same m.2, omega arith))

pub low_end : (fl : ℕ) (links : List ℕ) (word : ℕ) (rest : List ℕ) (x : ℕ) → Meets fl links word rest x → word < fl → word ≡ x
low_end fl links word [] x m h = m
low_end fl links word (r ∷ rest) x m h = let e = m.0 in absurd (omega arith)

pub walk_end : (fl : ℕ) (links : List ℕ) (word : ℕ) (rest : List ℕ) (x : ℕ) → Meets fl links word rest x → length rest ≤ 0 → word ≡ x
walk_end fl links word [] x m h = m
walk_end fl links word (r ∷ rest) x m h = absurd (omega arith)

-- one page more
below_at : (n : ℕ) (xs : List ℕ) (k : ℕ) → AllByRecursion (λ p. p < n) xs → k < length xs → get_or xs k 0 < n
below_at n [] k h l = absurd (omega arith)
below_at n (x ∷ xs) zero h l = h.0
below_at n (x ∷ xs) (suc k) h l = below_at n xs k h.1 (omega arith)

rising_more : (xs : List ℕ) (n : ℕ) → IsStrictlyIncreasing xs → AllByRecursion (λ p. p < n) xs → IsStrictlyIncreasing (xs ++ n ∷ [])
rising_more xs n up low k within =
    let len = length-append xs (n ∷ []) in
    let here : get_or (xs ++ n ∷ []) k 0 ≡ get_or xs k 0 = get-left xs (n ∷ []) k 0 (omega arith) in
    elim (dec_le (length xs) (k + 1)) [
      | yes d ↦ (let last : get_or (xs ++ n ∷ []) (k + 1) 0 ≡ n = get-right xs (n ∷ []) (k + 1) 0 0 (omega arith) in let l = below_at n xs k low (omega arith) in omega arith)
      | no d ↦ (let next : get_or (xs ++ n ∷ []) (k + 1) 0 ≡ get_or xs (k + 1) 0 = get-left xs (n ∷ []) (k + 1) 0 (omega arith) in let l = up k (omega arith) in omega arith)
    ]

not_yet : (n : ℕ) (xs : List ℕ) → AllByRecursion (λ p. p < n) xs → times n xs ≡ 0
not_yet n [] h = refl
not_yet n (x ∷ xs) h = let a = not_yet n xs h.1 in let l = h.0 in let o = one_other x n (λ e. omega arith) in omega arith

-- no page is swapped whose chain ends in its first word
pub swapped_nowhere : (first : List ℕ) (floor : ℕ) (hs ls : List ℕ) (n : ℕ) → ((p : ℕ) → p < n → EndsIn floor hs ls p (get_or first p 0)) → AreSwapped first floor hs ls n []
swapped_nowhere first floor hs ls n each = record {
  rising = λ k h. absurd (omega arith);
  within = tt;
  each_page = λ p h. let e = each p h in record { chain = e.chain; last = get_or first p 0; met = e.met; low = e.low; is_late = sym (late_first (get_or first p 0) (get_or first p 0) refl) };
}

at_or_below : (p n : ℕ) → p < n + 1 → (p ≡ n) ⊎ (p < n)
at_or_below p n h = elim (dec_le n p) [ yes d ↦ inl (omega arith) | no d ↦ inr (omega arith) ]

pub swapped_same : (first : List ℕ) (floor : ℕ) (hs ls : List ℕ) (n : ℕ) (sw : List ℕ) (x : ℕ) → AreSwapped first floor hs ls n sw → EndsIn floor hs ls n x → x ≡ get_or first n 0 → AreSwapped first floor hs ls (n + 1) sw
swapped_same first floor hs ls n sw x s e same = record {
  rising = s.rising;
  within = AllByRecursion-like _ _ sw (λ z h. omega arith) s.within;
  each_page = λ p h. ⊎_elim (λ (i : p ≡ n). subst (λ (z : ℕ). EndsLate first floor hs ls z (times z sw)) (sym i) record {
    chain = e.chain;
    last = x;
    met = e.met;
    low = e.low;
    is_late = let a = not_yet n sw s.within in let b = late_first (get_or first n 0) x same in omega arith;
  }) (λ l. s.each_page p l) (at_or_below p n h);
}

pub swapped_more : (first : List ℕ) (floor : ℕ) (hs ls : List ℕ) (n : ℕ) (sw : List ℕ) (x : ℕ) → AreSwapped first floor hs ls n sw → EndsIn floor hs ls n x → x ≢ get_or first n 0 → AreSwapped first floor hs ls (n + 1) (sw ++ n ∷ [])
swapped_more first floor hs ls n sw x s e other = record {
  rising = rising_more sw n s.rising s.within;
  within = AllByRecursion-append _ sw (n ∷ []) (AllByRecursion-like _ _ sw (λ z h. omega arith) s.within) (omega arith, tt);
  each_page = λ p h. let more : times p (sw ++ n ∷ []) ≡ times p sw + (one_if (eqb n p) + 0) = total-append (λ z. one_if (eqb z p)) sw (n ∷ []) in
      ⊎_elim (λ (i : p ≡ n). record {
        chain = e.chain;
        last = x;
        met = subst (λ z. Meets floor ls (get_or hs z 0) e.chain x) (sym i) e.met;
        low = e.low;
        is_late = let a = not_yet n sw s.within in let a' : times p sw ≡ times n sw = ap (λ z. times z sw) i in let o = one_same n p (sym i) in
            let b = late_other (get_or first p 0) x (λ z. other (z ∙ ap (λ y. get_or first y 0) i)) in omega arith;
      })
      (λ (l : p < n). let t = s.each_page p l in let o = one_other n p (λ e. omega arith) in let i = t.is_late in record { chain = t.chain; last = t.last; met = t.met; low = t.low; is_late = omega arith }) (at_or_below p n h);
}

pub chains_of : (z : SeatView) (hs ls first hs' ls' : List ℕ) (floor : ℕ) → first ≡ z.board.first → hs' ≡ hs → ls' ≡ ls → floor ≡ z.board.floor → ((p : ℕ) → p < length z.board.first → Ended z hs ls p)
    → (p : ℕ) → p < length first → HasEnd floor hs' ls' p
chains_of z hs ls first hs' ls' floor a b c d each p h = let e = each p (subst (λ z. p < length z) a h) in
    subst (λ (k : ℕ × (List ℕ × List ℕ)). HasEnd k.0 k.1.0 k.1.1 p) (λ j. (sym d j, (sym b j, sym c j))) record { chain = e.chain; last = e.last; met = e.met; low = e.low; short = e.short }

-- without a spare each chain ends in its page's first word
pub first_ends : (z : SeatView) (hs ls first hs' ls' : List ℕ) (floor : ℕ) → first ≡ z.board.first → hs' ≡ hs → ls' ≡ ls → floor ≡ z.board.floor → z.board.spares ≡ [] → ((p : ℕ) → p < length z.board.first → Ended z hs ls p)
    → (p : ℕ) → p < length first → EndsIn floor hs' ls' p (get_or first p 0)
first_ends z hs ls first hs' ls' floor a b c d none each p h = let e = each p (subst (λ z. p < length z) a h) in
    let is : e.last ≡ get_or z.board.first p 0 = one_last z.board.first z.board.spares p e.last (ap (λ k. get_or k p None) none) e.is_last in
    subst (λ (k : (ℕ × List ℕ) × (List ℕ × List ℕ)). EndsIn k.0.0 k.1.0 k.1.1 p (get_or k.0.1 p 0)) (λ j. ((sym d j, sym a j), (sym b j, sym c j)))
    record { chain = e.chain; met = subst (λ k. Meets z.board.floor ls (get_or hs p 0) e.chain k) is e.met; low = subst (λ k. k < z.board.floor) is e.low }

pub closes_at : (z : SeatView) (hs ls first hs' ls' sw : List ℕ) (floor : ℕ) → first ≡ z.board.first → hs' ≡ hs → ls' ≡ ls → floor ≡ z.board.floor
    → (length hs ≡ length z.board.first) × (length ls ≡ z.board.records) × ((p : ℕ) → p < length z.board.first → Ended z hs ls p) × ((r : ℕ) → r < z.board.records → posts_in r z.book.posted ≡ 1) → AreSwapped first floor hs' ls' (length first) sw → IsClosed z hs' ls' sw
closes_at z hs ls first hs' ls' sw floor a b c d e s =
    subst (λ (k : List ℕ × List ℕ). IsClosed z k.0 k.1 sw) (λ j. (sym b j, sym c j))
    (closes z hs ls sw e.0 e.1 e.2 e.3 (subst (λ (k : (List ℕ × ℕ) × (List ℕ × List ℕ)). AreSwapped k.0.0 k.0.1 k.1.0 k.1.1 (length k.0.0) sw) (λ j. ((a j, d j), (b j, c j))) s))
