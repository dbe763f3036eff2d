-- A new world is lawful, and any list of events keeps it so.
use Rattle.std.proofs.Common.{◌⊎◌, inl, inr, ◌≡◌, ℕ, zero, suc, ◌+◌, ◌<◌, ◌≤◌, min, ltb, eqb, true, false, ◌&&◌, List, [], ◌∷◌, ◌++◌, length, get_or, set, sym, refl, ap, ◌∙◌, subst, arith, Option, Some, None, Result, Ok, Err, IfOk, OnErr}
use mathlib.Core.Option.{some, some-injective, some-ne-none}
use lib.ListN.{get_elem?, replicate, length-replicate}
use Rattle.std.proofs.lemmas.Bool.Decides.{nat_tests}
use Rattle.bw_key.specs.declared.Memory.{Memory}
use Rattle.bw_core.specs.declared.Event.{Event}
use Rattle.bw_core.specs.declared.Event.TheVariants.{Look, Link, Try, Follow, Claim, Split, Join, Replace}
use Rattle.bw_core.specs.declared.Played.{Played}
use Rattle.bw_core.specs.declared.Post.{Post}
use Rattle.bw_core.specs.declared.BookView.{BookView}
use Rattle.bw_core.specs.World.{World, Lawful, LawfulBook, Keeps, IsEnd, one_if, total, times, posts_in, posts_at, seen_at, end_at, late}
use Rattle.bw_core.specs.Events.{world_with, under, book_after_look, book_after_loss, book_after_late_swap, Resumes}
use Rattle.bw_core.specs.Transitions.{IsFresh, Looks, Links, Tries, Follows, Claims, Splits, Joins, Replaces, Applies, Runs, CanStart, start_world, first_book, IsWorld}
use Rattle.bw_core.specs.Keeping.{FreshIsRead, StartIsLawful, FollowKeeps, EventKeeps, RunKeeps}
use Rattle.bw_core.proofs.Lists.{meets_same, end_self, end_trans, end-times, late_first, total-le, total_at, some_member, AllByRecursion-at}
use Rattle.bw_core.proofs.Events.{build, last_low, or_then, posts_at-le, and_here, look_keeps, link_keeps, lose_keeps, win_keeps, claim_keeps_piece, claim_keeps_told, replace_keeps_won, replace_keeps_late}
use Rattle.bw_core.proofs.Seats.{split_keeps, join_keeps}

pub fresh_is_read : FreshIsRead
fresh_is_read w q page s x h fresh = meets_same w.floor w.links (get_or w.heads page 0) s (q.fresh page) x (q.last page) fresh.1 (last_low w q page h) fresh.0 (q.met page h)

-- an event that changes nothing
pub follow_keeps : FollowKeeps
follow_keeps w q = (q, record { grows = λ p. end_self (q.fresh p); lasts = λ p. inr refl; links_stay = λ r h. refl; start_stays = record { first = refl; floor = refl; records = refl; piece = refl; spares = refl } })

same_world : (w : World) (q : Lawful w) (w' : World) → w' ≡ w → Keeps w q w'
same_world w q w' e = subst (Keeps w q) (sym e) (follow_keeps w q)

-- an event that reads the page's chain
reads : (w : World) (q : Lawful w) (page : ℕ) (s : List ℕ) (x : ℕ) (P : List ℕ → ℕ → Type 0) → page < length w.first → IsFresh w page s x → P (q.fresh page) (q.last page) → P s x
reads w q page s x P h fresh p = let t = fresh_is_read w q page s x h fresh in subst (λ (z : List ℕ × ℕ). P z.0 z.1) (λ j. (sym t.0 j, sym t.1 j)) p

look_event : (w : World) (q : Lawful w) (seat page : ℕ) (w' : World) (a : Played) → Looks w seat page w' a → Keeps w q w'
look_event w q seat page w' a (inr t) = same_world w q w' t.1.0
look_event w q seat page w' a (inl t) = let b = t.0 in let may = t.3 in subst (Keeps w q) (sym t.5)
    (reads w q page t.1 t.2 (λ s x. Keeps w q (world_with w w.heads w.links (set w.books seat (book_after_look b page s x)))) may.1 t.4 (look_keeps w q seat b page may.0.0 may.0.1 may.1))

-- a record under way has lost at most so often
pub resumes_few : (w : World) (q : Lawful w) (seat : ℕ) (b : BookView) (rec page lost : ℕ) → get_elem? w.books seat ≡ some b → Resumes b rec page lost → lost ≤ length (seen_at b page) + late (get_or w.first page 0) (end_at b page)
resumes_few w q seat b rec page lost at (inl t) = let e = t.1 in omega arith
resumes_few w q seat b rec page lost at (inr t) = ((q.each seat b at).lawful_under (under rec page lost t.0) t.1).few

link_event : (w : World) (q : Lawful w) (seat rec page : ℕ) (w' : World) (a : Played) → Links w seat rec page w' a → Keeps w q w'
link_event w q seat rec page w' a (inr t) = same_world w q w' t.1.0
link_event w q seat rec page w' a (inl t) = let b = t.0 in let may = t.2 in subst (Keeps w q) (sym t.3) (link_keeps w q seat b rec page t.1 may.0.0 may.0.1 may.1 may.2 may.3 (resumes_few w q seat b rec page t.1 may.0.0 may.4))

try_event : (w : World) (q : Lawful w) (seat rec page : ℕ) (w' : World) (a : Played) → Tries w seat rec page w' a → Keeps w q w'
try_event w q seat rec page w' a (inr t) = same_world w q w' t.1.0
try_event w q seat rec page w' a (inl (b, lost, may, inl t)) = subst (Keeps w q) (sym t.1) (win_keeps w q seat b rec page lost may.0.0 may.1 t.0)
try_event w q seat rec page w' a (inl (b, lost, may, inr t)) = let h = ((q.each seat b may.0.0).lawful_under (under rec page lost true) may.1).on_page in subst (Keeps w q) (sym t.4)
    (reads w q page t.0 t.1 (λ s x. Keeps w q (world_with w w.heads w.links (set w.books seat (book_after_loss b rec page lost s x)))) h t.3 (lose_keeps w q seat b rec page lost may.0.0 may.1 t.2))

follow_event : (w : World) (q : Lawful w) (seat rec : ℕ) (w' : World) (a : Played) → Follows w seat rec w' a → Keeps w q w'
follow_event w q seat rec w' a (inr t) = same_world w q w' t.1.0
follow_event w q seat rec w' a (inl t) = same_world w q w' t.3

claim_event : (w : World) (q : Lawful w) (seat : ℕ) (w' : World) (a : Played) → Claims w seat w' a → Keeps w q w'
claim_event w q seat w' a (inr t) = same_world w q w' t.1.0
claim_event w q seat w' a (inl (b, may, inl t, _)) = subst (Keeps w q) (sym t.1) (claim_keeps_piece w q seat b may.0.0 may.0.1 may.1 may.2 t.0)
claim_event w q seat w' a (inl (b, may, inr t, _)) = subst (Keeps w q) (sym t.1) (claim_keeps_told w q seat b may.0.0 may.0.1 may.1 may.2 t.0)

split_event : (w : World) (q : Lawful w) (seat : ℕ) (w' : World) (a : Played) → Splits w seat w' a → Keeps w q w'
split_event w q seat w' a (inr t) = same_world w q w' t.1.0
split_event w q seat w' a (inl (b, may, is, _)) = subst (Keeps w q) (sym is) (split_keeps w q seat b may.0.0 may.0.1 may.1 may.2)

join_event : (w : World) (q : Lawful w) (into other : ℕ) (w' : World) (a : Played) → Joins w into other w' a → Keeps w q w'
join_event w q into other w' a (inr t) = same_world w q w' t.1.0
join_event w q into other w' a (inl (b, d, may, is, _)) = subst (Keeps w q) (sym is) (join_keeps w q into other b d may.0.0 may.1.0 may.2 may.0.1 may.1.1 may.3 may.4)

replace_event : (w : World) (q : Lawful w) (seat page : ℕ) (w' : World) (a : Played) → Replaces w seat page w' a → Keeps w q w'
replace_event w q seat page w' a (inr t) = same_world w q w' t.1.0
replace_event w q seat page w' a (inl (b, spare, may, inl t)) = subst (Keeps w q) (sym t.1) (replace_keeps_won w q seat b page spare may.0.0 may.0.1 may.1 may.2 may.3 t.0)
replace_event w q seat page w' a (inl (b, spare, may, inr t)) = subst (Keeps w q) (sym t.4)
    (reads w q page t.0 t.1 (λ s x. Keeps w q (world_with w w.heads w.links (set w.books seat (book_after_late_swap b page s x)))) may.2 t.3 (replace_keeps_late w q seat b page may.0.0 may.0.1 may.1 may.2))

pub event_keeps : EventKeeps
event_keeps w q (Look seat page) w' a h = look_event w q seat page w' a h
event_keeps w q (Link seat rec page) w' a h = link_event w q seat rec page w' a h
event_keeps w q (Try seat rec page) w' a h = try_event w q seat rec page w' a h
event_keeps w q (Follow seat rec) w' a h = follow_event w q seat rec w' a h
event_keeps w q (Claim seat) w' a h = claim_event w q seat w' a h
event_keeps w q (Split seat) w' a h = split_event w q seat w' a h
event_keeps w q (Join into other) w' a h = join_event w q into other w' a h
event_keeps w q (Replace seat page) w' a h = replace_event w q seat page w' a h

-- a posted record is in the chain of some page
posted_on : (w : World) (q : Lawful w) (r : ℕ) → 0 < total (λ b. posts_in r b.posted) w.books → (p : ℕ) × (p < length w.first) × (0 < times r (q.fresh p))
posted_on w q r h =
    let t = some_member (λ (b : BookView). posts_in r b.posted) w.books h in let b = t.1 in let u = some_member (λ (x : Post). one_if (eqb x.rec r)) b.posted t.3 in let x = u.1 in
    let page = (AllByRecursion-at _ b.posted u.0 x (q.each t.0 b t.2).posts_page u.2).0 in let n = u.3 in
    let here = and_here x.page x.page (eqb x.rec r) refl in
    let a = total_at (λ (y : Post). one_if ((eqb y.page x.page) && (eqb y.rec r))) b.posted u.0 x u.2 in
    let d = total_at (λ (c : BookView). posts_at x.page r c.posted) w.books t.0 b t.2 in let k = q.placed x.page r page in
    (x.page, page, omega arith)

-- and it stays posted
stays_posted : (w : World) (q : Lawful w) (w' : World) (k : Keeps w q w') (r : ℕ) → 0 < total (λ b. posts_in r b.posted) w.books → 0 < total (λ b. posts_in r b.posted) w'.books
stays_posted w q w' k r h = let t = posted_on w q r h in let p = t.0 in let page = t.1 in let has = t.2 in
    let page' : p < length w'.first = subst (λ z. p < length z) (sym k.1.start_stays.first) page in
    let e = end-times r (q.fresh p) (k.0.fresh p) (k.1.grows p) in let d = k.0.placed p r page' in
    let c = total-le (λ (b : BookView). posts_at p r b.posted) (λ b. posts_in r b.posted) w'.books (λ j x e. posts_at-le p r x.posted) in omega arith

pub keeps_twice : (w : World) (q : Lawful w) (m : World) (k : Keeps w q m) (w' : World) → Keeps m k.0 w' → Keeps w q w'
keeps_twice w q m k w' l = let a = k.1 in let c = l.1 in (
  l.0,
  record {
    grows = λ p. end_trans (q.fresh p) (k.0.fresh p) (l.0.fresh p) (a.grows p) (c.grows p);
    lasts = λ p. or_then (get_or w.first p 0) (q.last p) (k.0.last p) (l.0.last p) (a.lasts p) (subst (λ z. (k.0.last p ≡ get_or z p 0) ⊎ (k.0.last p ≡ l.0.last p)) a.start_stays.first (c.lasts p));
    links_stay = λ r h. c.links_stay r (stays_posted w q m k r h) ∙ a.links_stay r h;
    start_stays = record {
      first = c.start_stays.first ∙ a.start_stays.first;
      floor = c.start_stays.floor ∙ a.start_stays.floor;
      records = c.start_stays.records ∙ a.start_stays.records;
      piece = c.start_stays.piece ∙ a.start_stays.piece;
      spares = c.start_stays.spares ∙ a.start_stays.spares;
    };
  },
)

pub run_keeps : RunKeeps
run_keeps w q [] w' e = same_world w q w' e
run_keeps w q (e ∷ es) w' t = let k = event_keeps w q e t.0 t.1 t.2 in keeps_twice w q t.0 k w' (run_keeps t.0 k.0 es w' t.3)

-- one event more
pub runs-push : (w : World) (es : List Event) (m : World) (e : Event) (w' : World) (a : Played) → Runs w es m → Applies m e w' a → Runs w (es ++ e ∷ []) w'
runs-push w [] m e w' a is h = (w', a, subst (λ z. Applies z e w' a) is h, refl)
runs-push w (d ∷ es) m e w' a t h = (t.0, t.1, t.2, runs-push t.0 es m e w' a t.3 h)

-- what holds of a world at run time stays so
pub world_keeps : (w : World) (i : IsWorld w) (w' : World) → Keeps w i.lawful w' → IsWorld w'
world_keeps w i w' k = let s = k.1.start_stays in record {
  lawful = k.0;
  words_fit = let a = i.words_fit in let f = s.floor in let r = s.records in omega arith;
  piece_fits = let a = i.piece_fits in let p = s.piece in omega arith;
  spare_each_page = ap length s.spares ∙ (i.spare_each_page ∙ sym (ap length s.first));
}

blank : (n p : ℕ) → get_or (replicate n (let e : List ℕ = [] in e)) p [] ≡ []
blank zero p = refl
blank (suc n) zero = refl
blank (suc n) (suc p) = blank n p

none_below : (r records : ℕ) → one_if (ltb r (min 0 records)) ≡ 0
none_below r records = let e : min 0 records ≡ 0 = omega arith in ap (λ z. one_if (ltb r z)) e ∙ grind (arith, nat_tests)

only : (i : ℕ) (b c : BookView) → get_elem? (b ∷ []) i ≡ some c → b ≡ c
only zero b c e = some-injective b c e
only (suc i) b c e = absurd (some-ne-none c (sym e))

pub start_is_lawful : StartIsLawful
start_is_lawful first floor records piece spares can = let b : BookView = first_book first in let w : World = start_world first floor records piece spares in let none_yet : ℕ → List ℕ = λ _. [] in
    build w none_yet (λ p. get_or first p 0) refl (length-replicate records 0) can.first_low can.spare_low (λ p h. refl) (λ p h. inl refl) (λ p h. sym (late_first (get_or first p 0) (get_or first p 0) refl)) (λ p r h. refl)
    record {
      some_piece = can.some_piece;
      owned_is = λ r. sym (none_below r records);
      told_done = λ i c e told. let f : false ≡ true = ap (λ (z : BookView). z.told) (only i b c e) ∙ told in absurd (cc);
      widths = refl;
      stride = (0, omega arith);
      room = omega arith;
    }
    (λ i c e. subst (LawfulBook w none_yet (λ p. get_or first p 0)) (only i b c e) record {
      posts_own = λ r. omega arith;
      posts_page = tt;
      lawful_under = λ u e. let d : None ≡ Some u = e in absurd (cc);
      gone = λ spent. let e : true ≡ false = spent in absurd (cc);
      some_width = λ _. omega arith;
      seen_each_page = λ _. length-replicate (length first) [];
      end_each_page = λ _. refl;
      ends_is = λ p _ h. inl refl;
      seen_end = λ p _ h. subst (λ z. IsEnd z []) (sym (blank (length first) p)) (end_self []);
      seen_own = λ p r _ h. omega arith;
    })

pub start_is_world : (first : List ℕ) (floor records piece : ℕ) (spares : List (Option ℕ)) → CanStart first floor records piece spares → IsWorld (start_world first floor records piece spares)
start_is_world first floor records piece spares can = record { lawful = start_is_lawful first floor records piece spares can; words_fit = can.words_fit; piece_fits = can.piece_fits; spare_each_page = can.spare_each_page }

-- an event that was played, or found no memory
pub played_world : (w w' : World) (e : Event) (r : Result Played Memory) → IsWorld w → IfOk r (λ a. Applies w e w' a) → OnErr r (w' ≡ w) → IsWorld w'
played_world w w' e (Ok a) i h k = world_keeps w i w' (event_keeps w i.lawful e w' a h)
played_world w w' e (Err m) i h k = subst IsWorld (sym k) i

pub played_keeps : (w w' : World) (e : Event) (r : Result Played Memory) → IsWorld w → IfOk r (λ a. Applies w e w' a) → IfOk r (λ _. (q : Lawful w) × Keeps w q w')
played_keeps w w' e (Ok a) i h = (i.lawful, event_keeps w i.lawful e w' a h)
played_keeps w w' e (Err m) i h = tt
