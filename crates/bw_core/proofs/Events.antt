-- Each event keeps the world lawful.
use Rattle.std.proofs.Common.{◌⊎◌, inl, inr, leb, ltb, min, ◌≡◌, ℕ, ◌+◌, ◌<◌, ◌≤◌, ◌≢◌, ⊎_elim, eqb, eq-eqb, ne_eqb, Bool, true, false, cond, ◌&&◌, List, [], ◌∷◌, ◌++◌, length, length-append, length-set, get_or, get_or-set_other, get_or-set_same, set, sym, refl, ap, ◌∙◌, subst, arith, Some, None}
use mathlib.Core.Logic.{dite}
use mathlib.Core.Option.{some}
use native.Mathlib.Decide.{ℕ_discrete, dec_le}
use lib.ListN.{get_elem?}
use Rattle.bw_core.specs.declared.Span.{Span}
use Rattle.bw_core.specs.declared.Post.{Post}
use Rattle.bw_core.specs.declared.Under.{Under}
use Rattle.bw_core.specs.declared.BookView.{BookView}
use Rattle.bw_core.specs.declared.Swap.{Swap}
use Rattle.std.specs.List.{AllByRecursion}
use Rattle.bw_core.specs.World.{SameStart, end_at, spare_at, wins_in, late, Keeps, World, Claimed, one_if, total, times, owns, posts_in, posts_at, seen_at, top, Meets, IsEnd, beneath, LawfulUnder, LawfulBook, Lawful}
use Rattle.bw_core.specs.Events.{swap, book_after_swap, book_after_late_swap, book_after_claim, book_without_pieces, span, world_with, under, post, book_after_look, book_after_link, book_after_win, book_after_loss}
use Rattle.bw_core.proofs.Claims.{claimed_same, claimed_low, claim_takes, claim_tells}
use Rattle.bw_core.proofs.Lists.{one_small, at_set, one_same, one_other, total-append, total_set, total-le, total-le_at, total_at, total_two, AllByRecursion-append, AllByRecursion-like, end_trans, end_self, end-length, end-times, beneath_more, meets_top, meets_set, same_top, late_first, late_other, late_within}

module _ {A : Type 0} where
  -- f with s at p
  abbrev pub put : (ℕ → A) → ℕ → A → ℕ → A
  put f p s k = cond (eqb k p) s (f k)

  put_case : (f : ℕ → A) (p : ℕ) (s : A) (k : ℕ) (P : A → Type 0) → (k ≡ p → P s) → (k ≢ p → P (f k)) → P (put f p s k)
  put_case f p s k P here there = dite (ℕ_discrete k p) (λ e. subst (λ b. P (cond b s (f k))) (sym (eq-eqb k p e)) (here e)) (λ n. subst (λ b. P (cond b s (f k))) (sym (ne_eqb k p n)) (there n))

  seen_case : (l : List A) (p : ℕ) (s d : A) (k : ℕ) (P : A → Type 0) → p < length l → (k ≡ p → P s) → (k ≢ p → P (get_or l k d)) → P (get_or (set l p s) k d)
  seen_case l p s d k P within here there = dite (ℕ_discrete k p) (λ e. subst P (sym (ap (λ z. get_or (set l p s) z d) e ∙ get_or-set_same l p s d within)) (here e))
      (λ n. subst P (sym (get_or-set_other l p k s d n)) (there n))

pub posts_at-le : (p r : ℕ) (ps : List Post) → posts_at p r ps ≤ posts_in r ps
posts_at-le p r [] = omega arith
posts_at-le p r (x ∷ xs) = let h = posts_at-le p r xs in
    let k : one_if (eqb x.page p && eqb x.rec r) ≤ one_if (eqb x.rec r) = elim (eqb x.page p) as (λ a. one_if (a && eqb x.rec r) ≤ one_if (eqb x.rec r)) [ true ↦ omega arith | false ↦ omega arith ] in omega arith

-- a book's part of the rule, from the rest
pub build : (w : World) (f : ℕ → List ℕ) (l : ℕ → ℕ) → length w.heads ≡ length w.first → length w.links ≡ w.records → ((p : ℕ) → p < length w.first → get_or w.first p 0 < w.floor)
    → ((p x : ℕ) → spare_at w p ≡ Some x → (x < w.floor) × (x ≢ get_or w.first p 0))
    → ((p : ℕ) → p < length w.first → Meets w.floor w.links (get_or w.heads p 0) (f p) (l p))
    → ((p : ℕ) → p < length w.first → (l p ≡ get_or w.first p 0) ⊎ (spare_at w p ≡ Some (l p)))
    → ((p : ℕ) → p < length w.first → total (λ b. wins_in p b.swaps) w.books ≡ late (get_or w.first p 0) (l p))
    → ((p r : ℕ) → p < length w.first → times r (f p) ≡ total (λ b. posts_at p r b.posted) w.books)
    → Claimed w.piece w.records w.next w.books → ((i : ℕ) (b : BookView) → get_elem? w.books i ≡ some b → LawfulBook w f l b) → Lawful w
build w f l hw lw low spare_low met last_is swapped placed claims each =
    let o1 : (r : ℕ) → total (owns r) w.books ≤ 1 = λ r. let k = claims.owned_is r in let s = one_small (ltb r (min w.next w.records)) in omega arith in
    let few_posts : (r : ℕ) → total (λ b. posts_in r b.posted) w.books ≤ 1 = λ r. let a = o1 r in let k = total-le (λ b. posts_in r b.posted) (owns r) w.books (λ j c e. (each j c e).posts_own r) in omega arith in
    record {
      fresh = f;
      last = l;
      head_each_page = hw;
      link_each_record = lw;
      low = low;
      spare_low = spare_low;
      met = met;
      last_is = last_is;
      swapped = swapped;
      once = λ p r h. let a = placed p r h in let b = few_posts r in let c = total-le (λ b. posts_at p r b.posted) (λ b. posts_in r b.posted) w.books (λ j x e. posts_at-le p r x.posted) in omega arith;
      placed = placed;
      posted_once = few_posts;
      owned_once = o1;
      owned_low = λ r h. claimed_low w.piece w.records w.next w.books r claims h;
      claims = claims;
      each = each;
    }

-- chains f over the words l became chains g over the words k
abbrev pub Grows : List ℕ → (ℕ → List ℕ) → (ℕ → ℕ) → (ℕ → List ℕ) → (ℕ → ℕ) → Type 0
Grows first f l g k = (p : ℕ) → IsEnd (f p) (g p) × ((l p ≡ get_or first p 0) ⊎ (l p ≡ k p))

-- worlds that differ in what events change
pub start_same : {w : World} {n : ℕ} {hs ls : List ℕ} {bs : List BookView} → SameStart w (record w { next = n; heads = hs; links = ls; books = bs })
start_same = record { first = refl; floor = refl; records = refl; piece = refl; spares = refl }

-- the same after an event
pub build_on : (w : World) (q : Lawful w) (w' : World) (f : ℕ → List ℕ) (l : ℕ → ℕ) → SameStart w w' → Grows w.first q.fresh q.last f l
    → ((r : ℕ) → 0 < total (λ (x : BookView). posts_in r x.posted) w.books → get_or w'.links r 0 ≡ get_or w.links r 0)
    → length w'.heads ≡ length w'.first → length w'.links ≡ w'.records → ((p : ℕ) → p < length w'.first → get_or w'.first p 0 < w'.floor)
    → ((p x : ℕ) → spare_at w' p ≡ Some x → (x < w'.floor) × (x ≢ get_or w'.first p 0))
    → ((p : ℕ) → p < length w'.first → Meets w'.floor w'.links (get_or w'.heads p 0) (f p) (l p))
    → ((p : ℕ) → p < length w'.first → (l p ≡ get_or w'.first p 0) ⊎ (spare_at w' p ≡ Some (l p)))
    → ((p : ℕ) → p < length w'.first → total (λ b. wins_in p b.swaps) w'.books ≡ late (get_or w'.first p 0) (l p))
    → ((p r : ℕ) → p < length w'.first → times r (f p) ≡ total (λ b. posts_at p r b.posted) w'.books)
    → Claimed w'.piece w'.records w'.next w'.books → ((i : ℕ) (b : BookView) → get_elem? w'.books i ≡ some b → LawfulBook w' f l b) → Keeps w q w'
unfolding build
build_on w q w' f l same grows stay hw lw low spare_low met last_is swapped placed claims each =
    (build w' f l hw lw low spare_low met last_is swapped placed claims each, record { grows = λ p. (grows p).0; lasts = λ p. (grows p).1; links_stay = stay; start_stays = same })

end-beneath : (r : ℕ) (a b : List ℕ) → IsEnd a b → beneath r a ≤ beneath r b
end-beneath r a b (f, e) = subst (λ z. beneath r a ≤ beneath r z) (sym e) (beneath_more r f a)

-- first or y, and y is first or z
pub or_then : (first x y z : ℕ) → (x ≡ first) ⊎ (x ≡ y) → (y ≡ first) ⊎ (y ≡ z) → (x ≡ first) ⊎ (x ≡ z)
or_then first x y z (inl e) h = inl e
or_then first x y z (inr e) (inl h) = inl (e ∙ h)
or_then first x y z (inr e) (inr h) = inr (e ∙ h)

-- a book that takes no part in an event
pub book_keeps : (w : World) (hs ls : List ℕ) (bs : List BookView) (f : ℕ → List ℕ) (l : ℕ → ℕ) (g : ℕ → List ℕ) (k : ℕ → ℕ) (b : BookView) → Grows w.first f l g k
    → ((u : Under) → b.under ≡ Some u → u.armed ≡ true → get_or ls u.rec 0 ≡ get_or w.links u.rec 0) → LawfulBook w f l b → LawfulBook (world_with w hs ls bs) g k b
book_keeps w hs ls bs f l g k b grows same ok = record {
  posts_own = ok.posts_own;
  posts_page = AllByRecursion-like _ _ b.posted (λ x h. (h.0, let a = end-beneath x.rec (f x.page) (g x.page) (grows x.page).0 in let c = late_within (get_or w.first x.page 0) (l x.page) (k x.page) (grows x.page).1 in let m = h.1 in omega arith)) ok.posts_page;
  lawful_under = λ u is. let k = ok.lawful_under u is in record {
    on_page = k.on_page;
    own = k.own;
    unposted = k.unposted;
    few = k.few;
    armed = λ a. let m = k.armed a in record { end = m.end; last = m.last; is_end = m.is_end; last_is = m.last_is; linked = same u is a ∙ m.linked; few = m.few };
  };
  gone = ok.gone;
  some_width = ok.some_width;
  seen_each_page = ok.seen_each_page;
  end_each_page = ok.end_each_page;
  ends_is = λ p a h. or_then (get_or w.first p 0) (end_at b p) (l p) (k p) (ok.ends_is p a h) (grows p).1;
  seen_end = λ p a h. end_trans (seen_at b p) (f p) (g p) (ok.seen_end p a h) (grows p).0;
  seen_own = ok.seen_own;
}

-- a book that has seen more
pub book_sees : (w : World) (f : ℕ → List ℕ) (l : ℕ → ℕ) (b : BookView) (s : List (List ℕ)) (es : List ℕ) → b.live ≡ true → length s ≡ length b.seen → length es ≡ length b.ends
    → ((p : ℕ) → p < length w.first → IsEnd (seen_at b p) (get_or s p []) × IsEnd (get_or s p []) (f p))
    → ((p : ℕ) → p < length w.first → ((end_at b p ≡ get_or w.first p 0) ⊎ (end_at b p ≡ get_or es p 0)) × ((get_or es p 0 ≡ get_or w.first p 0) ⊎ (get_or es p 0 ≡ l p)))
    → LawfulBook w f l b → LawfulBook w f l (record b { seen = s; ends = es })
book_sees w f l b s es live wide wide' more more' ok = record {
  posts_own = ok.posts_own;
  posts_page = ok.posts_page;
  lawful_under = λ u is. let k = ok.lawful_under u is in let e = (more u.page k.on_page).0 in let e' = (more' u.page k.on_page).0 in let first : ℕ = get_or w.first u.page 0 in record {
    on_page = k.on_page;
    own = k.own;
    unposted = k.unposted;
    few = let n = end-length (seen_at b u.page) (get_or s u.page []) e in let c = late_within first (end_at b u.page) (get_or es u.page 0) e' in let m = k.few in omega arith;
    armed = λ a. let m = k.armed a in record {
      end = m.end;
      last = m.last;
      is_end = end_trans m.end (seen_at b u.page) (get_or s u.page []) m.is_end e;
      last_is = or_then first m.last (end_at b u.page) (get_or es u.page 0) m.last_is e';
      linked = m.linked;
      few = m.few;
    };
  };
  gone = λ spent. let e : true ≡ false = sym live ∙ spent in absurd (cc);
  some_width = ok.some_width;
  seen_each_page = λ l. wide ∙ ok.seen_each_page l;
  end_each_page = λ l. wide' ∙ ok.end_each_page l;
  ends_is = λ p l h. (more' p h).1;
  seen_end = λ p l h. (more p h).1;
  seen_own = λ p r l h. let a = ok.seen_own p r l h in let k = end-times r (seen_at b p) (get_or s p []) (more p h).0 in omega arith;
}

-- an event of one book
pub one_book : (w : World) (q : Lawful w) (i : ℕ) (b c : BookView) (hs ls : List ℕ) (f : ℕ → List ℕ) (l : ℕ → ℕ) → get_elem? w.books i ≡ some b → length hs ≡ length w.heads → length ls ≡ length w.links
    → ((p : ℕ) → p < length w.first → Meets w.floor ls (get_or hs p 0) (f p) (l p))
    → ((p : ℕ) → p < length w.first → (l p ≡ get_or w.first p 0) ⊎ (spare_at w p ≡ Some (l p)))
    → ((p : ℕ) → p < length w.first → late (get_or w.first p 0) (l p) + wins_in p b.swaps ≡ late (get_or w.first p 0) (q.last p) + wins_in p c.swaps)
    → ((p r : ℕ) → p < length w.first → times r (f p) + posts_at p r b.posted ≡ times r (q.fresh p) + posts_at p r c.posted)
    → ((r : ℕ) → owns r c ≡ owns r b) → c.width ≡ b.width → c.told ≡ b.told → Grows w.first q.fresh q.last f l
    → ((j : ℕ) (d : BookView) → j ≢ i → get_elem? w.books j ≡ some d → (u : Under) → d.under ≡ Some u → u.armed ≡ true → get_or ls u.rec 0 ≡ get_or w.links u.rec 0)
    → ((r : ℕ) → 0 < total (λ (x : BookView). posts_in r x.posted) w.books → get_or ls r 0 ≡ get_or w.links r 0)
    → LawfulBook (world_with w hs ls (set w.books i c)) f l c → Keeps w q (world_with w hs ls (set w.books i c))
one_book w q i b c hs ls f l at hw lw met last_is swapped placed owned width told grows others stay mine =
    build_on w q (world_with w hs ls (set w.books i c)) f l start_same grows stay (hw ∙ q.head_each_page) (lw ∙ q.link_each_record) q.low q.spare_low met last_is
    (λ p h. let a = swapped p h in let k = q.swapped p h in let t = total_set (λ (x : BookView). wins_in p x.swaps) w.books i b c at in omega arith)
    (λ p r h. let a = placed p r h in let k = q.placed p r h in let t = total_set (λ (x : BookView). posts_at p r x.posted) w.books i b c at in omega arith)
    (claimed_same w.piece w.records w.next w.books i b c q.claims at owned width told)
    (λ j d e. ⊎_elim (λ (t : (j ≡ i) × (c ≡ d)). subst (LawfulBook (world_with w hs ls (set w.books i c)) f l) t.1 mine)
    (λ (t : (j ≢ i) × (get_elem? w.books j ≡ some d)). book_keeps w hs ls (set w.books i c) q.fresh q.last f l d grows (others j d t.0 t.1) (q.each j d t.1)) (at_set w.books i j c d e))

pub stays : (first : List ℕ) (f : ℕ → List ℕ) (l : ℕ → ℕ) → Grows first f l f l
stays first f l p = (end_self (f p), inr refl)

-- a seat that sees a page's whole chain
pub sees_all : (w : World) (q : Lawful w) (i : ℕ) (b : BookView) (p : ℕ) → get_elem? w.books i ≡ some b → b.live ≡ true → p < length w.first → LawfulBook w q.fresh q.last (book_after_look b p (q.fresh p) (q.last p))
sees_all w q i b p at live within = let ok = q.each i b at in let width = ok.seen_each_page live in let width' = ok.end_each_page live in
    let inside : p < length b.seen = omega arith in let inside' : p < length b.ends = omega arith in
    book_sees w q.fresh q.last b (set b.seen p (q.fresh p)) (set b.ends p (q.last p)) live (length-set b.seen p (q.fresh p)) (length-set b.ends p (q.last p))
    (λ k h. seen_case b.seen p (q.fresh p) [] k (λ s. IsEnd (seen_at b k) s × IsEnd s (q.fresh k)) inside
    (λ e. (subst (λ z. IsEnd (seen_at b k) (q.fresh z)) e (ok.seen_end k live h), subst (λ z. IsEnd (q.fresh z) (q.fresh k)) e (end_self (q.fresh k))))
    (λ n. (end_self (seen_at b k), ok.seen_end k live h)))
    (λ k h. seen_case b.ends p (q.last p) 0 k (λ x. ((end_at b k ≡ get_or w.first k 0) ⊎ (end_at b k ≡ x)) × ((x ≡ get_or w.first k 0) ⊎ (x ≡ q.last k))) inside'
    (λ e. (subst (λ z. (end_at b k ≡ get_or w.first k 0) ⊎ (end_at b k ≡ q.last z)) e (ok.ends_is k live h), inr (sym (ap q.last e))))
    (λ n. (inr refl, ok.ends_is k live h))) ok

pub look_keeps : (w : World) (q : Lawful w) (i : ℕ) (b : BookView) (p : ℕ) → get_elem? w.books i ≡ some b → b.live ≡ true → p < length w.first
    → Keeps w q (world_with w w.heads w.links (set w.books i (book_after_look b p (q.fresh p) (q.last p))))
look_keeps w q i b p at live within = let c : BookView = book_after_look b p (q.fresh p) (q.last p) in
    one_book w q i b c w.heads w.links q.fresh q.last at refl refl q.met q.last_is (λ k h. refl) (λ k r h. refl) (λ r. refl) refl refl (stays w.first q.fresh q.last) (λ j d n e u is a. refl) (λ r h. refl)
    (book_keeps w w.heads w.links (set w.books i c) q.fresh q.last q.fresh q.last c (stays w.first q.fresh q.last) (λ u is a. refl) (sees_all w q i b p at live within))

-- a record that a book owns and has not posted is in no chain, and no other book has it under way
pub unposted : (w : World) (q : Lawful w) (i : ℕ) (b : BookView) (r : ℕ) → get_elem? w.books i ≡ some b → 0 < owns r b → posts_in r b.posted ≡ 0 → total (λ c. posts_in r c.posted) w.books ≡ 0
unposted w q i b r at own none = let t = total-le_at (λ (c : BookView). posts_in r c.posted) (owns r) w.books i b at (λ j c e. (q.each j c e).posts_own r) in let o = q.owned_once r in omega arith

pub absent : (w : World) (q : Lawful w) (i : ℕ) (b : BookView) (r p : ℕ) → get_elem? w.books i ≡ some b → 0 < owns r b → posts_in r b.posted ≡ 0 → p < length w.first → times r (q.fresh p) ≡ 0
absent w q i b r p at own none h = let t = unposted w q i b r at own none in let k = q.placed p r h in
    let c = total-le (λ (b : BookView). posts_at p r b.posted) (λ b. posts_in r b.posted) w.books (λ j x e. posts_at-le p r x.posted) in omega arith

pub is_record : (w : World) (q : Lawful w) (i : ℕ) (b : BookView) (r : ℕ) → get_elem? w.books i ≡ some b → 0 < owns r b → r < w.records
is_record w q i b r at own = let t = total_at (owns r) w.books i b at in elim (dec_le w.records r) [ yes d ↦ (let z = q.owned_low r d in absurd (omega arith)) | no n ↦ omega arith ]

pub apart : (w : World) (q : Lawful w) (i j : ℕ) (b d : BookView) (r : ℕ) → get_elem? w.books i ≡ some b → get_elem? w.books j ≡ some d → j ≢ i → 0 < owns r b → (u : Under) → d.under ≡ Some u → u.rec ≢ r
apart w q i j b d r at there n own u is e = let k : 0 < owns r d = subst (λ z. 0 < owns z d) e ((q.each j d there).lawful_under u is).own in
    let t = total_two (owns r) w.books i j b d n at there in let o = q.owned_once r in absurd (omega arith)

pub live_under : (w : World) (f : ℕ → List ℕ) (l : ℕ → ℕ) (b : BookView) → LawfulBook w f l b → (u : Under) → b.under ≡ Some u → b.live ≡ true
live_under w f l b ok u is = live_or b.live refl
  where
    live_or : (l : Bool) → b.live ≡ l → b.live ≡ true
    live_or true e = e
    live_or false e = let d : Some u ≡ None = sym is ∙ ap (λ (z : BookView). z.under) (ok.gone e) in absurd (cc)

pub link_keeps : (w : World) (q : Lawful w) (i : ℕ) (b : BookView) (r p lost : ℕ) → get_elem? w.books i ≡ some b → b.live ≡ true → p < length w.first → 0 < owns r b → posts_in r b.posted ≡ 0
    → lost ≤ length (seen_at b p) + late (get_or w.first p 0) (end_at b p)
    → Keeps w q (world_with w w.heads (set w.links r (top w.floor (end_at b p) (seen_at b p))) (set w.books i (book_after_link b r p lost)))
link_keeps w q i b r p lost at live within own none short =
    let ok = q.each i b at in let c : BookView = book_after_link b r p lost in let x = top w.floor (end_at b p) (seen_at b p) in
    let ls : List ℕ = set w.links r x in let wide : length ls ≡ length w.links = length-set w.links r x in
    let inside : r < length w.links = let a = is_record w q i b r at own in let n = q.link_each_record in omega arith in
    one_book w q i b c w.heads ls q.fresh q.last at refl wide (λ k h. meets_set w.floor w.links (get_or w.heads k 0) (q.fresh k) (q.last k) r x (absent w q i b r k at own none h) wide (q.met k h))
    q.last_is (λ k h. refl) (λ k z h. refl) (λ z. refl) refl refl (stays w.first q.fresh q.last) (λ j d n e u is a. get_or-set_other w.links r u.rec x 0 (apart w q i j b d r at e n own u is))
    (λ z h. get_or-set_other w.links r z x 0 (λ e. let t = unposted w q i b r at own none in let k : 0 < total (λ (x : BookView). posts_in r x.posted) w.books = subst (λ y. 0 < total (λ (x : BookView). posts_in y x.posted) w.books) e h in absurd (omega arith)))
    record {
      posts_own = ok.posts_own;
      posts_page = ok.posts_page;
      lawful_under = λ u is. subst (LawfulUnder (world_with w w.heads ls (set w.books i c)) c) (some_same (under r p lost true) u is) record {
        on_page = within;
        own = own;
        unposted = none;
        few = short;
        armed = λ _. record { end = seen_at b p; last = end_at b p; is_end = end_self (seen_at b p); last_is = inr refl; linked = get_or-set_same w.links r x 0 inside; few = short };
      };
      gone = λ spent. let e : true ≡ false = sym live ∙ spent in absurd (cc);
      some_width = ok.some_width;
      seen_each_page = ok.seen_each_page;
      end_each_page = ok.end_each_page;
      ends_is = ok.ends_is;
      seen_end = ok.seen_end;
      seen_own = ok.seen_own;
    }
  where
    some_same : (a b : Under) → Some a ≡ Some b → a ≡ b
    some_same a b e = cc

pub end_same : (a b : List ℕ) → IsEnd a b → length b ≤ length a → b ≡ a
end_same a b ([], e) h = e
end_same a b (x ∷ f, e) h = absurd (omega (arith, ap length e, length-append f a))

pub last_low : (w : World) (q : Lawful w) (p : ℕ) → p < length w.first → q.last p < w.floor
last_low w q p h = by (q.last_is p h)
  where
    by : (q.last p ≡ get_or w.first p 0) ⊎ (spare_at w p ≡ Some (q.last p)) → q.last p < w.floor
    by (inl e) = let k = q.low p h in omega arith
    by (inr e) = (q.spare_low p (q.last p) e).0

-- what an armed record's link is
pub armed_in : (w : World) (q : Lawful w) (i : ℕ) (b : BookView) (u : Under) → get_elem? w.books i ≡ some b → b.under ≡ Some u → u.armed ≡ true
    → (end : List ℕ) × (last : ℕ) × IsEnd end (seen_at b u.page) × IsEnd end (q.fresh u.page) × ((last ≡ get_or w.first u.page 0) ⊎ (last ≡ q.last u.page)) × (get_or w.links u.rec 0 ≡ top w.floor last end)
    × (u.lost ≤ length end + late (get_or w.first u.page 0) last) × (last < w.floor)
armed_in w q i b u at is armed = let ok = q.each i b at in let k = ok.lawful_under u is in let m = k.armed armed in let h = k.on_page in let live = live_under w q.fresh q.last b ok u is in
    let or : (m.last ≡ get_or w.first u.page 0) ⊎ (m.last ≡ q.last u.page) = or_then (get_or w.first u.page 0) m.last (end_at b u.page) (q.last u.page) m.last_is (ok.ends_is u.page live h) in (
      m.end,
      m.last,
      m.is_end,
      end_trans m.end (seen_at b u.page) (q.fresh u.page) m.is_end (ok.seen_end u.page live h),
      or,
      m.linked,
      m.few,
      ⊎_elim (λ e. let a = q.low u.page h in omega arith) (λ e. let a = last_low w q u.page h in omega arith) or,
    )

-- where the head is an armed record's link, the whole chain was seen
pub whole_seen : (w : World) (q : Lawful w) (i : ℕ) (b : BookView) (u : Under) → get_elem? w.books i ≡ some b → b.under ≡ Some u → u.armed ≡ true → get_or w.heads u.page 0 ≡ get_or w.links u.rec 0
    → (seen_at b u.page ≡ q.fresh u.page) × (u.lost ≤ length (q.fresh u.page) + late (get_or w.first u.page 0) (q.last u.page))
whole_seen w q i b u at is armed hit = let ok = q.each i b at in let k = ok.lawful_under u is in let h = k.on_page in
    let live = live_under w q.fresh q.last b ok u is in let m = armed_in w q i b u at is armed in let end = m.0 in let last = m.1 in
    let t : top w.floor (q.last u.page) (q.fresh u.page) ≡ top w.floor last end
    = sym (meets_top w.floor w.links (get_or w.heads u.page 0) (q.fresh u.page) (q.last u.page) (q.met u.page h)) ∙ (hit ∙ m.5) in
    let e : q.fresh u.page ≡ end = same_top w.floor (q.last u.page) last (q.fresh u.page) end (last_low w q u.page h) m.7 (λ r. q.once u.page r h) m.3 t in
    let n : length (q.fresh u.page) ≡ length end = ap length e in let s = end-length end (seen_at b u.page) m.2 in let few = m.6 in
    let over = late_within (get_or w.first u.page 0) last (q.last u.page) m.4 in
    (sym (end_same (seen_at b u.page) (q.fresh u.page) (ok.seen_end u.page live h) (omega arith)), omega arith)

-- where it is not, the chain is longer than the record has lost
pub longer : (w : World) (q : Lawful w) (i : ℕ) (b : BookView) (u : Under) → get_elem? w.books i ≡ some b → b.under ≡ Some u → u.armed ≡ true → get_or w.heads u.page 0 ≢ get_or w.links u.rec 0
    → u.lost + 1 ≤ length (q.fresh u.page) + late (get_or w.first u.page 0) (q.last u.page)
longer w q i b u at is armed miss = let h = ((q.each i b at).lawful_under u is).on_page in let m = armed_in w q i b u at is armed in let end = m.0 in let last = m.1 in
    let first : ℕ = get_or w.first u.page 0 in let few = m.6 in let over = late_within first last (q.last u.page) m.4 in
    elim (dec_le (length (q.fresh u.page)) (length end)) [
      | yes d ↦ (let e = end_same end (q.fresh u.page) m.3 d in let n : length (q.fresh u.page) ≡ length end = ap length e in dite (ℕ_discrete last (q.last u.page))
          (λ same. let t : get_or w.heads u.page 0 ≡ get_or w.links u.rec 0 = meets_top w.floor w.links (get_or w.heads u.page 0) (q.fresh u.page) (q.last u.page) (q.met u.page h)
          ∙ ((λ j. top w.floor (sym same j) (e j)) ∙ sym m.5) in absurd (miss t))
          (λ other. ⊎_elim (λ (f : last ≡ first). let a = late_first first last f in let b = late_other first (q.last u.page) (λ z. other (f ∙ sym z)) in omega arith) (λ (f : last ≡ q.last u.page). absurd (other f)) m.4))
      | no n ↦ omega arith
    ]

some_same : (a b : Under) → Some a ≡ Some b → a ≡ b
some_same a b e = cc

pub lose_keeps : (w : World) (q : Lawful w) (i : ℕ) (b : BookView) (r p lost : ℕ) → get_elem? w.books i ≡ some b → b.under ≡ Some (under r p lost true) → get_or w.heads p 0 ≢ get_or w.links r 0
    → Keeps w q (world_with w w.heads w.links (set w.books i (book_after_loss b r p lost (q.fresh p) (q.last p))))
lose_keeps w q i b r p lost at is miss =
    let ok = q.each i b at in let k = ok.lawful_under (under r p lost true) is in let live = live_under w q.fresh q.last b ok (under r p lost true) is in
    let s = q.fresh p in let c : BookView = book_after_loss b r p lost s (q.last p) in let width = ok.seen_each_page live in let width' = ok.end_each_page live in let within : p < length w.first = k.on_page in
    let inside : p < length b.seen = omega arith in let inside' : p < length b.ends = omega arith in
    let few : lost + 1 ≤ length (q.fresh p) + late (get_or w.first p 0) (q.last p) = longer w q i b (under r p lost true) at is refl miss in
    let seen = sees_all w q i b p at live within in
    one_book w q i b c w.heads w.links q.fresh q.last at refl refl q.met q.last_is (λ k h. refl) (λ k r h. refl) (λ r. refl) refl refl (stays w.first q.fresh q.last) (λ j d n e u is a. refl) (λ r h. refl)
    record {
      posts_own = ok.posts_own;
      posts_page = ok.posts_page;
      lawful_under = λ u is. subst (LawfulUnder (world_with w w.heads w.links (set w.books i c)) c) (some_same (under r p (lost + 1) false) u is) record {
        on_page = within;
        own = k.own;
        unposted = k.unposted;
        few = subst (λ (z : List ℕ × ℕ). lost + 1 ≤ length z.0 + late (get_or w.first p 0) z.1) (λ j. (sym (get_or-set_same b.seen p s [] inside) j, sym (get_or-set_same b.ends p (q.last p) 0 inside') j)) few;
        armed = λ a. let e : false ≡ true = a in absurd (cc);
      };
      gone = λ spent. let e : true ≡ false = sym live ∙ spent in absurd (cc);
      some_width = ok.some_width;
      seen_each_page = seen.seen_each_page;
      end_each_page = seen.end_each_page;
      ends_is = seen.ends_is;
      seen_end = seen.seen_end;
      seen_own = seen.seen_own;
    }

posts_at-push : (k z r p lost : ℕ) (ps : List Post) → posts_at k z (ps ++ post r p lost ∷ []) ≡ posts_at k z ps + one_if (eqb p k && eqb r z)
posts_at-push k z r p lost ps = omega (arith, total-append (λ (x : Post). one_if (eqb x.page k && eqb x.rec z)) ps (post r p lost ∷ []))

pub posts_in-push : (z r p lost : ℕ) (ps : List Post) → posts_in z (ps ++ post r p lost ∷ []) ≡ posts_in z ps + one_if (eqb r z)
posts_in-push z r p lost ps = omega (arith, total-append (λ (x : Post). one_if (eqb x.rec z)) ps (post r p lost ∷ []))

pub and_here : (p k : ℕ) (b : Bool) → p ≡ k → one_if (eqb p k && b) ≡ one_if b
and_here p k b e = ap (λ z. one_if (z && b)) (eq-eqb p k e)

and_there : (p k : ℕ) (b : Bool) → p ≢ k → one_if (eqb p k && b) ≡ 0
and_there p k b n = ap (λ z. one_if (z && b)) (ne_eqb p k n)

pub win_keeps : (w : World) (q : Lawful w) (i : ℕ) (b : BookView) (r p lost : ℕ) → get_elem? w.books i ≡ some b → b.under ≡ Some (under r p lost true) → get_or w.heads p 0 ≡ get_or w.links r 0
    → Keeps w q (world_with w (set w.heads p (w.floor + r)) w.links (set w.books i (book_after_win b r p lost)))
win_keeps w q i b r p lost at is hit =
    let u : Under = under r p lost true in
    let ok = q.each i b at in let k = ok.lawful_under u is in let live = live_under w q.fresh q.last b ok u is in let own : 0 < owns r b = k.own in let none : posts_in r b.posted ≡ 0 = k.unposted in
    let c : BookView = book_after_win b r p lost in let width = ok.seen_each_page live in let within : p < length w.first = k.on_page in
    let inside : p < length b.seen = omega arith in let whole = whole_seen w q i b u at is refl hit in
    let same : seen_at b p ≡ q.fresh p = whole.0 in let few : lost ≤ length (q.fresh p) + late (get_or w.first p 0) (q.last p) = whole.1 in
    let hs : List ℕ = set w.heads p (w.floor + r) in let f : ℕ → List ℕ = put q.fresh p (r ∷ q.fresh p) in
    let room : p < length w.heads = let n = q.head_each_page in omega arith in
    let inside_links : r < length w.links = let a = is_record w q i b r at own in let n = q.link_each_record in omega arith in
    let grows : Grows w.first q.fresh q.last f q.last = λ k. (put_case q.fresh p (r ∷ q.fresh p) k (λ z. IsEnd (q.fresh k) z) (λ e. (r ∷ [], ap (λ z. r ∷ q.fresh z) (sym e))) (λ n. end_self (q.fresh k)), inr refl) in
    one_book w q i b c hs w.links f q.last at (length-set w.heads p (w.floor + r)) refl
    (λ k h. put_case q.fresh p (r ∷ q.fresh p) k (λ z. Meets w.floor w.links (get_or hs k 0) z (q.last k))
    (λ e. (
      ap (λ z. get_or hs z 0) e ∙ get_or-set_same w.heads p (w.floor + r) 0 room,
      inside_links,
      subst (λ z. Meets w.floor w.links (get_or w.links r 0) (q.fresh p) (q.last z)) (sym e) (subst (λ z. Meets w.floor w.links z (q.fresh p) (q.last p)) hit (q.met p within)),
    ))
    (λ n. subst (λ z. Meets w.floor w.links z (q.fresh k) (q.last k)) (sym (get_or-set_other w.heads p k (w.floor + r) 0 n)) (q.met k h)))
    q.last_is (λ k h. refl)
    (λ k z h. put_case q.fresh p (r ∷ q.fresh p) k (λ v. times z v + posts_at k z b.posted ≡ times z (q.fresh k) + posts_at k z (b.posted ++ post r p lost ∷ []))
    (λ e. let a = posts_at-push k z r p lost b.posted in let d = and_here p k (eqb r z) (sym e) in let g : times z (q.fresh k) ≡ times z (q.fresh p) = ap (λ y. times z (q.fresh y)) e in omega arith)
    (λ n. let a = posts_at-push k z r p lost b.posted in let d = and_there p k (eqb r z) (λ e. n (sym e)) in omega arith))
    (λ z. refl) refl refl grows (λ j d n e u is a. refl) (λ r h. refl)
    record {
      posts_own = λ z. let a = posts_in-push z r p lost b.posted in let o = ok.posts_own z in dite (ℕ_discrete r z)
          (λ e. let d = one_same r z e in let n : posts_in z b.posted ≡ 0 = subst (λ y. posts_in y b.posted ≡ 0) e none in let m : 0 < owns z b = subst (λ y. 0 < owns y b) e own in omega arith)
          (λ e. let d = one_other r z e in omega arith);
      posts_page = AllByRecursion-append _ b.posted (post r p lost ∷ []) (AllByRecursion-like _ _ b.posted (λ x h. (h.0, let a = end-beneath x.rec (q.fresh x.page) (f x.page) (grows x.page).0 in let k = h.1 in omega arith)) ok.posts_page)
          ((within, put_case q.fresh p (r ∷ q.fresh p) p (λ z. lost ≤ beneath r z + late (get_or w.first p 0) (q.last p)) (λ e. subst (λ t. lost ≤ cond t (length (q.fresh p)) (beneath r (q.fresh p)) + late (get_or w.first p 0) (q.last p)) (sym (eq-eqb r r refl)) few) (λ n. absurd (n refl))), tt);
      lawful_under = λ u e. let d : None ≡ Some u = e in absurd (cc);
      gone = λ spent. let e : true ≡ false = sym live ∙ spent in absurd (cc);
      some_width = ok.some_width;
      seen_each_page = λ l. length-set b.seen p (r ∷ seen_at b p) ∙ width;
      end_each_page = ok.end_each_page;
      ends_is = ok.ends_is;
      seen_end = λ k l h. seen_case b.seen p (r ∷ seen_at b p) [] k (λ z. IsEnd z (f k)) inside
          (λ e. put_case q.fresh p (r ∷ q.fresh p) k (λ z. IsEnd (r ∷ seen_at b p) z) (λ e. ([], ap (λ z. r ∷ z) (sym same))) (λ n. absurd (n e)))
          (λ n. end_trans (seen_at b k) (q.fresh k) (f k) (ok.seen_end k live h) (grows k).0);
      seen_own = λ k z l h. let a = posts_at-push k z r p lost b.posted in let o = ok.seen_own k z live h in seen_case b.seen p (r ∷ seen_at b p) [] k (λ v. posts_at k z (b.posted ++ post r p lost ∷ []) ≤ times z v) inside
          (λ e. let d = and_here p k (eqb r z) (sym e) in let g : times z (seen_at b k) ≡ times z (seen_at b p) = ap (λ y. times z (seen_at b y)) e in omega arith)
          (λ n. let d = and_there p k (eqb r z) (λ e. n (sym e)) in omega arith);
    }

wins_in-push : (k p : ℕ) (won : Bool) (ss : List Swap) → wins_in k (ss ++ swap p won ∷ []) ≡ wins_in k ss + one_if (eqb p k && won)
wins_in-push k p won ss = omega (arith, total-append (λ (x : Swap). one_if (eqb x.page k && x.won)) ss (swap p won ∷ []))

and_false : (t : Bool) → one_if (t && false) ≡ 0
and_false true = refl
and_false false = refl

pub replace_keeps_late : (w : World) (q : Lawful w) (i : ℕ) (b : BookView) (p : ℕ) → get_elem? w.books i ≡ some b → b.live ≡ true → b.under ≡ None → p < length w.first
    → Keeps w q (world_with w w.heads w.links (set w.books i (book_after_late_swap b p (q.fresh p) (q.last p))))
replace_keeps_late w q i b p at live idle within = let ok = q.each i b at in let c : BookView = book_after_late_swap b p (q.fresh p) (q.last p) in let seen = sees_all w q i b p at live within in
    one_book w q i b c w.heads w.links q.fresh q.last at refl refl q.met q.last_is (λ k h. let a = wins_in-push k p false b.swaps in let n = and_false (eqb p k) in omega arith)
    (λ k r h. refl) (λ r. refl) refl refl (stays w.first q.fresh q.last) (λ j d n e u is a. refl) (λ r h. refl)
    record {
      posts_own = ok.posts_own;
      posts_page = ok.posts_page;
      lawful_under = λ u is. let e : None ≡ Some u = sym idle ∙ is in absurd (cc);
      gone = λ spent. let e : true ≡ false = sym live ∙ spent in absurd (cc);
      some_width = ok.some_width;
      seen_each_page = seen.seen_each_page;
      end_each_page = seen.end_each_page;
      ends_is = seen.ends_is;
      seen_end = seen.seen_end;
      seen_own = seen.seen_own;
    }

-- a head that is no longer the first word has a new record, or is the spare
pub saw_more : (w : World) (q : Lawful w) (p : ℕ) → p < length w.first → get_or w.heads p 0 ≢ get_or w.first p 0 → (0 < length (q.fresh p)) ⊎ (spare_at w p ≡ Some (q.last p))
saw_more w q p h miss = by (q.fresh p) (q.met p h) (q.last_is p h)
  where
    by : (rs : List ℕ) → Meets w.floor w.links (get_or w.heads p 0) rs (q.last p) → (q.last p ≡ get_or w.first p 0) ⊎ (spare_at w p ≡ Some (q.last p)) → (0 < length rs) ⊎ (spare_at w p ≡ Some (q.last p))
    by (r ∷ rs) m or = inl (omega arith)
    by [] m (inl e) = absurd (miss (m ∙ e))
    by [] m (inr e) = inr e

-- a head below the floor ends its chain at once
pub nothing_new : (fl : ℕ) (links : List ℕ) (word : ℕ) (rs : List ℕ) (last : ℕ) → word < fl → Meets fl links word rs last → (rs ≡ []) × (word ≡ last)
nothing_new fl links word [] last low m = (refl, m)
nothing_new fl links word (r ∷ rs) last low m = let e = m.0 in absurd (omega arith)

pub replace_keeps_won : (w : World) (q : Lawful w) (i : ℕ) (b : BookView) (p x : ℕ) → get_elem? w.books i ≡ some b → b.live ≡ true → b.under ≡ None → p < length w.first → spare_at w p ≡ Some x
    → get_or w.heads p 0 ≡ get_or w.first p 0 → Keeps w q (world_with w (set w.heads p x) w.links (set w.books i (book_after_swap b p x)))
replace_keeps_won w q i b p x at live idle within spare hit =
    let ok = q.each i b at in let c : BookView = book_after_swap b p x in let hs : List ℕ = set w.heads p x in let l : ℕ → ℕ = put q.last p x in
    let low = q.low p within in let none_new = nothing_new w.floor w.links (get_or w.heads p 0) (q.fresh p) (q.last p) (omega arith) (q.met p within) in
    let was : q.last p ≡ get_or w.first p 0 = sym none_new.1 ∙ hit in
    let room : p < length w.heads = let n = q.head_each_page in omega arith in let wide = ok.end_each_page live in let inside : p < length b.ends = omega arith in
    let grows : Grows w.first q.fresh q.last q.fresh l = λ k. (end_self (q.fresh k), put_case q.last p x k (λ z. (q.last k ≡ get_or w.first k 0) ⊎ (q.last k ≡ z)) (λ e. inl (subst (λ z. q.last z ≡ get_or w.first z 0) (sym e) was)) (λ n. inr refl)) in
    let kept = book_keeps w hs w.links (set w.books i c) q.fresh q.last q.fresh l b grows (λ u is a. refl) ok in
    one_book w q i b c hs w.links q.fresh l at (length-set w.heads p x) refl
    (λ k h. put_case q.last p x k (λ z. Meets w.floor w.links (get_or hs k 0) (q.fresh k) z)
    (λ e. subst (λ (z : ℕ). Meets w.floor w.links (get_or hs z 0) (q.fresh z) x) (sym e) (subst (λ (z : List ℕ). Meets w.floor w.links (get_or hs p 0) z x) (sym none_new.0) (get_or-set_same w.heads p x 0 room)))
    (λ n. subst (λ z. Meets w.floor w.links z (q.fresh k) (q.last k)) (sym (get_or-set_other w.heads p k x 0 n)) (q.met k h)))
    (λ k h. put_case q.last p x k (λ z. (z ≡ get_or w.first k 0) ⊎ (spare_at w k ≡ Some z)) (λ e. inr (ap (spare_at w) e ∙ spare)) (λ n. q.last_is k h))
    (λ k h. put_case q.last p x k (λ z. late (get_or w.first k 0) z + wins_in k b.swaps ≡ late (get_or w.first k 0) (q.last k) + wins_in k (b.swaps ++ swap p true ∷ []))
    (λ e. let a = wins_in-push k p true b.swaps in let d = and_here p k true (sym e) in let o = late_other (get_or w.first k 0) x (λ y. (q.spare_low p x spare).1 (y ∙ ap (λ z. get_or w.first z 0) e)) in
    let n = late_first (get_or w.first k 0) (q.last k) (subst (λ z. q.last z ≡ get_or w.first z 0) (sym e) was) in omega arith)
    (λ n. let a = wins_in-push k p true b.swaps in let d = and_there p k true (λ e. n (sym e)) in omega arith))
    (λ k r h. refl) (λ r. refl) refl refl grows (λ j d n e u is a. refl) (λ r h. refl)
    record {
      posts_own = kept.posts_own;
      posts_page = kept.posts_page;
      lawful_under = λ u is. let e : None ≡ Some u = sym idle ∙ is in absurd (cc);
      gone = λ spent. let e : true ≡ false = sym live ∙ spent in absurd (cc);
      some_width = kept.some_width;
      seen_each_page = kept.seen_each_page;
      end_each_page = λ _. length-set b.ends p x ∙ wide;
      ends_is = λ k a h. seen_case b.ends p x 0 k (λ z. (z ≡ get_or w.first k 0) ⊎ (z ≡ l k)) inside
          (λ e. inr (put_case q.last p x k (λ z. x ≡ z) (λ _. refl) (λ n. absurd (n e)))) (λ n. kept.ends_is k live h);
      seen_end = kept.seen_end;
      seen_own = kept.seen_own;
    }

-- a claim
claim_any : (w : World) (q : Lawful w) (i : ℕ) (b c : BookView) (n : ℕ) → get_elem? w.books i ≡ some b → b.live ≡ true → b.under ≡ None → c.live ≡ true → c.under ≡ None → c.posted ≡ b.posted → c.seen ≡ b.seen → c.ends ≡ b.ends → c.swaps ≡ b.swaps → c.width ≡ b.width
    → ((r : ℕ) → owns r b ≤ owns r c) → Claimed w.piece w.records n (set w.books i c) → Keeps w q (record w { next = n; books = set w.books i c })
claim_any w q i b c n at live idle live' idle' posted seen ends swaps width more claims = let ok = q.each i b at in let w' : World = record w { next = n; books = set w.books i c } in
    build_on w q w' q.fresh q.last start_same (stays w.first q.fresh q.last) (λ r h. refl) q.head_each_page q.link_each_record q.low q.spare_low q.met q.last_is
    (λ p h. let k = q.swapped p h in let f : BookView → ℕ = λ b. wins_in p b.swaps in let t = total_set f w.books i b c at in let e : f c ≡ f b = ap (wins_in p) swaps in omega arith)
    (λ p z h. let k = q.placed p z h in let f : BookView → ℕ = λ b. posts_at p z b.posted in let t = total_set f w.books i b c at in let e : f c ≡ f b = ap (posts_at p z) posted in omega arith)
    claims
    (λ j d e. ⊎_elim (λ (t : (j ≡ i) × (c ≡ d)). subst (LawfulBook w' q.fresh q.last) t.1 record {
      posts_own = λ z. let o = ok.posts_own z in let m = more z in let e : posts_in z c.posted ≡ posts_in z b.posted = ap (posts_in z) posted in omega arith;
      posts_page = subst (λ z. AllByRecursion (λ x. (x.page < length w.first) × (x.lost ≤ beneath x.rec (q.fresh x.page) + late (get_or w.first x.page 0) (q.last x.page))) z) (sym posted) ok.posts_page;
      lawful_under = λ u is. let e : None ≡ Some u = sym idle' ∙ is in absurd (cc);
      gone = λ spent. let e : true ≡ false = sym live' ∙ spent in absurd (cc);
      some_width = λ _. let a = ok.some_width live in omega arith;
      seen_each_page = λ _. ap length seen ∙ ok.seen_each_page live;
      end_each_page = λ _. ap length ends ∙ ok.end_each_page live;
      ends_is = λ p _ h. subst (λ z. (get_or z p 0 ≡ get_or w.first p 0) ⊎ (get_or z p 0 ≡ q.last p)) (sym ends) (ok.ends_is p live h);
      seen_end = λ p _ h. subst (λ z. IsEnd (get_or z p []) (q.fresh p)) (sym seen) (ok.seen_end p live h);
      seen_own = λ p z _ h. let k = ok.seen_own p z live h in let e : posts_at p z c.posted ≡ posts_at p z b.posted = ap (posts_at p z) posted in
          let f : times z (seen_at c p) ≡ times z (seen_at b p) = ap (λ s. times z (get_or s p [])) seen in omega arith;
    })
    (λ (t : (j ≢ i) × (get_elem? w.books j ≡ some d)). let k = book_keeps w w.heads w.links (set w.books i c) q.fresh q.last q.fresh q.last d (stays w.first q.fresh q.last) (λ u is a. refl) (q.each j d t.1) in record {
      posts_own = k.posts_own;
      posts_page = k.posts_page;
      lawful_under = λ u is. let m = k.lawful_under u is in record { on_page = m.on_page; own = m.own; unposted = m.unposted; few = m.few; armed = λ a. let r = m.armed a in record { end = r.end; last = r.last; last_is = r.last_is; is_end = r.is_end; linked = r.linked; few = r.few } };
      gone = k.gone;
      some_width = k.some_width;
      seen_each_page = k.seen_each_page;
      end_each_page = k.end_each_page;
      ends_is = k.ends_is;
      seen_end = k.seen_end;
      seen_own = k.seen_own;
    }) (at_set w.books i j c d e))

pub claim_keeps_piece : (w : World) (q : Lawful w) (i : ℕ) (b : BookView) → get_elem? w.books i ≡ some b → b.live ≡ true → b.under ≡ None → b.told ≡ false → w.next < w.records
    → Keeps w q (record w { next = w.next + w.piece; books = set w.books i (book_after_claim w.piece w.records w.next b) })
claim_keeps_piece w q i b at live idle untold some_left = claim_any w q i b (book_after_claim w.piece w.records w.next b) (w.next + w.piece) at live idle live idle refl refl refl refl refl
    (λ r. let a = total-append (λ (s : Span). one_if (leb s.from r && ltb r s.to)) b.owned (span w.next (min (w.next + w.piece) w.records) ∷ []) in omega arith)
    (claim_takes w.piece w.records w.next w.books i b q.claims at some_left untold)

pub claim_keeps_told : (w : World) (q : Lawful w) (i : ℕ) (b : BookView) → get_elem? w.books i ≡ some b → b.live ≡ true → b.under ≡ None → b.told ≡ false → w.records ≤ w.next
    → Keeps w q (record w { next = w.next + w.piece; books = set w.books i (book_without_pieces b) })
claim_keeps_told w q i b at live idle untold none_left = claim_any w q i b (book_without_pieces b) (w.next + w.piece) at live idle live idle refl refl refl refl refl (λ r. omega arith)
    (claim_tells w.piece w.records w.next w.books i b q.claims at none_left untold ((q.each i b at).some_width live))
