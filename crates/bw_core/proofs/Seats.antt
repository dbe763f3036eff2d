-- Split and join keep the world lawful.
use Rattle.std.proofs.Common.{◌⊎◌, ◌≡◌, ℕ, zero, suc, ◌<◌, ◌≤◌, ◌≢◌, ⊎_elim, eqb, leb, ltb, Bool, true, false, cond, ◌&&◌, List, [], ◌∷◌, ◌++◌, append-nil, length, get_or, set, sym, refl, ap, ◌∙◌, subst, arith, Some, None}
use mathlib.Core.Option.{some}
use native.Mathlib.Decide.{dec_le, dec_lt}
use lib.ListN.{get_elem?}
use Rattle.std.proofs.lemmas.Bool.Decides.{nat_tests}
use Rattle.bw_core.specs.declared.Span.{Span}
use Rattle.bw_core.specs.declared.Post.{Post}
use Rattle.bw_core.specs.declared.Swap.{Swap}
use Rattle.bw_core.specs.declared.BookView.{BookView}
use Rattle.bw_core.specs.World.{wins_in, Keeps, World, one_if, posts_at, seen_at, IsEnd, LawfulBook, Lawful, spent}
use Rattle.bw_core.specs.Events.{world_with, left_book, right_book, longer_of, longest, later_of, latest, book_after_join}
use Rattle.bw_core.specs.Keeping.{JoinSeesBoth}
use Rattle.bw_core.proofs.Lists.{still_at, at_set, at_snoc, total-append, total_set, total_two, AllByRecursion-append, end_self, end-times}
use Rattle.bw_core.proofs.Events.{start_same, build_on, stays, book_keeps, end_same}
use Rattle.bw_core.proofs.Claims.{claimed_split, claimed_join}

pub split_keeps : (w : World) (q : Lawful w) (i : ℕ) (b : BookView) → get_elem? w.books i ≡ some b → b.live ≡ true → b.under ≡ None → 2 ≤ b.width
    → Keeps w q (world_with w w.heads w.links (set w.books i (left_book b) ++ right_book b ∷ []))
split_keeps w q i b at live idle wide =
    let ok = q.each i b at in let l : BookView = left_book b in let r : BookView = right_book b in let bs : List BookView = set w.books i l ++ r ∷ [] in
    let w' : World = world_with w w.heads w.links bs in
    build_on w q w' q.fresh q.last start_same (stays w.first q.fresh q.last) (λ r h. refl) q.head_each_page q.link_each_record q.low q.spare_low q.met q.last_is
    (λ p h. let k = q.swapped p h in let f : BookView → ℕ = λ b. wins_in p b.swaps in let t = total_set f w.books i b l at in let a = total-append f (set w.books i l) (r ∷ []) in omega arith)
    (λ p z h. let k = q.placed p z h in let f : BookView → ℕ = λ b. posts_at p z b.posted in let t = total_set f w.books i b l at in let a = total-append f (set w.books i l) (r ∷ []) in omega arith)
    (claimed_split w.piece w.records w.next w.books i b q.claims at)
    (λ j d e. ⊎_elim
    (λ (e : get_elem? (set w.books i l) j ≡ some d). ⊎_elim (λ (t : (j ≡ i) × (l ≡ d)). subst (LawfulBook w' q.fresh q.last) t.1 record {
      posts_own = ok.posts_own;
      posts_page = ok.posts_page;
      lawful_under = λ u is. let e : None ≡ Some u = sym idle ∙ is in absurd (cc);
      gone = λ spent. let e : true ≡ false = sym live ∙ spent in absurd (cc);
      some_width = λ _. omega arith;
      seen_each_page = ok.seen_each_page;
      end_each_page = ok.end_each_page;
      ends_is = ok.ends_is;
      seen_end = ok.seen_end;
      seen_own = ok.seen_own;
    })
    (λ (t : (j ≢ i) × (get_elem? w.books j ≡ some d)). book_keeps w w.heads w.links bs q.fresh q.last q.fresh q.last d (stays w.first q.fresh q.last) (λ u is a. refl) (q.each j d t.1)) (at_set w.books i j l d e))
    (λ (e : r ≡ d). subst (LawfulBook w' q.fresh q.last) e record {
      posts_own = λ z. omega arith;
      posts_page = tt;
      lawful_under = λ u is. let e : None ≡ Some u = is in absurd (cc);
      gone = λ spent. let e : true ≡ false = spent in absurd (cc);
      some_width = λ _. omega arith;
      seen_each_page = λ _. ok.seen_each_page live;
      end_each_page = λ _. ok.end_each_page live;
      ends_is = λ p _ h. ok.ends_is p live h;
      seen_end = λ p _ h. ok.seen_end p live h;
      seen_own = λ p z _ h. omega arith;
    }) (at_snoc (set w.books i l) r d j e))

-- two ends of one list
ends_nest : (f g a b : List ℕ) → f ++ a ≡ g ++ b → length a ≤ length b → IsEnd a b
ends_nest [] g a b e h = ([], let k : IsEnd b a = (g, e) in sym (end_same b a k h))
ends_nest (x ∷ f) [] a b e h = (x ∷ f, sym e)
ends_nest (x ∷ f) (y ∷ g) a b e h = let t : f ++ a ≡ g ++ b = cc in ends_nest f g a b t h

-- the longer of two ends of one list has both as its ends
pub longer_ends : (a b c : List ℕ) → IsEnd a c → IsEnd b c → IsEnd a (longer_of a b) × IsEnd b (longer_of a b) × IsEnd (longer_of a b) c
longer_ends a b c h k = elim (dec_le (length b) (length a)) [
  | yes d ↦ (let t : leb (length b) (length a) ≡ true = grind (arith, nat_tests) in
      subst (λ (z : Bool). IsEnd a (cond z a b) × IsEnd b (cond z a b) × IsEnd (cond z a b) c) (sym t) (end_self a, ends_nest k.0 h.0 b a (sym k.1 ∙ h.1) d, h))
  | no n ↦ (let t : leb (length b) (length a) ≡ false = grind (arith, nat_tests) in
      subst (λ (z : Bool). IsEnd a (cond z a b) × IsEnd b (cond z a b) × IsEnd (cond z a b) c) (sym t) (ends_nest h.0 k.0 a b (sym h.1 ∙ k.1) (omega arith), end_self b, k))
]

pub longest_at : (xs ys : List (List ℕ)) (p : ℕ) → p < length xs → length xs ≡ length ys → get_or (longest xs ys) p [] ≡ longer_of (get_or xs p []) (get_or ys p [])
longest_at [] ys p h e = absurd (omega arith)
longest_at (x ∷ xs) [] p h e = absurd (omega arith)
longest_at (x ∷ xs) (y ∷ ys) zero h e = refl
longest_at (x ∷ xs) (y ∷ ys) (suc p) h e = longest_at xs ys p (omega arith) (omega arith)

pub longest-length : (xs ys : List (List ℕ)) → length xs ≡ length ys → length (longest xs ys) ≡ length xs
longest-length [] ys e = refl
longest-length (x ∷ xs) [] e = refl
longest-length (x ∷ xs) (y ∷ ys) e = ap suc' (longest-length xs ys (omega arith))
  where
    suc' : ℕ → ℕ
    suc' n = suc n

pub latest-length : (fs xs ys : List ℕ) → length (latest fs xs ys) ≡ length xs
latest-length [] xs ys = refl
latest-length (f ∷ fs) [] ys = refl
latest-length (f ∷ fs) (x ∷ xs) [] = refl
latest-length (f ∷ fs) (x ∷ xs) (y ∷ ys) = let h = latest-length fs xs ys in omega arith

pub latest_at_page : (fs xs ys : List ℕ) (p : ℕ) → p < length fs → length xs ≡ length fs → length ys ≡ length fs → get_or (latest fs xs ys) p 0 ≡ later_of (get_or fs p 0) (get_or xs p 0) (get_or ys p 0)
latest_at_page [] xs ys p h e k = absurd (omega arith)
latest_at_page (f ∷ fs) [] ys p h e k = absurd (omega arith)
latest_at_page (f ∷ fs) (x ∷ xs) [] p h e k = absurd (omega arith)
latest_at_page (f ∷ fs) (x ∷ xs) (y ∷ ys) zero h e k = refl
latest_at_page (f ∷ fs) (x ∷ xs) (y ∷ ys) (suc p) h e k = latest_at_page fs xs ys p (omega arith) (omega arith) (omega arith)

-- what holds of both words holds of the one that is kept
latest_at : (fs xs ys : List ℕ) (p : ℕ) (P : ℕ → Type 0) → p < length fs → length xs ≡ length fs → length ys ≡ length fs → P (get_or xs p 0) → P (get_or ys p 0) → P (get_or (latest fs xs ys) p 0)
latest_at [] xs ys p P h e k a b = absurd (omega arith)
latest_at (f ∷ fs) [] ys p P h e k a b = absurd (omega arith)
latest_at (f ∷ fs) (x ∷ xs) [] p P h e k a b = absurd (omega arith)
latest_at (f ∷ fs) (x ∷ xs) (y ∷ ys) zero P h e k a b = elim (eqb x f) as (λ t. P (cond t y x)) [ true ↦ b | false ↦ a ]
latest_at (f ∷ fs) (x ∷ xs) (y ∷ ys) (suc p) P h e k a b = latest_at fs xs ys p P (omega arith) (omega arith) (omega arith) a b

join_parts : (w : World) (f : ℕ → List ℕ) (l : ℕ → ℕ) (b d : BookView) (p : ℕ) → LawfulBook w f l b → LawfulBook w f l d → b.live ≡ true → d.live ≡ true → p < length w.first
    → IsEnd (seen_at b p) (seen_at (book_after_join w.first b d) p) × IsEnd (seen_at d p) (seen_at (book_after_join w.first b d) p) × IsEnd (seen_at (book_after_join w.first b d) p) (f p)
join_parts w f l b d p ok od lb ld h = let e : length b.seen ≡ length d.seen = ok.seen_each_page lb ∙ sym (od.seen_each_page ld) in let n = ok.seen_each_page lb in
    let at : get_or (longest b.seen d.seen) p [] ≡ longer_of (seen_at b p) (seen_at d p) = longest_at b.seen d.seen p (omega arith) e in
    subst (λ z. IsEnd (seen_at b p) z × IsEnd (seen_at d p) z × IsEnd z (f p)) (sym at) (longer_ends (seen_at b p) (seen_at d p) (f p) (ok.seen_end p lb h) (od.seen_end p ld h))

no_page : (xs : List (List ℕ)) (p : ℕ) → length xs ≤ p → get_or xs p [] ≡ []
no_page [] p h = refl
no_page (x ∷ xs) zero h = absurd (omega arith)
no_page (x ∷ xs) (suc p) h = no_page xs p (omega arith)

empty_end : (a b : List ℕ) → a ≡ [] → IsEnd a b
empty_end a b none = subst (λ z. IsEnd z b) (sym none) (b, sym (append-nil b))

pub join_sees_both : JoinSeesBoth
join_sees_both w q i j b d at there =
    let ok = q.each i b at.0 in let od = q.each j d there.0 in
    let wide = ok.seen_each_page at.1 in let wide' = od.seen_each_page there.1 in record {
      left = λ p. elim (dec_lt p (length w.first)) [
        | yes h ↦ (join_parts w q.fresh q.last b d p ok od at.1 there.1 h).0
        | no n ↦ empty_end (seen_at b p) (seen_at (book_after_join w.first b d) p) (no_page b.seen p (omega arith))
      ];
      right = λ p. elim (dec_lt p (length w.first)) [
        | yes h ↦ (join_parts w q.fresh q.last b d p ok od at.1 there.1 h).1
        | no n ↦ empty_end (seen_at d p) (seen_at (book_after_join w.first b d) p) (no_page d.seen p (omega arith))
      ];
    }

pub join_keeps : (w : World) (q : Lawful w) (i j : ℕ) (b d : BookView) → get_elem? w.books i ≡ some b → get_elem? w.books j ≡ some d → j ≢ i → b.live ≡ true → d.live ≡ true → b.under ≡ None → d.under ≡ None
    → Keeps w q (world_with w w.heads w.links (set (set w.books i (book_after_join w.first b d)) j spent))
join_keeps w q i j b d at there n lb ld idle idle' = let there' = still_at w.books i j (book_after_join w.first b d) d n there in
    let ok = q.each i b at in let od = q.each j d there in let c : BookView = book_after_join w.first b d in let bs : List BookView = set (set w.books i c) j spent in
    let w' : World = world_with w w.heads w.links bs in let e : length b.seen ≡ length d.seen = ok.seen_each_page lb ∙ sym (od.seen_each_page ld) in
    build_on w q w' q.fresh q.last start_same (stays w.first q.fresh q.last) (λ r h. refl) q.head_each_page q.link_each_record q.low q.spare_low q.met q.last_is
    (λ p h. let k = q.swapped p h in let f : BookView → ℕ = λ b. wins_in p b.swaps in let s = total_set f w.books i b c at in let t = total_set f (set w.books i c) j d spent there' in
    let a = total-append (λ (x : Swap). one_if (eqb x.page p && x.won)) b.swaps d.swaps in omega arith)
    (λ p z h. let k = q.placed p z h in let f : BookView → ℕ = λ b. posts_at p z b.posted in let s = total_set f w.books i b c at in let t = total_set f (set w.books i c) j d spent there' in
    let a = total-append (λ (x : Post). one_if (eqb x.page p && eqb x.rec z)) b.posted d.posted in omega arith)
    (claimed_join w.first w.piece w.records w.next w.books i j b d q.claims at there there')
    (λ k x is. ⊎_elim (λ (t : (k ≡ j) × (spent ≡ x)). subst (LawfulBook w' q.fresh q.last) t.1 record {
      posts_own = λ z. omega arith;
      posts_page = tt;
      lawful_under = λ u is. let e : None ≡ Some u = is in absurd (cc);
      gone = λ _. refl;
      some_width = λ l. let e : false ≡ true = l in absurd (cc);
      seen_each_page = λ l. let e : false ≡ true = l in absurd (cc);
      end_each_page = λ l. let e : false ≡ true = l in absurd (cc);
      ends_is = λ p l h. let e : false ≡ true = l in absurd (cc);
      seen_end = λ p l h. let e : false ≡ true = l in absurd (cc);
      seen_own = λ p z l h. let e : false ≡ true = l in absurd (cc);
    })
    (λ (t : (k ≢ j) × (get_elem? (set w.books i c) k ≡ some x)). ⊎_elim (λ (t : (k ≡ i) × (c ≡ x)). subst (LawfulBook w' q.fresh q.last) t.1 record {
      posts_own = λ z. let a = total-append (λ (x : Post). one_if (eqb x.rec z)) b.posted d.posted in let m = total-append (λ (s : Span). one_if (leb s.from z && ltb z s.to)) b.owned d.owned in
          let o = ok.posts_own z in let o' = od.posts_own z in omega arith;
      posts_page = AllByRecursion-append _ b.posted d.posted ok.posts_page od.posts_page;
      lawful_under = λ u is. let e : None ≡ Some u = sym idle ∙ is in absurd (cc);
      gone = λ spent. let e : true ≡ false = sym lb ∙ spent in absurd (cc);
      some_width = λ _. let a = ok.some_width lb in omega arith;
      seen_each_page = λ _. longest-length b.seen d.seen e ∙ ok.seen_each_page lb;
      end_each_page = λ _. latest-length w.first b.ends d.ends ∙ ok.end_each_page lb;
      ends_is = λ p _ h. latest_at w.first b.ends d.ends p (λ z. (z ≡ get_or w.first p 0) ⊎ (z ≡ q.last p)) h (ok.end_each_page lb) (od.end_each_page ld) (ok.ends_is p lb h) (od.ends_is p ld h);
      seen_end = λ p _ h. (join_parts w q.fresh q.last b d p ok od lb ld h).2;
      seen_own = λ p z _ h. let parts = join_parts w q.fresh q.last b d p ok od lb ld h in
          let a = total-append (λ (x : Post). one_if (eqb x.page p && eqb x.rec z)) b.posted d.posted in
          let t = total_two (λ (x : BookView). posts_at p z x.posted) w.books i j b d n at there in let k = q.placed p z h in let o = q.once p z h in
          let m = end-times z (seen_at b p) (seen_at c p) parts.0 in let m' = end-times z (seen_at d p) (seen_at c p) parts.1 in
          let s = ok.seen_own p z lb h in let s' = od.seen_own p z ld h in omega arith;
    })
    (λ (u : (k ≢ i) × (get_elem? w.books k ≡ some x)). book_keeps w w.heads w.links bs q.fresh q.last q.fresh q.last x (stays w.first q.fresh q.last) (λ u is a. refl) (q.each k x u.1)) (at_set w.books i k c x t.1))
    (at_set (set w.books i c) j k spent x is))
