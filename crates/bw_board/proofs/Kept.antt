-- Each step keeps the rule of the table, since it is one event of the core.
use Rattle.std.proofs.Common.{◌⊎◌, inl, inr, Option, ◌%◌, ◌^◌, ◌≡◌, ℕ, zero, suc, ◌+◌, ◌<◌, ◌≤◌, ◌≢◌, ⊎_elim, map, true, false, List, [], ◌∷◌, ◌++◌, append_assoc, length, get_or, get_or-set_other, get_or-set_same, set, sym, refl, ap, ◌∙◌, subst, arith, Some, None}
use mathlib.Core.Logic.{dite}
use mathlib.Core.Option.{none, some, some-ne-none}
use native.Mathlib.Decide.{ℕ_discrete, dec_le}
use lib.ListN.{get_elem?}
use lib.Seq.{set-get_or, map-set}
use Rattle.std.specs.List.{AllByRecursion}
use Rattle.atomic_table.specs.Table.{State, Me, step, keeps, stepped, Allows, Splits, Joins}
use mathlib.Core.List.{map-append}
use Rattle.std.proofs.lemmas.List.{length-map}
use Rattle.atomic_table.proofs.Lists.{at_set, at_snoc, set_here, set_else, set_again, at_map, exchanged}
use Rattle.bw_core.specs.declared.Under.{Under}
use Rattle.bw_core.specs.declared.BookView.{BookView}
use Rattle.bw_core.specs.World.{World, times, owns, seen_at, end_at, IsLast, top, Meets, Lawful}
use Rattle.bw_core.specs.declared.Event.{Event}
use Rattle.bw_core.specs.declared.Event.TheVariants.{Look, Link, Try, Follow, Claim, Split, Join, Replace}
use Rattle.bw_core.specs.declared.Played.{Played}
use Rattle.bw_core.specs.declared.Played.TheVariants.{Done, Lost}
use Rattle.bw_core.specs.Events.{book_after_look, book_after_swap, book_after_late_swap, book_after_join, book_after_claim, book_without_pieces, under, book_after_win, book_after_loss}
use Rattle.bw_core.specs.Keeping.{SeesBoth}
use Rattle.bw_core.specs.Transitions.{Applies}
use Rattle.bw_core.proofs.Claims.{no_wrap}
use Rattle.bw_core.proofs.Losses.{losses_bound}
use Rattle.bw_core.proofs.Runs.{event_keeps}
use Rattle.bw_core.proofs.Seats.{split_keeps, join_sees_both}
use Rattle.bw_core.proofs.Lists.{total_at, one_same, one_other, meets_top, meets_end, meets_low, few, end-times, inside_at}
use Rattle.bw_core.proofs.Events.{last_low, saw_more, absent, is_record, apart}
use Rattle.bw_board.specs.declared.table.Pair.{Pair}
use Rattle.bw_board.specs.declared.table.Sight.{Sight}
use Rattle.bw_board.specs.Rule.{book_of, world, KnowsBoard, HasLawfulWorld}
use Rattle.bw_board.specs.Plays.{Seated, IsSane, IsTop, SeesChain, StaysSane, with_book, sight_after_link, left_of, right_of, both_of, spent_sight}
use Rattle.bw_board.specs.Plays.{LookTells, LinkTells, TryTells, FollowTells, ClaimTells, ReplaceTells, SettleTells}
use Rattle.bw_board.specs.Laws.{world_of, word_after, DoneWith, Exchanges, GoesBy, IsEvent, MayLink, MayTry, MayFollow, MayClaim, MayReplace}
use Rattle.bw_board.specs.Laws.{Looking, Linking, Trying, Following, Claiming, Replacing, Splitting, Joining}
use Rattle.bw_board.proofs.Words.{head_word, link_word, set_head, set_link}

ends_all : (P : ℕ → Type 0) (front rest : List ℕ) → AllByRecursion P (front ++ rest) → AllByRecursion P rest
ends_all P [] rest h = h
ends_all P (x ∷ front) rest h = ends_all P front rest h.1

module _ (first : List ℕ) (floor records piece : ℕ) (spares : List (Option ℕ)) where
  abbrev St : Type 0
  St = State ℕ Sight

  abbrev Rule : St → Type 0
  Rule = HasLawfulWorld first floor records piece spares

  abbrev W : ℕ → List ℕ → List ℕ → List BookView → World
  W = world first floor records piece spares

  abbrev plain : ℕ → Option Pair → BookView → Sight
  plain x pair b = record { first = first; floor = floor; records = records; piece = piece; spares = spares; link = x; joined = pair; book = b }

  sane_plain : (nx : ℕ) (hs ls : List ℕ) (bs : List BookView) (q : Lawful (W nx hs ls bs)) (i x : ℕ) (pair : Option Pair) (b : BookView) → get_elem? bs i ≡ some b → b.live ≡ true
      → ((books : Pair) → pair ≡ Some books → SeesBoth first books.left books.right) → IsSane (plain x pair b)
  sane_plain nx hs ls bs q i x pair b at live both = let ok = q.each i b at in
      let low : (p : ℕ) → p < length first → AllByRecursion (λ r. r < records) (seen_at b p) = λ p h. let e = ok.seen_end p live h in
      ends_all (λ r. r < records) e.0 (seen_at b p) (subst (AllByRecursion (λ r. r < records)) e.1 (subst (λ n. AllByRecursion (λ r. r < n) (q.fresh p)) q.link_each_record (meets_low floor ls (get_or hs p 0) (q.fresh p) (q.last p) (q.met p h)))) in
      let once : (p r : ℕ) → p < length first → times r (seen_at b p) ≤ 1 = λ p r h. let a = end-times r (seen_at b p) (q.fresh p) (ok.seen_end p live h) in let k = q.once p r h in omega arith in
      let own_low : (r : ℕ) → 0 < owns r b → r < records = λ r own. is_record (W nx hs ls bs) q i b r at own in
      record {
        moment = record { next = nx; heads = hs; links = ls; books = bs; lawful = q; number = i; here = at };
        joined_seen = both;
        seen_each_page = ok.seen_each_page live;
        once = once;
        low = low;
        few = λ p h. few records (seen_at b p) (low p h) (λ r. once p r h);
        fewer = λ p r h own none. let z : times r (seen_at b p) ≡ 0 = (let a = end-times r (seen_at b p) (q.fresh p) (ok.seen_end p live h) in let k = absent (W nx hs ls bs) q i b r p at own none h in omega arith) in
            few records (r ∷ seen_at b p) (own_low r own, low p h) (λ k. let o = once p k h in dite (ℕ_discrete r k)
            (λ e. let n : times k (seen_at b p) ≡ 0 = subst (λ y. times y (seen_at b p) ≡ 0) e z in let s = one_same r k e in omega arith) (λ n. let s = one_other r k n in omega arith));
        own_low = own_low;
        seen_own = λ p r h. ok.seen_own p r live h;
        some_width = ok.some_width live;
        small_width = (let t = total_at (λ (x : BookView). x.width) bs i b at in let w = q.claims.widths in omega arith);
        first_low = q.low;
        end_each_page = ok.end_each_page live;
        ends_low = λ p h. ⊎_elim (λ e. let a = q.low p h in omega arith) (λ e. let a = last_low (W nx hs ls bs) q p h in omega arith) (ok.ends_is p live h);
        ends_is = λ p h. ⊎_elim inl (λ e. subst (IsLast first spares p) (sym e) (q.last_is p h)) (ok.ends_is p live h);
        under_few = λ u is. (ok.lawful_under u is).few;
        own_one = λ r. (let t = total_at (λ (x : BookView). owns r x) bs i b at in let o = q.owned_once r in omega arith);
        lost_few = (losses_bound (W nx hs ls bs) q i b at).0;
        lost_fewer = (losses_bound (W nx hs ls bs) q i b at).1;
      }

  plain_is : (ls : List ℕ) (v : Sight) → KnowsBoard first floor records piece spares ls v → v ≡ plain v.link v.joined v.book
  plain_is ls v k = λ j. record v { first = k.same_first j; floor = k.same_floor j; records = k.same_records j; piece = k.same_piece j; spares = k.same_spares j }

  last_known : (ls : List ℕ) (v : Sight) (p x : ℕ) → KnowsBoard first floor records piece spares ls v → IsLast first spares p x → IsLast v.first v.spares p x
  last_known ls v p x k h = subst (λ (z : List ℕ × List (Option ℕ)). IsLast z.0 z.1 p x) (λ j. (sym k.same_first j, sym k.same_spares j)) h

  pub sane : (s : St) (t : Rule s) (i : ℕ) (v : Sight) → get_elem? s.views i ≡ some v → v.book.live ≡ true → IsSane v
  sane s t i v at live = let k = t.each_seat i v at live in subst IsSane (sym (plain_is t.links v k))
      (sane_plain t.next t.heads t.links (map book_of s.views) t.lawful i v.link v.joined v.book (at_map book_of s.views i v at) live k.joined_seen)

  -- what each live seat knows, after a step of one
  knows_after : (s : St) (t : Rule s) (me : ℕ) (w : Sight) (ls : List ℕ) → KnowsBoard first floor records piece spares ls w
      → ((j : ℕ) (d : Sight) → j ≢ me → get_elem? s.views j ≡ some d → d.book.live ≡ true → (u : Under) → d.book.under ≡ Some u → u.armed ≡ true → get_or ls u.rec 0 ≡ get_or t.links u.rec 0)
      → (j : ℕ) (d : Sight) → get_elem? (set s.views me w) j ≡ some d → d.book.live ≡ true → KnowsBoard first floor records piece spares ls d
  knows_after s t me w ls known others j d e live = ⊎_elim (λ (c : (j ≡ me) × (w ≡ d)). subst (KnowsBoard first floor records piece spares ls) c.1 known)
      (λ (c : (j ≢ me) × (get_elem? s.views j ≡ some d)). let k = t.each_seat j d c.1 live in record {
        same_first = k.same_first;
        same_floor = k.same_floor;
        same_records = k.same_records;
        same_piece = k.same_piece;
        same_spares = k.same_spares;
        armed_link = λ u is a. others j d c.0 c.1 live u is a ∙ k.armed_link u is a;
        joined_seen = k.joined_seen;
      }) (at_set s.views me j w d e)

  abbrev Of : (s : St) → Rule s → World
  Of = world_of first floor records piece spares

  abbrev Goes : (s : St) → Rule s → Event → St → Played → Type 0
  Goes = GoesBy first floor records piece spares

  -- a step of one seat that is this event, with this answer
  plays : (s : St) (t : Rule s) (me : ℕ) (v w : Sight) (words' : List ℕ) (nx : ℕ) (hs ls : List ℕ) (e : Event) (a : Played) → get_elem? s.views me ≡ some v → words' ≡ nx ∷ (hs ++ ls)
      → Applies (Of s t) e (W nx hs ls (set (map book_of s.views) me w.book)) a → KnowsBoard first floor records piece spares ls w
      → ((j : ℕ) (d : Sight) → j ≢ me → get_elem? s.views j ≡ some d → d.book.live ≡ true → (u : Under) → d.book.under ≡ Some u → u.armed ≡ true → get_or ls u.rec 0 ≡ get_or t.links u.rec 0)
      → (homes' : List (mathlib.Core.Option.Option ℕ)) → Goes s t e (record { words = words'; homes = homes'; views = set s.views me w }) a
  plays s t me v w words' nx hs ls e a at are applied known others homes' = let same : map book_of (set s.views me w) ≡ set (map book_of s.views) me w.book = map-set book_of s.views me w in record {
    lawful = record {
      next = nx;
      heads = hs;
      links = ls;
      words_are = are;
      lawful = subst (λ bs. Lawful (W nx hs ls bs)) (sym same) (event_keeps (Of s t) t.lawful e (W nx hs ls (set (map book_of s.views) me w.book)) a applied).0;
      each_seat = knows_after s t me w ls known others;
    };
    applied = subst (λ bs. Applies (Of s t) e (W nx hs ls bs) a) (sym same) applied;
  }

  -- what is an event may be done
  allowed : (slots id : ℕ) (m : Seated) (i : ℕ) (f : ℕ → ℕ) (e : Event) (says : ℕ → Played → Type 0) (tells : ℕ → Seated → Type 0) → IsEvent first floor records piece spares id m i f e says tells → Allows Rule slots id m i f tells
  allowed slots id m i f e says tells h s t _ at _ = let x = h s t at in (x.view, keeps, tt, x.goes.lawful, x.tells_so)

  inside : {A : Type 0} (l : List A) (i : ℕ) (a : A) → get_elem? l i ≡ some a → i < length l
  inside [] i a e = absurd (some-ne-none a (sym e))
  inside (x ∷ l) zero a e = omega arith
  inside (x ∷ l) (suc i) a e = let h = inside l i a e in omega arith

  -- what a seat that a step left with this view knows of itself
  stays : (s s' : St) (t' : Rule s') (id : ℕ) (v w : Sight) (slots : List (ℕ × ℕ)) → get_elem? s.views id ≡ some v → s'.views ≡ set s.views id w → w.book.live ≡ true → StaysSane (v, slots) (w, slots)
  stays s s' t' id v w slots at are live = record {
    slots = refl;
    sane = sane s' t' id w (subst (λ vs. get_elem? vs id ≡ some w) (sym are) (set_here s.views id w (inside s.views id v at))) live;
  }

  -- the present chain of a page, as a seat sees it
  abbrev chain_seen : (s : St) (t : Rule s) (id : ℕ) (v : Sight) (p : ℕ) (book : List ℕ → ℕ → BookView) → get_elem? s.views id ≡ some v → v.book.live ≡ true → p < length first
      → (let q = t.lawful in let b : BookView = book (q.fresh p) (q.last p) in
      b.seen ≡ set v.book.seen p (q.fresh p) → b.ends ≡ set v.book.ends p (q.last p) → SeesChain v (with_book v b) p book)
  chain_seen s t id v p book at live h seen ends = let q = t.lawful in let k = t.each_seat id v at live in let ok = q.each id v.book (at_map book_of s.views id v at) in
      let wide = ok.seen_each_page live in let wide' = ok.end_each_page live in record {
        chain = q.fresh p;
        last = q.last p;
        after = refl;
        longer = ok.seen_end p live h;
        is_last = last_known t.links v p (q.last p) k (q.last_is p h);
        here = ap (λ z. get_or z p []) seen ∙ get_or-set_same v.book.seen p (q.fresh p) [] (omega arith);
        end_here = ap (λ z. get_or z p 0) ends ∙ get_or-set_same v.book.ends p (q.last p) 0 (omega arith);
      }

  -- a page's head is the top of its chain
  head_is : (s : St) (t : Rule s) (id : ℕ) (v : Sight) (p n : ℕ) → get_elem? s.views id ≡ some v → v.book.live ≡ true → p < length first → n ≡ get_or t.heads p 0
      → (let q = t.lawful in n ≡ top v.floor (q.last p) (q.fresh p))
  head_is s t id v p n at live h n_is = let q = t.lawful in let k = t.each_seat id v at live in
      n_is ∙ (meets_top floor t.links (get_or t.heads p 0) (q.fresh p) (q.last p) (q.met p h) ∙ sym (λ j. top (k.same_floor j) (q.last p) (q.fresh p)))

  top_seen : (v w : Sight) (p n : ℕ) (book : List ℕ → ℕ → BookView) (c : SeesChain v w p book) → w.floor ≡ v.floor → n ≡ top v.floor c.last c.chain → IsTop w p n
  top_seen v w p n book c same is = is ∙ λ j. top (sym same j) (sym c.end_here j) (sym c.here j)

  pub looking : Looking first floor records piece spares
  looking slots id m p live h s t at = let v = m.0 in let k = t.each_seat id v at live in let q = t.lawful in let w0 : World = Of s t in
      let h' : p < length first = subst (λ z. p < length z) k.same_first h in let w : Sight = with_book v (book_after_look v.book p (q.fresh p) (q.last p)) in let n = get_or s.words (1 + p) 0 in
      let at' = at_map book_of s.views id v at in let within : p < length t.heads = let e = q.head_each_page in omega arith in
      let n_is : n ≡ get_or t.heads p 0 = head_word s.words t.heads t.links p t.words_are within in
      let x = plays s t id v w (set s.words (1 + p) n) t.next t.heads t.links (Look id p) (Done n) at (set-get_or s.words (1 + p) 0 ∙ t.words_are)
      (inl (v.book, q.fresh p, q.last p, ((at', live), h'), (q.met p h', last_low w0 q p h'), refl, ap Done n_is))
      record { same_first = k.same_first; same_floor = k.same_floor; same_records = k.same_records; same_piece = k.same_piece; same_spares = k.same_spares; armed_link = k.armed_link; joined_seen = k.joined_seen }
      (λ j d n e l u is a. refl) s.homes in
      let c = chain_seen s t id v p (book_after_look v.book p) at live h' refl refl in
      let top_is : IsTop w p n = top_seen v w p n (book_after_look v.book p) c refl (head_is s t id v p n at live h' n_is) in record {
        view = w;
        answer = Done n;
        goes = x;
        says_so = refl;
        tells_so = record {
          stays = stays s (stepped s (1 + p) n id m.1 w keeps) x.lawful id v w m.1 at refl live;
          seen = λ p' e h''. let same : p ≡ p' = omega arith in subst (λ (z : ℕ). SeesChain v w z (book_after_look v.book z)) same c;
          head = λ p' e h''. let same : p ≡ p' = omega arith in subst (λ (z : ℕ). IsTop w z n) same top_is;
        };
      }

  pub looks : (slots id : ℕ) (m : Seated) (p : ℕ) → m.0.book.live ≡ true → p < length m.0.first → Allows Rule slots id m (1 + p) (λ n. n) (LookTells (step slots (1 + p) 0 0 none) m)
  looks slots id m p live h = allowed slots id m (1 + p) (λ n. n) (Look id p) (DoneWith (λ n. n)) (LookTells (step slots (1 + p) 0 0 none) m) (looking slots id m p live h)

  same_under : (a b : Under) → Some a ≡ Some b → a ≡ b
  same_under a b e = cc

  pub linking : Linking first floor records piece spares
  linking slots id m r p lost x may s t at = let v = m.0 in let live = may.live in let k = t.each_seat id v at live in let q = t.lawful in
      let i : ℕ = 1 + (length v.first + r) in let wide : length v.first ≡ length first = ap length k.same_first in let tall = q.head_each_page in
      let h = may.page in let h' : p < length first = omega arith in let w : Sight = sight_after_link v r p lost x in
      let at' = at_map book_of s.views id v at in let world' : World = Of s t in
      let inner : r < length t.links = let a = is_record world' q id v.book r at' may.own in let n = q.link_each_record in omega arith in
      let x_is : x ≡ top floor (end_at v.book p) (seen_at v.book p) = may.word ∙ λ j. top (k.same_floor j) (end_at v.book p) (seen_at v.book p) in
      let y = plays s t id v w (set s.words i x) t.next t.heads (set t.links r x) (Link id r p) (Done x) at
      (set_link s.words t.heads t.links (length v.first) r x t.words_are (omega arith))
      (inl (v.book, lost, ((at', live), h', may.own, may.unposted, may.resumes), ap (λ z. W t.next t.heads (set t.links r z) (set (map book_of s.views) id w.book)) x_is, ap Done x_is))
      record {
        same_first = k.same_first;
        same_floor = k.same_floor;
        same_records = k.same_records;
        same_piece = k.same_piece;
        same_spares = k.same_spares;
        armed_link = λ u is a. ap (λ (z : Under). get_or (set t.links r x) z.rec 0) (sym (same_under (under r p lost true) u is)) ∙ get_or-set_same t.links r x 0 inner;
        joined_seen = k.joined_seen;
      }
      (λ j d n e l u is a. get_or-set_other t.links r u.rec x 0 (apart world' q id j v.book d.book r at' (at_map book_of s.views j d e) n may.own u is)) s.homes in record {
        view = w;
        answer = Done x;
        goes = y;
        says_so = refl;
        tells_so = record {
          stays = stays s (stepped s i x id m.1 w keeps) y.lawful id v w m.1 at refl live;
          linked = λ r' e. let same : r ≡ r' = omega arith in ap (λ z. sight_after_link v z p lost x) same;
        };
      }

  pub trying : Trying first floor records piece spares
  trying slots id m r p lost old new may s t at = let v = m.0 in let live = may.live in let k = t.each_seat id v at live in let q = t.lawful in
      let at' = at_map book_of s.views id v at in let world' : World = Of s t in let is = may.armed in
      let b : BookView = v.book in let u : Under = under r p lost true in let ok = (q.each id b at').lawful_under u is in
      let h' : p < length first = ok.on_page in let within : p < length t.heads = let e = q.head_each_page in omega arith in
      let n = get_or s.words (1 + p) 0 in let n_is : n ≡ get_or t.heads p 0 = head_word s.words t.heads t.links p t.words_are within in
      let old' : get_or t.links r 0 ≡ old = k.armed_link u is refl ∙ sym may.old_is in
      let w : Sight = with_book v (book_after_win b r p lost) in let l : Sight = with_book v (book_after_loss b r p lost (q.fresh p) (q.last p)) in
      let new_word : new ≡ floor + r = may.new_is ∙ ap (λ z. z + r) k.same_floor in
      let same_u : (r' p' lost' : ℕ) → b.under ≡ Some (under r' p' lost' true) → under r p lost true ≡ under r' p' lost' true = λ r' p' lost' e. same_under u (under r' p' lost' true) (sym is ∙ e) in
      let y = exchanged n old new (λ y. (w : Sight) × (a : Played) × Goes s t (Try id r p) (stepped s (1 + p) y id m.1 w keeps) a × Exchanges old new n a × TryTells (step slots (1 + p) old new none) m n (w, m.1))
      (λ hit. let x = plays s t id v w (set s.words (1 + p) new) t.next (set t.heads p new) t.links (Try id r p) (Done new) at
      (set_head s.words t.heads t.links p new t.words_are within)
      (inl (b, lost, ((at', live), is), inl (sym n_is ∙ (hit ∙ sym old'), ap (λ z. W t.next (set t.heads p z) t.links (set (map book_of s.views) id w.book)) new_word, ap Done new_word)))
      record { same_first = k.same_first; same_floor = k.same_floor; same_records = k.same_records; same_piece = k.same_piece; same_spares = k.same_spares; armed_link = λ u e a. let d : None ≡ Some u = e in absurd (cc); joined_seen = k.joined_seen }
      (λ j d n e l u is a. refl) s.homes in (
        w,
        Done new,
        x,
        ((λ _. refl), λ miss. absurd (miss hit)),
        record {
          stays = stays s (stepped s (1 + p) new id m.1 w keeps) x.lawful id v w m.1 at refl live;
          won = λ r' p' lost' e _. ap (λ (z : Under). with_book v (book_after_win b z.rec z.page z.lost)) (same_u r' p' lost' e);
          lost = λ r' p' lost' e miss. absurd (miss hit);
          head = λ r' p' lost' e miss. absurd (miss hit);
        },
      ))
      (λ miss. let x = plays s t id v l (set s.words (1 + p) n) t.next t.heads t.links (Try id r p) (Lost n) at
      (set-get_or s.words (1 + p) 0 ∙ t.words_are)
      (inl (b, lost, ((at', live), is), inr (q.fresh p, q.last p, (λ e. miss (n_is ∙ (e ∙ old'))), (q.met p h', last_low world' q p h'), refl, ap Lost n_is)))
      record { same_first = k.same_first; same_floor = k.same_floor; same_records = k.same_records; same_piece = k.same_piece; same_spares = k.same_spares; armed_link = λ u e a. let d = same_under (under r p (lost + 1) false) u e in let f : false ≡ true = ap (λ (z : Under). z.armed) d ∙ a in absurd (cc); joined_seen = k.joined_seen }
      (λ j d n e l u is a. refl) s.homes in
      let c = chain_seen s t id v p (book_after_loss b r p lost) at live h' refl refl in
      let top_is : IsTop l p n = top_seen v l p n (book_after_loss b r p lost) c refl (head_is s t id v p n at live h' n_is) in (
        l,
        Lost n,
        x,
        ((λ hit. absurd (miss hit)), λ _. refl),
        record {
          stays = stays s (stepped s (1 + p) n id m.1 l keeps) x.lawful id v l m.1 at refl live;
          won = λ r' p' lost' e hit. absurd (miss hit);
          lost = λ r' p' lost' e _. subst (λ (z : Under). SeesChain v l z.page (book_after_loss b z.rec z.page z.lost)) (same_u r' p' lost' e) c;
          head = λ r' p' lost' e _. subst (λ (z : Under). IsTop l z.page n) (same_u r' p' lost' e) top_is;
        },
      )) in
      record { view = y.0; answer = y.1; goes = y.2; says_so = y.3; tells_so = y.4 }

  pub tries : (slots id : ℕ) (m : Seated) (r p lost old new : ℕ) → MayTry m.0 r p lost old new → Allows Rule slots id m (1 + p) (word_after old new) (TryTells (step slots (1 + p) old new none) m)
  tries slots id m r p lost old new may = allowed slots id m (1 + p) (word_after old new) (Try id r p) (Exchanges old new) (TryTells (step slots (1 + p) old new none) m) (trying slots id m r p lost old new may)

  pub following : Following first floor records piece spares
  following slots id m r p may s t at = let v = m.0 in let live = may.live in let k = t.each_seat id v at live in let q = t.lawful in let h = may.page in
      let i : ℕ = 1 + (length v.first + r) in let n = get_or s.words i 0 in let wide : length v.first ≡ length first = ap length k.same_first in let tall = q.head_each_page in
      let at' = at_map book_of s.views id v at in
      let n_is : n ≡ get_or t.links r 0 = link_word s.words t.heads t.links (length v.first) r t.words_are (omega arith) in
      let x = plays s t id v v (set s.words i n) t.next t.heads t.links (Follow id r) (Done n) at (set-get_or s.words i 0 ∙ t.words_are)
      (inl (v.book, p, ((at', live), omega arith, may.seen), ap (λ bs. W t.next t.heads t.links bs) (set_again (map book_of s.views) id v.book at'), ap Done n_is)) k (λ j d n e l u is a. refl) s.homes in record {
        view = v;
        answer = Done n;
        goes = x;
        says_so = refl;
        tells_so = record {
          stays = stays s (stepped s i n id m.1 v keeps) x.lawful id v v m.1 at refl live;
          same = refl;
          found = λ p r' front rest e h is. let same : r ≡ r' = omega arith in
              let h' : p < length first = omega arith in let ends = (q.each id v.book at').seen_end p live h' in
              let whole : q.fresh p ≡ (ends.0 ++ front) ++ r' ∷ rest = ends.1 ∙ (ap (λ z. ends.0 ++ z) is ∙ sym (append_assoc ends.0 front (r' ∷ rest))) in
              let last = q.last p in
              let m = meets_end floor t.links (get_or t.heads p 0) (ends.0 ++ front) (r' ∷ rest) last (subst (λ z. Meets floor t.links (get_or t.heads p 0) z last) whole (q.met p h')) in
              (last, n_is ∙ (ap (λ z. get_or t.links z 0) same ∙ (meets_top floor t.links (get_or t.links r' 0) rest last m.2 ∙ sym (λ j. top (k.same_floor j) last rest))), subst (λ z. last < z) (sym k.same_floor) (last_low (Of s t) q p h'));
        };
      }

  pub splitting : Splitting first floor records piece spares
  splitting id v s t at live idle below = let k = t.each_seat id v at live in let q = t.lawful in let at' = at_map book_of s.views id v at in
      let l : Sight = left_of v in let r : Sight = right_of v in let bs : List BookView = set (map book_of s.views) id l.book ++ r.book ∷ [] in
      let same : map book_of (set s.views id l ++ r ∷ []) ≡ bs = map-append book_of (set s.views id l) (r ∷ []) ∙ ap (λ z. z ++ r.book ∷ []) (map-set book_of s.views id l) in
      let applied : Applies (Of s t) (Split id) (W t.next t.heads t.links bs) (Done (length s.views)) = inl (v.book, ((at', live), idle, below), refl, ap Done (sym (length-map s.views book_of))) in record {
        lawful = record {
          next = t.next;
          heads = t.heads;
          links = t.links;
          words_are = t.words_are;
          lawful = subst (λ bs. Lawful (W t.next t.heads t.links bs)) (sym same) (event_keeps (Of s t) q (Split id) (W t.next t.heads t.links bs) (Done (length s.views)) applied).0;
          each_seat = λ j d e dl. ⊎_elim (λ (e : get_elem? (set s.views id l) j ≡ some d). ⊎_elim (λ (c : (j ≡ id) × (l ≡ d)). subst (KnowsBoard first floor records piece spares t.links) c.1
              record { same_first = k.same_first; same_floor = k.same_floor; same_records = k.same_records; same_piece = k.same_piece; same_spares = k.same_spares; armed_link = k.armed_link; joined_seen = k.joined_seen })
              (λ (c : (j ≢ id) × (get_elem? s.views j ≡ some d)). t.each_seat j d c.1 dl) (at_set s.views id j l d e))
              (λ (e : r ≡ d). subst (KnowsBoard first floor records piece spares t.links) e
              record { same_first = k.same_first; same_floor = k.same_floor; same_records = k.same_records; same_piece = k.same_piece; same_spares = k.same_spares; armed_link = λ u e a. let d : None ≡ Some u = e in absurd (cc); joined_seen = k.joined_seen })
              (at_snoc (set s.views id l) r d j e);
        };
        applied = subst (λ bs. Applies (Of s t) (Split id) (W t.next t.heads t.links bs) (Done (length s.views))) (sym same) applied;
      }

  pub splits : (id : ℕ) (v : Sight) → v.book.live ≡ true → v.book.under ≡ None → 2 ≤ v.book.width → Splits Rule id v (left_of v) (right_of v)
  splits id v live idle below s t at = (splitting id v s t at live idle below).lawful

  same_pair : (a b : Pair) → Some a ≡ Some b → a ≡ b
  same_pair a b e = cc

  pub joining : Joining first floor records piece spares
  joining id other v w s t at there n lv lw iv iw = let k = t.each_seat id v at lv in let q = t.lawful in let b : Sight = both_of v w in let bb : BookView = book_after_join first v.book w.book in let same_b : bb ≡ b.book = ap (λ z. book_after_join z v.book w.book) (sym k.same_first) in
      let books = map book_of s.views in let bs : List BookView = set (set books id bb) other spent_sight.book in
      let books' : map book_of (set (set s.views id b) other spent_sight) ≡ bs = map-set book_of (set s.views id b) other spent_sight ∙ (ap (λ z. set z other spent_sight.book) (map-set book_of s.views id b) ∙ ap (λ (z : BookView). set (set books id z) other spent_sight.book) (sym same_b)) in
      let at' = at_map book_of s.views id v at in let there' = at_map book_of s.views other w there in
      let both : SeesBoth first v.book w.book = join_sees_both (Of s t) q id other v.book w.book (at', lv) (there', lw) in
      let applied : Applies (Of s t) (Join id other) (W t.next t.heads t.links bs) (Done other) = inl (v.book, w.book, ((at', lv), (there', lw), n, iv, iw), refl, refl) in record {
        lawful = record {
          next = t.next;
          heads = t.heads;
          links = t.links;
          words_are = t.words_are;
          lawful = subst (λ bs. Lawful (W t.next t.heads t.links bs)) (sym books') (event_keeps (Of s t) q (Join id other) (W t.next t.heads t.links bs) (Done other) applied).0;
          each_seat = λ j d e dl. ⊎_elim (λ (c : (j ≡ other) × (spent_sight ≡ d)). let f : false ≡ true = ap (λ (z : Sight). z.book.live) c.1 ∙ dl in absurd (cc))
              (λ (c : (j ≢ other) × (get_elem? (set s.views id b) j ≡ some d)). ⊎_elim (λ (c : (j ≡ id) × (b ≡ d)). subst (KnowsBoard first floor records piece spares t.links) c.1 record {
                same_first = k.same_first;
                same_floor = k.same_floor;
                same_records = k.same_records;
                same_piece = k.same_piece;
                same_spares = k.same_spares;
                armed_link = k.armed_link;
                joined_seen = λ pair e. subst (λ (z : Pair). SeesBoth first z.left z.right) (same_pair (record { left = v.book; right = w.book }) pair e) both;
              })
              (λ (c : (j ≢ id) × (get_elem? s.views j ≡ some d)). t.each_seat j d c.1 dl) (at_set s.views id j b d c.1)) (at_set (set s.views id b) other j spent_sight d e);
        };
        applied = subst (λ bs. Applies (Of s t) (Join id other) (W t.next t.heads t.links bs) (Done other)) (sym books') applied;
      }

  pub joins : (id : ℕ) (v : Sight) (other : ℕ) (w : Sight) → v.book.live ≡ true → w.book.live ≡ true → v.book.under ≡ None → w.book.under ≡ None → Joins Rule id v other w (both_of v w) spent_sight
  joins id v other w lv lw iv iw s t at n there' = (joining id other v w s t at (sym (set_else s.views id other (both_of v w) n) ∙ there') n lv lw iv iw).lawful

  -- the same, as a call has the numbers
  pub links_at : (slots id : ℕ) (m : Seated) (r p lost x n p' lost' : ℕ) → n ≡ length m.0.first → p ≡ p' → lost ≡ lost' → MayLink m.0 r p lost x
      → Allows Rule slots id m (1 + (n + r)) (λ _. x) (λ _. LinkTells p' lost' (step slots (1 + (n + r)) x 0 none) m x)
  links_at slots id m r p lost x n p' lost' en ep el may =
      subst (λ z. Allows Rule slots id m (1 + (z + r)) (λ _. x) (λ _. LinkTells p' lost' (step slots (1 + (z + r)) x 0 none) m x)) (sym en)
      (subst (λ z. Allows Rule slots id m (1 + (length m.0.first + r)) (λ _. x) (λ _. LinkTells z lost' (step slots (1 + (length m.0.first + r)) x 0 none) m x)) ep
      (subst (λ z. Allows Rule slots id m (1 + (length m.0.first + r)) (λ _. x) (λ _. LinkTells p z (step slots (1 + (length m.0.first + r)) x 0 none) m x)) el
      (allowed slots id m (1 + (length m.0.first + r)) (λ _. x) (Link id r p) (DoneWith (λ _. x)) (λ _. LinkTells p lost (step slots (1 + (length m.0.first + r)) x 0 none) m x) (linking slots id m r p lost x may))))

  pub follows_at : (slots id : ℕ) (m : Seated) (r n p : ℕ) → n ≡ length m.0.first → MayFollow m.0 r p → Allows Rule slots id m (1 + (n + r)) (λ n. n) (FollowTells (step slots (1 + (n + r)) 0 0 none) m)
  follows_at slots id m r n p en may = subst (λ z. Allows Rule slots id m (1 + (z + r)) (λ n. n) (FollowTells (step slots (1 + (z + r)) 0 0 none) m)) (sym en)
      (allowed slots id m (1 + (length m.0.first + r)) (λ n. n) (Follow id r) (DoneWith (λ n. n)) (FollowTells (step slots (1 + (length m.0.first + r)) 0 0 none) m) (following slots id m r p may))

  unwrapped : (n k : ℕ) → n + k < 2 ^ 64 → (n + k) % 2 ^ 64 ≡ n + k
  unwrapped n k h = omega arith

  pub claiming : Claiming first floor records piece spares
  claiming slots id m k may s t at = let v = m.0 in let live = may.live in let a = t.each_seat id v at live in let q = t.lawful in let at' = at_map book_of s.views id v at in
      let n = get_or s.words 0 0 in let n_is : n ≡ t.next = ap (λ z. get_or z 0 0) t.words_are in
      let same_p = a.same_piece in let same_r = a.same_records in let k_is = may.piece in let low = may.records_fit in let small = may.piece_fits in
      let fits : n + k < 2 ^ 64 = let z = no_wrap piece records t.next (map book_of s.views) q.claims (omega arith) (omega arith) in omega arith in
      let x : ℕ = (n + k) % 2 ^ 64 in let x_is : x ≡ t.next + piece = unwrapped n k fits ∙ omega arith in
      let words : set s.words 0 x ≡ (t.next + piece) ∷ (t.heads ++ t.links) = ap (λ z. set z 0 x) t.words_are ∙ ap (λ z. z ∷ (t.heads ++ t.links)) x_is in
      elim (dec_le records t.next) [
        | yes d ↦ (let w : Sight = with_book v (book_without_pieces v.book) in
            let y = plays s t id v w (set s.words 0 x) (t.next + piece) t.heads t.links (Claim id) (Done n) at words
            (inl (v.book, ((at', live), may.idle, may.untold), inr (d, refl), ap Done n_is))
            record { same_first = a.same_first; same_floor = a.same_floor; same_records = same_r; same_piece = same_p; same_spares = a.same_spares; armed_link = a.armed_link; joined_seen = a.joined_seen } (λ j d n e l u is a. refl) s.homes in record {
              view = w;
              answer = Done n;
              goes = y;
              says_so = refl;
              tells_so = record { stays = stays s (stepped s 0 x id m.1 w keeps) y.lawful id v w m.1 at refl live; taken = λ h. absurd (omega arith); told = λ h. refl };
            })
        | no d ↦ (let w : Sight = with_book v (book_after_claim v.piece v.records n v.book) in let less : t.next < records = omega arith in
            let same : w.book ≡ book_after_claim piece records t.next v.book = λ j. book_after_claim (same_p j) (same_r j) (n_is j) v.book in
            let y = plays s t id v w (set s.words 0 x) (t.next + piece) t.heads t.links (Claim id) (Done n) at words
            (inl (v.book, ((at', live), may.idle, may.untold), inl (less, ap (λ (z : BookView). W (t.next + piece) t.heads t.links (set (map book_of s.views) id z)) same), ap Done n_is))
            record { same_first = a.same_first; same_floor = a.same_floor; same_records = same_r; same_piece = same_p; same_spares = a.same_spares; armed_link = a.armed_link; joined_seen = a.joined_seen } (λ j d n e l u is a. refl) s.homes in record {
              view = w;
              answer = Done n;
              goes = y;
              says_so = refl;
              tells_so = record { stays = stays s (stepped s 0 x id m.1 w keeps) y.lawful id v w m.1 at refl live; taken = λ h. refl; told = λ h. absurd (omega arith) };
            })
      ]

  pub claims : (slots id : ℕ) (m : Seated) (k : ℕ) → MayClaim m.0 k → Allows Rule slots id m 0 (λ n. (n + k) % 2 ^ 64) (ClaimTells (step slots 0 k 0 none) m)
  claims slots id m k may = allowed slots id m 0 (λ n. (n + k) % 2 ^ 64) (Claim id) (DoneWith (λ n. n)) (ClaimTells (step slots 0 k 0 none) m) (claiming slots id m k may)

  -- a load that is no event: the world stays
  pub settles : (slots id : ℕ) (m : Seated) → m.0.book.live ≡ true → Allows Rule slots id m 0 (λ n. n) (SettleTells (step slots 0 0 0 none) m)
  settles slots id m live s t _ at _ = let v = m.0 in let k = t.each_seat id v at live in let n = get_or s.words 0 0 in let at' = at_map book_of s.views id v at in
      let now : Rule (stepped s 0 n id m.1 v keeps) = record {
        next = t.next;
        heads = t.heads;
        links = t.links;
        words_are = set-get_or s.words 0 0 ∙ t.words_are;
        lawful = subst (λ bs. Lawful (W t.next t.heads t.links bs)) (sym (map-set book_of s.views id v ∙ set_again (map book_of s.views) id v.book at')) t.lawful;
        each_seat = knows_after s t id v t.links k (λ j d n e l u is a. refl);
      } in
      (v, keeps, tt, now, record { stays = stays s (stepped s 0 n id m.1 v keeps) now id v v m.1 at refl live; same = refl })

  pub replacing : Replacing first floor records piece spares
  replacing slots id m p old new may s t at = let v = m.0 in let live = may.live in let k = t.each_seat id v at live in let q = t.lawful in
      let at' = at_map book_of s.views id v at in let world' : World = Of s t in let b : BookView = v.book in
      let h' : p < length first = subst (λ z. p < length z) k.same_first may.page in let within : p < length t.heads = let e = q.head_each_page in omega arith in
      let n = get_or s.words (1 + p) 0 in let n_is : n ≡ get_or t.heads p 0 = head_word s.words t.heads t.links p t.words_are within in
      let old' : old ≡ get_or first p 0 = may.old_is ∙ ap (λ z. get_or z p 0) k.same_first in
      let spare : get_or spares p None ≡ Some new = sym (ap (λ z. get_or z p None) k.same_spares) ∙ may.new_is in
      let w : Sight = with_book v (book_after_swap b p new) in let l : Sight = with_book v (book_after_late_swap b p (q.fresh p) (q.last p)) in
      let y = exchanged n old new (λ y. (w : Sight) × (a : Played) × Goes s t (Replace id p) (stepped s (1 + p) y id m.1 w keeps) a × Exchanges old new n a × ReplaceTells (step slots (1 + p) old new none) m n (w, m.1))
      (λ hit. let x = plays s t id v w (set s.words (1 + p) new) t.next (set t.heads p new) t.links (Replace id p) (Done new) at
      (set_head s.words t.heads t.links p new t.words_are within)
      (inl (b, new, ((at', live), may.idle, h', spare, may.untried), inl (sym n_is ∙ (hit ∙ old'), refl, refl)))
      record { same_first = k.same_first; same_floor = k.same_floor; same_records = k.same_records; same_piece = k.same_piece; same_spares = k.same_spares; armed_link = k.armed_link; joined_seen = k.joined_seen }
      (λ j d n e l u is a. refl) s.homes in (
        w,
        Done new,
        x,
        ((λ _. refl), λ miss. absurd (miss hit)),
        record {
          stays = stays s (stepped s (1 + p) new id m.1 w keeps) x.lawful id v w m.1 at refl live;
          won = λ p' e h'' _. let same : p ≡ p' = omega arith in ap (λ z. with_book v (book_after_swap b z new)) same;
          late = λ p' e h'' miss. absurd (miss hit);
          head = λ p' e h'' miss. absurd (miss hit);
          more = λ p' e h'' miss. absurd (miss hit);
        },
      ))
      (λ miss. let x = plays s t id v l (set s.words (1 + p) n) t.next t.heads t.links (Replace id p) (Lost n) at
      (set-get_or s.words (1 + p) 0 ∙ t.words_are)
      (inl (b, new, ((at', live), may.idle, h', spare, may.untried), inr (q.fresh p, q.last p, (λ e. miss (n_is ∙ (e ∙ sym old'))), (q.met p h', last_low world' q p h'), refl, ap Lost n_is)))
      record { same_first = k.same_first; same_floor = k.same_floor; same_records = k.same_records; same_piece = k.same_piece; same_spares = k.same_spares; armed_link = k.armed_link; joined_seen = k.joined_seen }
      (λ j d n e l u is a. refl) s.homes in
      let c = chain_seen s t id v p (book_after_late_swap b p) at live h' refl refl in
      let top_is : IsTop l p n = top_seen v l p n (book_after_late_swap b p) c refl (head_is s t id v p n at live h' n_is) in
      let more : (0 < length (seen_at l.book p)) ⊎ (get_or v.spares p None ≡ Some (end_at l.book p))
      = subst (λ (z : (List ℕ × ℕ) × List (Option ℕ)). (0 < length z.0.0) ⊎ (get_or z.1 p None ≡ Some z.0.1)) (λ j. ((sym c.here j, sym c.end_here j), sym k.same_spares j)) (saw_more world' q p h' (λ e. miss (n_is ∙ (e ∙ sym old')))) in (
        l,
        Lost n,
        x,
        ((λ hit. absurd (miss hit)), λ _. refl),
        record {
          stays = stays s (stepped s (1 + p) n id m.1 l keeps) x.lawful id v l m.1 at refl live;
          won = λ p' e h'' hit. absurd (miss hit);
          late = λ p' e h'' _. let same : p ≡ p' = omega arith in subst (λ (z : ℕ). SeesChain v l z (book_after_late_swap b z)) same c;
          head = λ p' e h'' _. let same : p ≡ p' = omega arith in subst (λ (z : ℕ). IsTop l z n) same top_is;
          more = λ p' e h'' _. let same : p ≡ p' = omega arith in subst (λ (z : ℕ). (0 < length (seen_at l.book z)) ⊎ (get_or v.spares z None ≡ Some (end_at l.book z))) same more;
        },
      )) in
      record { view = y.0; answer = y.1; goes = y.2; says_so = y.3; tells_so = y.4 }

  pub replaces : (slots id : ℕ) (m : Seated) (p old new : ℕ) → MayReplace m.0 p old new → Allows Rule slots id m (1 + p) (word_after old new) (ReplaceTells (step slots (1 + p) old new none) m)
  replaces slots id m p old new may = allowed slots id m (1 + p) (word_after old new) (Replace id p) (Exchanges old new) (ReplaceTells (step slots (1 + p) old new none) m) (replacing slots id m p old new may)

at_front : {A : Type 0} (xs ys : List A) (i : ℕ) (a : A) → get_elem? xs i ≡ some a → get_elem? (xs ++ ys) i ≡ some a
at_front [] ys i a e = absurd (some-ne-none a (sym e))
at_front (x ∷ xs) ys zero a e = e
at_front (x ∷ xs) ys (suc i) a e = at_front xs ys i a e

at_end : {A : Type 0} (xs : List A) (a : A) → get_elem? (xs ++ a ∷ []) (length xs) ≡ some a
at_end [] a = refl
at_end (x ∷ xs) a = at_end xs a

-- what the halves of a seat know of themselves
pub sane_halves : (v : Sight) → IsSane v → v.book.live ≡ true → v.book.under ≡ None → 2 ≤ v.book.width → IsSane (left_of v) × IsSane (right_of v)
sane_halves v a live idle below =
    let m = a.moment in let l : Sight = left_of v in let r : Sight = right_of v in
    let bs : List BookView = set m.books m.number l.book ++ r.book ∷ [] in
    let w : World = world v.first v.floor v.records v.piece v.spares m.next m.heads m.links m.books in
    let q = (split_keeps w m.lawful m.number v.book m.here live idle below).0 in
    let within = inside_at m.books m.number v.book m.here in
    let at : get_elem? bs m.number ≡ some l.book = at_front (set m.books m.number l.book) (r.book ∷ []) m.number l.book (set_here m.books m.number l.book within) in
    let there : get_elem? bs (length (set m.books m.number l.book)) ≡ some r.book = at_end (set m.books m.number l.book) r.book in (
      sane_plain v.first v.floor v.records v.piece v.spares m.next m.heads m.links bs q m.number v.link v.joined l.book at live a.joined_seen,
      sane_plain v.first v.floor v.records v.piece v.spares m.next m.heads m.links bs q (length (set m.books m.number l.book)) v.link v.joined r.book there refl a.joined_seen,
    )
