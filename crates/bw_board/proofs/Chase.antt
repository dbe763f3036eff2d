-- What holds while a record is tried again and again.
use Rattle.std.proofs.Common.{inl, inr, eqb, cond, true, Option, ◌≡◌, ℕ, zero, suc, ◌+◌, ◌<◌, ◌≤◌, false, List, [], ◌∷◌, ◌++◌, length, length-set, get_or, get_or-set_same, set, sym, refl, ap, ◌∙◌, subst, arith, Some, None}
use Rattle.bw_core.specs.World.{owns, spans_have, posts_in, seen_at, end_at, late, IsLast, IsEnd}
use Rattle.bw_core.specs.Events.{Resumes, book_after_look, under, post, book_after_win, book_after_loss}
use Rattle.bw_core.proofs.Lists.{end_trans}
use Rattle.bw_board.specs.declared.table.Sight.{Sight}
use Rattle.bw_board.specs.Plays.{IsSane, IsTop, SeesChain, PostsOver, with_book, sight_after_link}

set_twice : {A : Type 0} (l : List A) (i : ℕ) (a b : A) → set (set l i a) i b ≡ set l i b
set_twice [] i a b = refl
set_twice (x ∷ l) zero a b = refl
set_twice (x ∷ l) (suc i) a b = ap (λ z. x ∷ z) (set_twice l i a b)

late_small : (first x : ℕ) → late first x ≤ 1
late_small first x = elim (eqb x first) as (λ b. cond b 0 1 ≤ 1) [ true ↦ omega arith | false ↦ omega arith ]

-- w is v but for what it has under way and stored, and for the chain s over the word x, which it has seen at page p
pub record StillTries (v w : Sight) (p : ℕ) (s : List ℕ) (x : ℕ) : Type 0 where
  pub same_first : w.first ≡ v.first
  pub same_floor : w.floor ≡ v.floor
  pub same_records : w.records ≡ v.records
  pub same_piece : w.piece ≡ v.piece
  pub same_spares : w.spares ≡ v.spares
  pub same_joined : w.joined ≡ v.joined
  pub same_swaps : w.book.swaps ≡ v.book.swaps
  pub same_width : w.book.width ≡ v.book.width
  pub same_told : w.book.told ≡ v.book.told
  pub same_live : w.book.live ≡ v.book.live
  pub same_owned : w.book.owned ≡ v.book.owned
  pub same_posted : w.book.posted ≡ v.book.posted
  pub seen : w.book.seen ≡ set v.book.seen p s
  pub ends : w.book.ends ≡ set v.book.ends p x
  pub longer : IsEnd (seen_at v.book p) s
  pub is_last : IsLast v.first v.spares p x

pub record Chases (v w : Sight) (r p word lost : ℕ) : Type 0 where
  pub sane : IsSane w
  pub inside : p < length w.first
  pub resumes : Resumes w.book r p lost
  pub seen : List ℕ
  pub last : ℕ
  pub trying : StillTries v w p seen last
  pub here : seen_at w.book p ≡ seen
  pub word_is : IsTop w p word
  pub few : lost ≤ length (seen_at w.book p) + late (get_or w.first p 0) (end_at w.book p)

looks_on : (v : Sight) (p : ℕ) (s : List ℕ) (x : ℕ) → IsEnd (seen_at v.book p) s → IsLast v.first v.spares p x → StillTries v (with_book v (book_after_look v.book p s x)) p s x
looks_on v p s x longer is_last = record {
  same_first = refl;
  same_floor = refl;
  same_records = refl;
  same_piece = refl;
  same_spares = refl;
  same_joined = refl;
  same_swaps = refl;
  same_width = refl;
  same_told = refl;
  same_live = refl;
  same_owned = refl;
  same_posted = refl;
  seen = refl;
  ends = refl;
  longer = longer;
  is_last = is_last;
}

pub chase_starts : (v w : Sight) (r p word : ℕ) → p < length v.first → SeesChain v w p (book_after_look v.book p) → IsSane w → IsTop w p word → v.book.under ≡ None → Chases v w r p word 0
chase_starts v w r p word h c sane is idle = record {
  sane = sane;
  inside = subst (λ (z : Sight). p < length z.first) (sym c.after) h;
  resumes = inl (ap (λ (z : Sight). z.book.under) c.after ∙ idle, refl);
  seen = c.chain;
  last = c.last;
  trying = subst (λ (z : Sight). StillTries v z p c.chain c.last) (sym c.after) (looks_on v p c.chain c.last c.longer c.is_last);
  here = c.here;
  word_is = is;
  few = omega arith;
}

pub chase_goes : (v w w' : Sight) (p word lost r found : ℕ) (c : Chases v w r p word lost) → (let l : Sight = sight_after_link w r p lost word in SeesChain l w' p (book_after_loss l.book r p lost)) → IsSane w' → IsTop w' p found → Chases v w' r p found (lost + 1)
chase_goes v w w' p word lost r found c k sane is = let t = c.trying in let s = k.chain in let x = k.last in let l : Sight = sight_after_link w r p lost word in let e = k.after in
    let z : Sight = with_book l (book_after_loss l.book r p lost s x) in
    let under' : w'.book.under ≡ Some (under r p (lost + 1) false) = ap (λ (z : Sight). z.book.under) e in
    let next : StillTries v z p s x = record {
      same_first = t.same_first;
      same_floor = t.same_floor;
      same_records = t.same_records;
      same_piece = t.same_piece;
      same_spares = t.same_spares;
      same_joined = t.same_joined;
      same_swaps = t.same_swaps;
      same_width = t.same_width;
      same_told = t.same_told;
      same_live = t.same_live;
      same_owned = t.same_owned;
      same_posted = t.same_posted;
      seen = ap (λ z. set z p s) t.seen ∙ set_twice v.book.seen p c.seen s;
      ends = ap (λ z. set z p x) t.ends ∙ set_twice v.book.ends p c.last x;
      longer = end_trans (seen_at v.book p) (seen_at w.book p) s (subst (IsEnd (seen_at v.book p)) (sym c.here) t.longer) k.longer;
      is_last = subst (λ (z : List ℕ × List (Option ℕ)). IsLast z.0 z.1 p x) (λ j. (t.same_first j, t.same_spares j)) k.is_last;
    } in record {
      sane = sane;
      inside = subst (λ (z : Sight). p < length z.first) (sym e) c.inside;
      resumes = inr (false, under');
      seen = s;
      last = x;
      trying = subst (λ (y : Sight). StillTries v y p s x) (sym e) next;
      here = k.here;
      word_is = is;
      few = sane.under_few (under r p (lost + 1) false) under';
    }

pub chase_short : (v w : Sight) (p word lost r : ℕ) → Chases v w r p word lost → 0 < owns r v.book → posts_in r v.book.posted ≡ 0 → lost < v.records + 1
chase_short v w p word lost r c own fresh_rec = let t = c.trying in
    let own' : 0 < owns r w.book = subst (λ z. 0 < spans_have r z) (sym t.same_owned) own in
    let none' : posts_in r w.book.posted ≡ 0 = subst (λ z. posts_in r z ≡ 0) (sym t.same_posted) fresh_rec in
    let a = c.sane.fewer p r c.inside own' none' in let b = c.few in let e = t.same_records in let k = late_small (get_or w.first p 0) (end_at w.book p) in omega arith

pub chase_wins : (v w w' : Sight) (p word lost r : ℕ) → Chases v w r p word lost → (let l : Sight = sight_after_link w r p lost word in w' ≡ with_book l (book_after_win l.book r p lost)) → PostsOver v w' r p lost
chase_wins v w w' p word lost r c e = let t = c.trying in
    let seen' : set w.book.seen p (r ∷ seen_at w.book p) ≡ set v.book.seen p (r ∷ c.seen) = ap (λ z. set w.book.seen p (r ∷ z)) c.here ∙ (ap (λ z. set z p (r ∷ c.seen)) t.seen ∙ set_twice v.book.seen p c.seen (r ∷ c.seen)) in
    let wide : length w.book.ends ≡ length w.first = c.sane.end_each_page in let n = length-set v.book.ends p c.last in let i = c.inside in let m : length w.book.ends ≡ length (set v.book.ends p c.last) = ap length t.ends in
    let here' : end_at w.book p ≡ c.last = ap (λ z. get_or z p 0) t.ends ∙ get_or-set_same v.book.ends p c.last 0 (omega arith) in record {
      chain = c.seen;
      last = c.last;
      link = word;
      after = e ∙ λ j. let l : Sight = record v {
        first = t.same_first j;
        floor = t.same_floor j;
        records = t.same_records j;
        piece = t.same_piece j;
        spares = t.same_spares j;
        link = word;
        joined = t.same_joined j;
        book = record v.book { live = t.same_live j; width = t.same_width j; told = t.same_told j; owned = t.same_owned j; posted = t.same_posted j ++ post r p lost ∷ []; under = None; seen = seen' j; ends = t.ends j; swaps = t.same_swaps j };
      } in l;
      longer = t.longer;
      is_last = t.is_last;
      few = subst (λ (z : List ℕ × (List ℕ × ℕ)). lost ≤ length z.0 + late (get_or z.1.0 p 0) z.1.1) (λ j. (c.here j, (t.same_first j, here' j))) c.few;
    }
