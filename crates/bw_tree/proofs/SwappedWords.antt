-- Mapping words of some pages, put in their places, and back.
use Rattle.std.proofs.Common.{◌≡◌, ◌≢◌, ℕ, zero, suc, ◌+◌, ◌<◌, ◌≤◌, add-one, Bool, true, false, ◌==◌, List, [], ◌∷◌, ◌++◌, length, take, drop, get_or, set, Option, Some, None, refl, sym, ap, ◌∙◌, subst, arith, ◌⊎◌, inl, inr, ⊎_elim}
use Rattle.std.specs.Prelude.{slice_get, slice_index}
use Rattle.std.specs.List.{AllByRecursion}
use Rattle.std.specs.Cmp.{unsigned_Decides}
use Rattle.std.proofs.lemmas.List.{length-set, drop-set-lt, map-append, take_more, take_more_set, get_or-set_same, get_or-set_other, set-set, set_comm, set-get_or}
use Rattle.std.proofs.Math.Seq.{drop-cons}
use Rattle.bw_core.specs.World.{one_if, times}
use Rattle.bw_look.specs.View.{TreeView, StageView}
use Rattle.bw_tree.specs.Stages.{IsPosted, IsPostedStage, IsPostedTo}
use Rattle.bw_look.specs.Words.{put_words}
use Rattle.bw_look.proofs.WordLemmas.{put_next}
use Rattle.bw_tree.specs.PageWords.{words_of, IsPostedOn, IsPostedStageOn}

-- a number that stands in no place of a list isn't its first, nor in the rest
pub not_first : (p q : ℕ) (ps : List ℕ) → times p (q ∷ ps) ≡ 0 → (q ≢ p) × (times p ps ≡ 0)
not_first p q ps none = by (q == p) refl
  where
    by : (b : Bool) → (q == p) ≡ b → (q ≢ p) × (times p ps ≡ 0)
    by true is = let one : one_if (q == p) ≡ 1 = ap one_if is in absurd (omega (arith, none, one))
    by false is = (λ e. different (sym is ∙ (unsigned_Decides q p).1 e), let zero_is : one_if (q == p) ≡ 0 = ap one_if is in omega (arith, none, zero_is))
      where
        different : false ≡ true → ⊥
        different e = cc

-- the first of distinct numbers isn't in the rest
not_again : (q : ℕ) (ps : List ℕ) → times q (q ∷ ps) ≤ 1 → times q ps ≡ 0
not_again q ps once = let one : one_if (q == q) ≡ 1 = ap one_if ((unsigned_Decides q q).1 refl) in omega (arith, once, one)

rest_once : (q : ℕ) (ps : List ℕ) → ((p : ℕ) → times p (q ∷ ps) ≤ 1) → (p : ℕ) → times p ps ≤ 1
rest_once q ps once p = omega (arith, once p)

pub length_put : (hs ps ws : List ℕ) → length (put_words hs ps ws) ≡ length hs
length_put hs [] ws = refl
length_put hs (p ∷ ps) [] = refl
length_put hs (p ∷ ps) (w ∷ ws) = length_put (set hs p w) ps ws ∙ length-set hs p w

-- a page that isn't listed keeps its word
pub put_other : (hs ps ws : List ℕ) (p : ℕ) → times p ps ≡ 0 → get_or (put_words hs ps ws) p 0 ≡ get_or hs p 0
put_other hs [] ws p none = refl
put_other hs (q ∷ ps) [] p none = refl
put_other hs (q ∷ ps) (w ∷ ws) p none =
    let apart = not_first p q ps none in
    put_other (set hs q w) ps ws p apart.1 ∙ get_or-set_other hs q p w 0 (λ e. apart.0 (sym e))

-- a listed page has its word
pub put_at : (hs ps ws : List ℕ) (i p : ℕ) → ((q : ℕ) → times q ps ≤ 1) → AllByRecursion (λ q. q < length hs) ps → length ws ≡ length ps → slice_get ps i ≡ Some p → get_or (put_words hs ps ws) p 0 ≡ get_or ws i 0
put_at hs [] ws zero p once there count at = absurd (let e : ◌≡◌ {A = Option ℕ} None (Some p) = at in cc)
put_at hs [] ws (suc i) p once there count at = absurd (let e : ◌≡◌ {A = Option ℕ} None (Some p) = at in cc)
put_at hs (q ∷ ps) [] i p once there count at = absurd (omega (arith, count))
put_at hs (q ∷ ps) (w ∷ ws) zero p once there count at =
    let is : q ≡ p = same at in
    ap (λ (k : ℕ). get_or (put_words (set hs q w) ps ws) k 0) (sym is)
    ∙ put_other (set hs q w) ps ws q (not_again q ps (once q)) ∙ get_or-set_same hs q w 0 there.0
  where
    same : slice_get (q ∷ ps) zero ≡ Some p → q ≡ p
    same e = cc
put_at hs (q ∷ ps) (w ∷ ws) (suc i) p once there count at =
    put_at (set hs q w) ps ws i p (rest_once q ps once) (all_longer ps there.1) (omega (arith, count)) at
  where
    all_longer : (rs : List ℕ) → AllByRecursion (λ r. r < length hs) rs → AllByRecursion (λ r. r < length (set hs q w)) rs
    all_longer [] a = tt
    all_longer (r ∷ rs) a = (subst (λ (n : ℕ). r < n) (sym (length-set hs q w)) a.0, all_longer rs a.1)

-- words of other pages don't mind one that was set
put_set : (hs ps ws : List ℕ) (q x : ℕ) → times q ps ≡ 0 → put_words (set hs q x) ps ws ≡ set (put_words hs ps ws) q x
put_set hs [] ws q x none = refl
put_set hs (p ∷ ps) [] q x none = refl
put_set hs (p ∷ ps) (w ∷ ws) q x none =
    let apart = not_first q p ps none in
    ap (λ (l : List ℕ). put_words l ps ws) (set_comm hs q p x w (λ e. apart.0 (sym e))) ∙ put_set (set hs p w) ps ws q x apart.1

-- the words that stood there, put back
pub put_back : (hs ps ws : List ℕ) → ((q : ℕ) → times q ps ≤ 1) → length ws ≡ length ps → put_words (put_words hs ps ws) ps (words_of hs ps) ≡ hs
put_back hs [] ws once count = refl
put_back hs (q ∷ ps) [] once count = absurd (omega (arith, count))
put_back hs (q ∷ ps) (w ∷ ws) once count =
    let none = not_again q ps (once q) in
    let was = get_or hs q 0 in
    ap (λ (l : List ℕ). put_words (set l q was) ps (words_of hs ps)) (put_set hs ps ws q w none)
    ∙ ap (λ (l : List ℕ). put_words l ps (words_of hs ps)) (set-set (put_words hs ps ws) q w was)
    ∙ put_set (put_words hs ps ws) ps (words_of hs ps) q was none
    ∙ ap (λ (l : List ℕ). set l q was) (put_back hs ps ws (rest_once q ps once) (omega (arith, count)))
    ∙ set-get_or hs q 0

-- the words of the first n pages are swapped
pub record AreSwapped (old new pages given words : List ℕ) (n : ℕ) : Type 0 where
  pub put : put_words new (drop n pages) (drop n given) ≡ put_words old pages given
  pub taken : take n words ≡ words_of old (take n pages)
  pub given_rest : drop n words ≡ drop n given
  pub rest : (p : ℕ) → 0 < times p (drop n pages) → get_or new p 0 ≡ get_or old p 0
  pub once : (p : ℕ) → times p (drop n pages) ≤ 1
  pub size : length new ≡ length old
  pub count : length words ≡ length given

pub swapped_none : (hs ps ws : List ℕ) → ((p : ℕ) → times p ps ≤ 1) → AreSwapped hs hs ps ws ws 0
swapped_none hs ps ws once = record { put = refl; taken = refl; given_rest = refl; rest = λ p some. refl; once = once; size = refl; count = refl }

pub swapped_next : (old new ps given words : List ℕ) (n p : ℕ) → n < length ps → length given ≡ length ps → p ≡ get_or ps n p → p < length old →
    AreSwapped old new ps given words n → AreSwapped old (set new p (get_or words n 0)) ps given (set words n (get_or new p 0)) (n + 1)
swapped_next old new ps given words n p lt count is within s = record {
  put = ap (λ (w : ℕ). put_words (set new p w) (drop (n + 1) ps) (drop (n + 1) given)) same_word ∙ sym (put_next new ps given n p lt (omega (arith, lt, count)) is) ∙ s.put;
  taken =
      take_more_set words n (get_or new p 0) in_words
      ∙ ap (λ (l : List ℕ). l ++ get_or new p 0 ∷ []) s.taken
      ∙ ap (λ (w : ℕ). words_of old (take n ps) ++ w ∷ []) (s.rest p first)
      ∙ sym (ap (words_of old) (take_more ps n p lt ∙ ap (λ (q : ℕ). take n ps ++ q ∷ []) (sym is)) ∙ map-append (slice_index old) (take n ps) (p ∷ []));
  given_rest = drop-set-lt (n + 1) words n (get_or new p 0) (omega arith) ∙ rw add-one same_rest;
  rest = λ q some. get_or-set_other new p q (get_or words n 0) 0 (λ e. not_here q some e) ∙ s.rest q (further q some);
  once = λ q. omega (arith, s.once q, parted q);
  size = length-set new p (get_or words n 0) ∙ s.size;
  count = length-set words n (get_or new p 0) ∙ s.count;
}
  where
    parts : drop n ps ≡ p ∷ drop (n + 1) ps
    parts = drop-cons ps n p lt ∙ ap (λ (q : ℕ). q ∷ drop (suc n) ps) (sym is) ∙ rw add-one refl

    parted : (q : ℕ) → times q (drop n ps) ≡ one_if (p == q) + times q (drop (n + 1) ps)
    parted q = ap (times q) parts

    first : 0 < times p (drop n ps)
    first = let one : one_if (p == p) ≡ 1 = ap one_if ((unsigned_Decides p p).1 refl) in omega (arith, parted p, one)

    further : (q : ℕ) → 0 < times q (drop (n + 1) ps) → 0 < times q (drop n ps)
    further q some = omega (arith, some, parted q)

    not_here : (q : ℕ) → 0 < times q (drop (n + 1) ps) → q ≡ p → ⊥
    not_here q some e =
        let one : one_if (p == q) ≡ 1 = ap one_if ((unsigned_Decides p q).1 (sym e)) in
        omega (arith, some, s.once q, parted q, one)

    in_given : n < length given
    in_given = omega (arith, lt, count)

    in_words : n < length words
    in_words = omega (arith, lt, count, s.count)

    same_word : get_or words n 0 ≡ get_or given n 0
    same_word =
        sym (ap (λ (l : List ℕ). get_or l 0 0) (drop-cons words n 0 in_words))
        ∙ ap (λ (l : List ℕ). get_or l 0 0) s.given_rest ∙ ap (λ (l : List ℕ). get_or l 0 0) (drop-cons given n 0 in_given)

    same_rest : drop (suc n) words ≡ drop (suc n) given
    same_rest = sym (ap (drop 1) (drop-cons words n 0 in_words)) ∙ ap (drop 1) s.given_rest ∙ ap (drop 1) (drop-cons given n 0 in_given)

-- a number that stands in a list has a place there
place_of : (p : ℕ) (ps : List ℕ) → 0 < times p ps → (i : ℕ) × (slice_get ps i ≡ Some p) × (i < length ps)
place_of p [] some = absurd (omega (arith, some))
place_of p (q ∷ ps) some = by (q == p) refl (place_of p ps)
  where
    by : (b : Bool) → (q == p) ≡ b → (0 < times p ps → (i : ℕ) × (slice_get ps i ≡ Some p) × (i < length ps)) → (i : ℕ) × (slice_get (q ∷ ps) i ≡ Some p) × (i < length (q ∷ ps))
    by true is rest = (0, ap Some ((unsigned_Decides q p).0 is), omega arith)
    by false is rest =
        let zero_is : one_if (q == p) ≡ 0 = ap one_if is in
        let behind = rest (omega (arith, some, zero_is)) in
        (suc behind.0, behind.1, omega (arith, behind.2))

listed_or_not : (p : ℕ) (ps : List ℕ) → (times p ps ≡ 0) ⊎ (0 < times p ps)
listed_or_not p ps = by (times p ps) refl
  where
    by : (n : ℕ) → times p ps ≡ n → (times p ps ≡ 0) ⊎ (0 < times p ps)
    by zero is = inl is
    by (suc n) is = inr (omega (arith, is))

-- what is posted on some pages is posted on all
pub posted_on_all : (tree : TreeView) (stage : StageView) (pages heads links : List ℕ) → IsPostedOn tree stage pages heads links → IsPosted tree stage (put_words tree.heads pages heads) links
posted_on_all tree stage pages heads links posted = record {
  pages = length_put tree.heads pages heads;
  records = posted.records;
  chains = λ p lt. ⊎_elim (untouched p) (touched p) (listed_or_not p pages);
}
  where
    touched : (p : ℕ) → 0 < times p pages → IsPostedTo tree stage links (slice_index (put_words tree.heads pages heads) p) p
    touched p some =
        let place = place_of p pages some in
        subst (λ (word : ℕ). IsPostedTo tree stage links word p) (sym (put_at tree.heads pages heads place.0 p posted.listed.once posted.listed.there posted.count place.1)) (posted.chains place.0 p place.1)

    untouched : (p : ℕ) → times p pages ≡ 0 → IsPostedTo tree stage links (slice_index (put_words tree.heads pages heads) p) p
    untouched p none = record {
      chain = [];
      way = put_other tree.heads pages heads p none;
      once = λ r. omega arith;
      here = λ r w at home. absurd (let some : 0 < times p pages = posted.homes r p w at home in omega (arith, some, none));
      only = λ r w at some. absurd (omega (arith, some));
    }

pub spread_stage : (tree : TreeView) (staged : Option StageView) (pages heads links : List ℕ) → IsPostedStageOn tree staged pages heads links → IsPostedStage tree staged (put_words tree.heads pages heads) links
spread_stage tree None pages heads links posted = posted
spread_stage tree (Some stage) pages heads links posted = (posted.0, posted_on_all tree stage pages heads links posted.1)

pub all_there : (h : ℕ) (ps : List ℕ) (i p : ℕ) → i < length ps → p ≡ get_or ps i p → AllByRecursion (λ q. q < h) ps → p < h
all_there h [] i p lt is a = absurd (omega (arith, lt))
all_there h (q ∷ ps) zero p lt is a = subst (λ (k : ℕ). k < h) (sym is) a.0
all_there h (q ∷ ps) (suc i) p lt is a = all_there h ps i p (omega (arith, lt)) is a.1
