-- What holds while a chain is read.
use Rattle.std.proofs.Common.{eqb, ◌≡◌, ℕ, ◌-◌, ◌<◌, ◌≤◌, List, [], ◌∷◌, ◌++◌, length, length-append, sym, refl, ap, ◌∙◌, subst, arith, append_assoc, append-nil}
use Rattle.std.specs.List.{AllByRecursion}
use Rattle.bw_core.specs.World.{one_if, times, seen_at, end_at, top}
use Rattle.bw_core.specs.Events.{book_after_look}
use Rattle.bw_core.proofs.Lists.{total-append, one_same}
use Rattle.bw_board.specs.declared.table.Sight.{Sight}
use Rattle.bw_board.specs.Plays.{IsSane, IsTop, SeesChain}

-- the seat that was v has seen a chain at page p, of which `items` were read and `word` comes next
pub record Walks (v w : Sight) (p word : ℕ) (items : List ℕ) : Type 0 where
  pub sane : IsSane w
  pub inside : p < length w.first
  pub sees : SeesChain v w p (book_after_look v.book p)
  pub rest : List ℕ
  pub parts : seen_at w.book p ≡ items ++ rest
  pub under : ℕ
  pub under_low : under < w.floor
  pub word_is : word ≡ top w.floor under rest

pub walk_starts : (v w : Sight) (p word : ℕ) → p < length v.first → SeesChain v w p (book_after_look v.book p) → IsSane w → IsTop w p word → Walks v w p word []
walk_starts v w p word h c sane is = let inside : p < length w.first = subst (λ (z : Sight). p < length z.first) (sym c.after) h in record {
  sane = sane;
  inside = inside;
  sees = c;
  rest = seen_at w.book p;
  parts = refl;
  under = end_at w.book p;
  under_low = sane.ends_low p inside;
  word_is = is;
}

rest_is : (fl first word : ℕ) (rest : List ℕ) → word ≡ top fl first rest → first < fl → fl ≤ word → (tail : List ℕ) × (rest ≡ (word - fl) ∷ tail)
rest_is fl first word [] is low h = absurd (omega arith)
rest_is fl first word (r ∷ rest) is low h = let e : r ≡ word - fl = omega arith in (rest, ap (λ z. z ∷ rest) e)

pub walk_next : (v w : Sight) (p word : ℕ) (items : List ℕ) (k : Walks v w p word items) → w.floor ≤ word → (tail : List ℕ) × (seen_at w.book p ≡ items ++ (word - w.floor) ∷ tail) × (k.rest ≡ (word - w.floor) ∷ tail)
walk_next v w p word items k h = let t = rest_is w.floor k.under word k.rest k.word_is k.under_low h in (t.0, k.parts ∙ ap (λ z. items ++ z) t.1, t.1)

all_end : (P : ℕ → Type 0) (front : List ℕ) (x : ℕ) (rest : List ℕ) → AllByRecursion P (front ++ x ∷ rest) → P x
all_end P [] x rest h = h.0
all_end P (y ∷ front) x rest h = all_end P front x rest h.1

pub walk_record : (v w : Sight) (p word : ℕ) (items : List ℕ) → Walks v w p word items → w.floor ≤ word → word - w.floor < w.records
walk_record v w p word items k h = let t = walk_next v w p word items k h in all_end (λ r. r < w.records) items (word - w.floor) t.0 (subst (AllByRecursion (λ r. r < w.records)) t.1 (k.sane.low p k.inside))

-- that record is one that the seat has seen
pub walk_seen : (v w : Sight) (p word : ℕ) (items : List ℕ) → Walks v w p word items → w.floor ≤ word → 0 < times (word - w.floor) (seen_at w.book p)
walk_seen v w p word items k h = let t = walk_next v w p word items k h in let r : ℕ = word - w.floor in let one = one_same r r refl in
    subst (λ z. 0 < times r z) (sym t.1) (omega (arith, total-append (λ x. one_if (eqb x r)) items (r ∷ t.0)))

pub walk_goes : (v w : Sight) (p word found : ℕ) (items : List ℕ) (k : Walks v w p word items) (h : w.floor ≤ word)
    → ((front rest : List ℕ) → seen_at w.book p ≡ front ++ (word - w.floor) ∷ rest → (x : ℕ) × (found ≡ top w.floor x rest) × (x < w.floor)) → Walks v w p found (items ++ (word - w.floor) ∷ [])
walk_goes v w p word found items k h told = let t = walk_next v w p word items k h in record {
  sane = k.sane;
  inside = k.inside;
  sees = k.sees;
  rest = t.0;
  parts = t.1 ∙ sym (append_assoc items ((word - w.floor) ∷ []) t.0);
  under = (told items t.0 t.1).0;
  under_low = (told items t.0 t.1).2;
  word_is = (told items t.0 t.1).1;
}

no_rest : (fl first word : ℕ) (rest : List ℕ) → word ≡ top fl first rest → word < fl → rest ≡ []
no_rest fl first word [] is h = refl
no_rest fl first word (r ∷ rest) is h = absurd (omega arith)

pub walk_ends : (v w : Sight) (p word : ℕ) (items : List ℕ) (k : Walks v w p word items) → word < w.floor → items ≡ seen_at w.book p
walk_ends v w p word items k h = sym (k.parts ∙ (ap (λ z. items ++ z) (no_rest w.floor k.under word k.rest k.word_is h) ∙ append-nil items))

-- what is left to read
pub walk_less : (v w : Sight) (p word : ℕ) (items : List ℕ) → Walks v w p word items → w.floor ≤ word → length items < length (seen_at w.book p)
walk_less v w p word items k h = let t = walk_next v w p word items k h in omega (arith, ap length t.1, length-append items ((word - w.floor) ∷ t.0))
