-- Reading a page's chain.
use Rattle.std.proofs.Common.{◌≡◌, ℕ, ◌-◌, ◌<◌, ◌≤◌, List, [], ◌∷◌, ◌++◌, length, length-append, get_or, sym, refl, ap, ◌∙◌, subst, arith, append_assoc, append-nil}
use Rattle.bw_core.specs.World.{World, Meets, Lawful}
use Rattle.bw_core.proofs.Lists.{few, meets_low}
use Rattle.bw_core.proofs.Events.{last_low}

-- `items` were read from the head on, and `word` comes next
pub record Reads (floor : ℕ) (links : List ℕ) (head last word : ℕ) (items : List ℕ) : Type 0 where
  pub rest : List ℕ
  pub met : Meets floor links head (items ++ rest) last
  pub next : Meets floor links word rest last
  pub short : length (items ++ rest) ≤ length links
  pub low : last < floor

pub reads_start : (w : World) (q : Lawful w) (p : ℕ) → p < length w.first → Reads w.floor w.links (get_or w.heads p 0) (q.last p) (get_or w.heads p 0) []
reads_start w q p h = record {
  rest = q.fresh p;
  met = q.met p h;
  next = q.met p h;
  short = few (length w.links) (q.fresh p) (meets_low w.floor w.links (get_or w.heads p 0) (q.fresh p) (q.last p) (q.met p h)) (λ r. q.once p r h);
  low = last_low w q p h;
}

module _ (floor : ℕ) (links : List ℕ) (head last : ℕ) where
  taken : (word : ℕ) (rest : List ℕ) → Meets floor links word rest last → last < floor → floor ≤ word → (tail : List ℕ) × (rest ≡ (word - floor) ∷ tail) × (word - floor < length links) × Meets floor links (get_or links (word - floor) 0) tail last
  taken word [] m low h = absurd (omega arith)
  taken word (r ∷ rest) m low h = let e : r ≡ word - floor = (let a = m.0 in omega arith) in (rest, ap (λ z. z ∷ rest) e, subst (λ z. z < length links) e m.1, subst (λ z. Meets floor links (get_or links z 0) rest last) e m.2)

  pub reads_record : (word : ℕ) (items : List ℕ) → Reads floor links head last word items → floor ≤ word → word - floor < length links
  reads_record word items k h = (taken word k.rest k.next k.low h).2

  pub reads_next : (word : ℕ) (items : List ℕ) → Reads floor links head last word items → floor ≤ word → Reads floor links head last (get_or links (word - floor) 0) (items ++ (word - floor) ∷ [])
  reads_next word items k h = let t = taken word k.rest k.next k.low h in
      let e : items ++ k.rest ≡ (items ++ (word - floor) ∷ []) ++ t.0 = ap (λ z. items ++ z) t.1 ∙ sym (append_assoc items ((word - floor) ∷ []) t.0) in record {
        rest = t.0;
        met = subst (λ z. Meets floor links head z last) e k.met;
        next = t.3;
        short = subst (λ z. length z ≤ length links) e k.short;
        low = k.low;
      }

  pub reads_less : (word : ℕ) (items : List ℕ) → Reads floor links head last word items → floor ≤ word → length items < length links
  reads_less word items k h = let t = taken word k.rest k.next k.low h in let s = k.short in omega (arith, ap length t.1, length-append items k.rest)

  none_left : (word : ℕ) (rest : List ℕ) → Meets floor links word rest last → word < floor → rest ≡ []
  none_left word [] m h = refl
  none_left word (r ∷ rest) m h = absurd (let a = m.0 in omega arith)

  pub reads_end : (word : ℕ) (items : List ℕ) → Reads floor links head last word items → word < floor → Meets floor links head items word × (word < floor)
  reads_end word items k h = let none = none_left word k.rest k.next h in let same : word ≡ last = subst (λ z. Meets floor links word z last) none k.next in
      (subst (λ z. Meets floor links head items z) (sym same) (subst (λ z. Meets floor links head z last) (ap (λ z. items ++ z) none ∙ append-nil items) k.met), h)
