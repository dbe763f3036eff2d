-- Claimed pieces: a step of the claim word keeps their part of the rule, and does not wrap.
use Rattle.std.proofs.Common.{◌⊎◌, inl, inr, refl, ◌≡◌, ℕ, suc, ◌+◌, ◌-◌, ◌*◌, ◌/◌, ◌^◌, ◌<◌, ◌≤◌, ◌≢◌, ⊎_elim, leb, ltb, min, Bool, true, false, cond, ◌&&◌, ◌||◌, List, [], ◌∷◌, ◌++◌, set, sym, ap, ◌∙◌, subst, arith}
use Rattle.std.proofs.Math.Nat.{mul-le-mul_left}
use mathlib.Core.Option.{some}
use native.Mathlib.Decide.{dec_lt}
use lib.ListN.{get_elem?}
use Rattle.std.proofs.lemmas.Bool.Decides.{nat_tests}
use Rattle.bw_core.specs.declared.Span.{Span}
use Rattle.bw_core.specs.World.{one_if, total, owns, open_width, rounded, Claimed, spent}
use Rattle.bw_core.specs.Events.{span, book_after_claim, book_without_pieces, left_book, right_book, book_after_join}
use Rattle.bw_core.specs.declared.BookView.{BookView}
use Rattle.bw_core.specs.declared.Played.TheVariants.{Done, NotAllowed}
use Rattle.bw_core.specs.Keeping.{ClaimTakesFree, ToldIsClaimed, OwnsAlone}
use Rattle.bw_core.proofs.Lists.{total-append, total_set, total_two, at_set, at_snoc}

covers : (piece records next r : ℕ) → next < records → one_if (ltb r (min next records)) + (one_if (leb next r && ltb r (min (next + piece) records)) + 0) ≡ one_if (ltb r (min (next + piece) records))
covers piece records next r h = grind (arith, nat_tests)

same_cover : (piece records next r : ℕ) → records ≤ next → one_if (ltb r (min next records)) ≡ one_if (ltb r (min (next + piece) records))
same_cover piece records next r h = let a : min next records ≡ records = omega arith in let b : min (next + piece) records ≡ records = omega arith in ap (λ z. one_if (ltb r z)) (a ∙ sym b)

up_is : (piece records : ℕ) → 0 < piece → records ≤ rounded piece records
up_is piece records h = omega arith

step_up : (piece records k : ℕ) → 0 < piece → piece * k < records → piece * k + piece ≤ rounded piece records
step_up piece records k h less = let m : ℕ = (records + (piece - 1)) / piece in let u : records ≤ piece * m = up_is piece records h in
    elim (dec_lt k m) [ yes d ↦ (let e : piece * suc k ≤ piece * m = mul-le-mul_left piece d in omega arith) | no n ↦ (let e : piece * m ≤ piece * k = mul-le-mul_left piece (omega arith) in absurd (omega arith)) ]

open_part : (bs : List BookView) → total open_width bs ≤ total (λ b. b.width) bs
open_part [] = omega arith
open_part (b ∷ bs) = let h = open_part bs in elim b.told as (λ t. cond t 0 b.width + total open_width bs ≤ b.width + total (λ b. b.width) bs) [ true ↦ omega arith | false ↦ omega arith ]

pub claim_takes : (piece records next : ℕ) (bs : List BookView) (i : ℕ) (b : BookView) → Claimed piece records next bs → get_elem? bs i ≡ some b → next < records → b.told ≡ false → Claimed piece records (next + piece) (set bs i (book_after_claim piece records next b))
claim_takes piece records next bs i b q at h fresh = let c : BookView = book_after_claim piece records next b in record {
  some_piece = q.some_piece;
  owned_is = λ r. let k = q.owned_is r in let t = total_set (λ (b : BookView). owns r b) bs i b c at in
      let a = total-append (λ (s : Span). one_if (leb s.from r && ltb r s.to)) b.owned (span next (min (next + piece) records) ∷ []) in let e = covers piece records next r h in omega arith;
  told_done = λ j d e told. ⊎_elim (λ (t : (j ≡ i) × (c ≡ d)). let f : false ≡ true = sym fresh ∙ (ap (λ (z : BookView). z.told) t.1 ∙ told) in absurd (cc))
      (λ (t : (j ≢ i) × (get_elem? bs j ≡ some d)). let o = q.told_done j d t.1 told in omega arith) (at_set bs i j c d e);
  widths = let t = total_set (λ (b : BookView). b.width) bs i b c at in let w = q.widths in omega arith;
  stride = (q.stride.0 + 1, let e = q.stride.1 in omega arith);
  room = let t = total_set open_width bs i b c at in let s = q.stride.1 in let u = step_up piece records q.stride.0 q.some_piece (omega arith) in
      let p = open_part bs in let w = q.widths in let same : total open_width (set bs i c) ≡ total open_width bs = omega arith in
      let le : piece * total open_width bs ≤ piece * 1024 = mul-le-mul_left piece (omega arith) in subst (λ z. next + piece + piece * z ≤ rounded piece records + piece * 1024) (sym same) (omega arith);
}

pub claim_tells : (piece records next : ℕ) (bs : List BookView) (i : ℕ) (b : BookView) → Claimed piece records next bs → get_elem? bs i ≡ some b → records ≤ next → b.told ≡ false → 0 < b.width → Claimed piece records (next + piece) (set bs i (book_without_pieces b))
claim_tells piece records next bs i b q at h fresh wide = let c : BookView = book_without_pieces b in record {
  some_piece = q.some_piece;
  owned_is = λ r. let k = q.owned_is r in let t = total_set (λ (b : BookView). owns r b) bs i b c at in let e = same_cover piece records next r h in omega arith;
  told_done = λ j d e told. omega arith;
  widths = let t = total_set (λ (b : BookView). b.width) bs i b c at in let w = q.widths in omega arith;
  stride = (q.stride.0 + 1, let e = q.stride.1 in omega arith);
  room = let t = total_set open_width bs i b c at in let o : open_width b ≡ b.width = ap (λ z. cond z 0 b.width) fresh in
      let le : piece * (total open_width (set bs i c) + 1) ≤ piece * total open_width bs = mul-le-mul_left piece (omega arith) in let r = q.room in omega arith;
}

pub no_wrap : (piece records next : ℕ) (bs : List BookView) → Claimed piece records next bs → records ≤ 2 ^ 33 → piece ≤ 4096 → next + piece < 2 ^ 64
no_wrap piece records next bs q a b = let r = q.room in let p = q.some_piece in let u : rounded piece records ≤ records + piece = omega arith in omega arith

-- another event leaves what was claimed
pub claimed_same : (piece records next : ℕ) (bs : List BookView) (i : ℕ) (b c : BookView) → Claimed piece records next bs → get_elem? bs i ≡ some b → ((r : ℕ) → owns r c ≡ owns r b) → c.width ≡ b.width → c.told ≡ b.told → Claimed piece records next (set bs i c)
claimed_same piece records next bs i b c q at own width told = record {
  some_piece = q.some_piece;
  owned_is = λ r. let k = q.owned_is r in let t = total_set (λ (b : BookView). owns r b) bs i b c at in let o = own r in omega arith;
  told_done = λ j d e done. ⊎_elim (λ (t : (j ≡ i) × (c ≡ d)). q.told_done i b at (sym told ∙ (ap (λ (z : BookView). z.told) t.1 ∙ done))) (λ (t : (j ≢ i) × (get_elem? bs j ≡ some d)). q.told_done j d t.1 done) (at_set bs i j c d e);
  widths = let t = total_set (λ (b : BookView). b.width) bs i b c at in let w = q.widths in omega arith;
  stride = q.stride;
  room = let t = total_set open_width bs i b c at in let o : open_width c ≡ open_width b = (λ j. cond (told j) 0 (width j)) in let same : total open_width (set bs i c) ≡ total open_width bs = omega arith in
      subst (λ z. next + piece * z ≤ rounded piece records + piece * 1024) (sym same) q.room;
}

halves : (t : Bool) (n : ℕ) → cond t 0 (n - n / 2) + cond t 0 (n / 2) ≡ cond t 0 n
halves true n = refl
halves false n = omega arith

pub claimed_split : (piece records next : ℕ) (bs : List BookView) (i : ℕ) (b : BookView) → Claimed piece records next bs → get_elem? bs i ≡ some b → Claimed piece records next (set bs i (left_book b) ++ right_book b ∷ [])
claimed_split piece records next bs i b q at = let l : BookView = left_book b in let r : BookView = right_book b in record {
  some_piece = q.some_piece;
  owned_is = λ z. let k = q.owned_is z in let t = total_set (λ (b : BookView). owns z b) bs i b l at in let a = total-append (λ (b : BookView). owns z b) (set bs i l) (r ∷ []) in omega arith;
  told_done = λ j d e done. ⊎_elim (λ (e : get_elem? (set bs i l) j ≡ some d). ⊎_elim (λ (t : (j ≡ i) × (l ≡ d)). q.told_done i b at (ap (λ (z : BookView). z.told) t.1 ∙ done))
      (λ (t : (j ≢ i) × (get_elem? bs j ≡ some d)). q.told_done j d t.1 done) (at_set bs i j l d e)) (λ (e : r ≡ d). q.told_done i b at (ap (λ (z : BookView). z.told) e ∙ done)) (at_snoc (set bs i l) r d j e);
  widths = let t = total_set (λ (b : BookView). b.width) bs i b l at in let a = total-append (λ (b : BookView). b.width) (set bs i l) (r ∷ []) in let w = q.widths in omega arith;
  stride = q.stride;
  room = let t = total_set open_width bs i b l at in let a = total-append open_width (set bs i l) (r ∷ []) in let h = halves b.told b.width in
      let same : total open_width (set bs i l ++ r ∷ []) ≡ total open_width bs = omega arith in subst (λ z. next + piece * z ≤ rounded piece records + piece * 1024) (sym same) q.room;
}

both_open : (s t : Bool) (m n : ℕ) → cond (s || t) 0 (m + n) ≤ cond s 0 m + cond t 0 n
both_open true t m n = omega arith
both_open false true m n = omega arith
both_open false false m n = omega arith

or_told : (s t : Bool) (P : Type 0) → (s ≡ true → P) → (t ≡ true → P) → (s || t) ≡ true → P
or_told true t P f g h = f refl
or_told false t P f g h = g h

pub claimed_join : (first : List ℕ) (piece records next : ℕ) (bs : List BookView) (i j : ℕ) (b d : BookView) → Claimed piece records next bs → get_elem? bs i ≡ some b → get_elem? bs j ≡ some d → get_elem? (set bs i (book_after_join first b d)) j ≡ some d
    → Claimed piece records next (set (set bs i (book_after_join first b d)) j spent)
claimed_join first piece records next bs i j b d q at there there' = let c : BookView = book_after_join first b d in record {
  some_piece = q.some_piece;
  owned_is = λ z. let k = q.owned_is z in let s = total_set (λ (b : BookView). owns z b) bs i b c at in let t = total_set (λ (b : BookView). owns z b) (set bs i c) j d spent there' in
      let a = total-append (λ (s : Span). one_if (leb s.from z && ltb z s.to)) b.owned d.owned in omega arith;
  told_done = λ k x is done. ⊎_elim (λ (t : (k ≡ j) × (spent ≡ x)). let f : false ≡ true = ap (λ (z : BookView). z.told) t.1 ∙ done in absurd (cc))
      (λ (t : (k ≢ j) × (get_elem? (set bs i c) k ≡ some x)). ⊎_elim (λ (u : (k ≡ i) × (c ≡ x)). or_told b.told d.told (records ≤ next) (q.told_done i b at) (q.told_done j d there) (ap (λ (z : BookView). z.told) u.1 ∙ done))
      (λ (u : (k ≢ i) × (get_elem? bs k ≡ some x)). q.told_done k x u.1 done) (at_set bs i k c x t.1)) (at_set (set bs i c) j k spent x is);
  widths = let s = total_set (λ (b : BookView). b.width) bs i b c at in let t = total_set (λ (b : BookView). b.width) (set bs i c) j d spent there' in let w = q.widths in omega arith;
  stride = q.stride;
  room = let s = total_set open_width bs i b c at in let t = total_set open_width (set bs i c) j d spent there' in let o = both_open b.told d.told b.width d.width in
      let less : total open_width (set (set bs i c) j spent) ≤ total open_width bs = omega arith in let le : piece * total open_width (set (set bs i c) j spent) ≤ piece * total open_width bs = mul-le-mul_left piece less in
      let r = q.room in omega arith;
}

pub claimed_low : (piece records next : ℕ) (bs : List BookView) (r : ℕ) → Claimed piece records next bs → records ≤ r → total (owns r) bs ≡ 0
claimed_low piece records next bs r q h = q.owned_is r ∙ none_there r (min next records) (omega arith)
  where
    none_there : (r n : ℕ) → n ≤ r → one_if (ltb r n) ≡ 0
    none_there r n h = grind (arith, nat_tests)

-- which records have an owner
all_below : (r next records : ℕ) → r < records → records ≤ next → one_if (ltb r (min next records)) ≡ 1
all_below r next records h n = grind (arith, nat_tests)

none_from : (r next records : ℕ) → next ≤ r → one_if (ltb r (min next records)) ≡ 0
none_from r next records h = grind (arith, nat_tests)

pub told_is_claimed : ToldIsClaimed
told_is_claimed w q seat b at told r h = q.claims.owned_is r ∙ all_below r w.next w.records h (q.claims.told_done seat b at told)

answered : (m n : ℕ) → Done m ≡ Done n → m ≡ n
answered m n e = cc

pub claim_takes_free : ClaimTakesFree
claim_takes_free w q seat next w' (inl t) r h k = let e = answered next w.next t.3 in q.claims.owned_is r ∙ none_from r w.next w.records (omega arith)
claim_takes_free w q seat next w' (inr t) r h k = let e : Done next ≡ NotAllowed = t.1.1 in absurd (cc)

pub owns_alone : OwnsAlone
owns_alone w q i j r b d at there n own = omega (arith, total_two (owns r) w.books i j b d n at there, q.owned_once r)
