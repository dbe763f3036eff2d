-- Where a search ends, by what a leaf's range says alone.
use Rattle.std.proofs.Common.{◌≡◌, Bool, true, false, not, ◌&&◌, Option, Some, None, is_some, refl, sym}
use Rattle.std.specs.Prelude.{IfSome}
use Rattle.bw_level.specs.declared.target.Target.{Target}
use Rattle.bw_level.specs.declared.turns.Turn.TheVariants.{Here}
use Rattle.bw_level.specs.Slots.{Slot, Body, Pairs, Children, Free, Gone, Live, body_is_leaf, level_of}
use Rattle.bw_level.specs.LeafEnds.{ends_at}
use Rattle.bw_level.specs.Targets.{IsTurnFor, lies_past}
use Rattle.bw_level.proofs.TurnLemmas.{stays}

different : false ≡ true → ⊥
different e = cc

-- where a search ends, it goes nowhere else
pub ends_here : (target : Target) (slot : Slot) → ends_at target slot ≡ true → IsTurnFor target slot Here
ends_here target Free ends = absurd (different ends)
ends_here target (Gone l) ends = absurd (different ends)
ends_here target (Live s) ends = stays target (Live s) Here (inside (lies_past target s.high) (both s.body ends).1) (λ key stands. (both s.body ends).0)
  where
    inside : (b : Bool) → not b ≡ true → b ≡ false
    inside false e = refl
    inside true e = sym e

    both : (b : Body) → (body_is_leaf b && not (lies_past target s.high)) ≡ true → (level_of b ≡ 0) × (not (lies_past target s.high) ≡ true)
    both (Pairs pairs writes) e = (refl, e)
    both (Children level children) e = absurd (different e)

-- what holds of an answer that is there, with the test that it is there
pub where_some : {X : Type 0} (P : X → Type 0) (o : Option X) (b : Bool) → is_some o ≡ b → IfSome o P → IfSome o (λ x. P x × (b ≡ true))
where_some P None b is h = h
where_some P (Some x) b is h = (h, sym is)
