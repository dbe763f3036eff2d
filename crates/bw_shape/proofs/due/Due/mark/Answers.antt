use Rattle.std.proofs.Common.{◌≡◌, ◌++◌, List, ℕ, ap, subst, sym, ◌∙◌}
use Rattle.std.proofs.lemmas.List.Elements.{Contains-append_cases, Contains-append_left, Contains-append_right}
use Rattle.std.proofs.lemmas.List.Filters.{dedup_is}
use Rattle.std.proofs.lemmas.List.Kept.{Contains-dedup_nat, Contains-from_dedup}
use Rattle.std.proofs.lemmas.List.Sorted.{Contains-permutation, IsPermutation-sym}
use Rattle.std.specs.List.{Contains}
use Rattle.bw_shape.proofs.due.Due.mark.Goals as goal

pub returns-clause-ok : goal.returns-clause-ok
returns-clause-ok c =
    let leaves = c.args.leaves.now in
    let marked = c.args.self.now.marked in
    let sorted = c.sort_unstable.new.self.items in
    let parts : c.extend_from_slice.new.self.items ≡ marked ++ leaves = c.in_ok-extend_from_slice.ensures.items ∙ ap (λ (l : List ℕ). l ++ leaves) (ap (λ v. v.marked) c.self.view_is) in
    let once = dedup_is _ sorted c.dedup.new.self.items c.dedup.ensures.filtered in
    let turned = c.sort_unstable.ensures.permutation in
    let there = λ (p : ℕ) (has : Contains (marked ++ leaves) p). subst (λ (l : List ℕ). Contains l p) (sym once)
    (Contains-dedup_nat sorted p (Contains-permutation _ _ p turned (subst (λ (l : List ℕ). Contains l p) (sym parts) has))) in
    record {
      left = λ p has. there p (Contains-append_left marked leaves p has);
      right = λ p has. there p (Contains-append_right marked leaves p has);
      only = λ p has. Contains-append_cases marked leaves p (subst (λ (l : List ℕ). Contains l p) parts (Contains-permutation _ _ p (IsPermutation-sym _ _ turned) (Contains-from_dedup _ sorted p (subst (λ (l : List ℕ). Contains l p) once has))));
    }
