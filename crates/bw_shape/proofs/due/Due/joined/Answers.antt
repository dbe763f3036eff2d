use Rattle.std.proofs.Common.{◌≡◌, ◌++◌, List, ℕ, ap, subst, sym, ◌∙◌}
use Rattle.std.proofs.lemmas.List.Elements.{Contains-append_cases, Contains-append_left, Contains-append_right}
use Rattle.std.proofs.lemmas.List.Filters.{dedup_is}
use Rattle.std.proofs.lemmas.List.Kept.{Contains-dedup_nat, Contains-from_dedup}
use Rattle.std.specs.List.{Contains}
use Rattle.bw_shape.proofs.due.Due.joined.Goals as goal

pub returns-clause-both : goal.returns-clause-both
returns-clause-both c =
    let added = c.args.pages.items in
    let due = c.args.self.now.pages in
    let all = c.extend_from_slice.new.self.items in
    let sorted = c.sort_by_low_key.new.pages.items in
    let parts : all ≡ added ++ due = c.in_ok-extend_from_slice.ensures.items ∙ ap (λ (l : List ℕ). added ++ l) (c.deref.ensures.value ∙ ap (λ v. v.pages) c.self.view_is) in
    let once = dedup_is _ sorted c.dedup.new.self.items c.dedup.ensures.filtered in
    let there = λ (p : ℕ) (has : Contains (added ++ due) p). subst (λ (l : List ℕ). Contains l p) (sym once)
    (Contains-dedup_nat sorted p (c.sort_by_low_key.ensures.kept p (subst (λ (l : List ℕ). Contains l p) (sym parts) has))) in
    record {
      left = λ p has. there p (Contains-append_left added due p has);
      right = λ p has. there p (Contains-append_right added due p has);
      only = λ p has. Contains-append_cases added due p (subst (λ (l : List ℕ). Contains l p) parts (c.sort_by_low_key.ensures.only p (Contains-from_dedup _ sorted p (subst (λ (l : List ℕ). Contains l p) once has))));
    }
