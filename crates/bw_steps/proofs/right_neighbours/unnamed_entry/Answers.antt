use Rattle.std.proofs.Common.{◌≡◌, ◌∙◌, ℕ, true, not, nat_eq, sym, arith}
use Rattle.std.proofs.lemmas.Bool.Decides.{nat_tests}
use Rattle.bw_steps.proofs.NamedNeighbours.{one_parent}
use Rattle.bw_steps.proofs.right_neighbours.unnamed_entry.Goals as goal

apart : (p q : ℕ) → true ≡ not (nat_eq p q) → p ≡ q → ⊥
apart p q differs same = grind (arith, nat_tests)

pub returns-then-ne : goal.returns-then-ne
returns-then-ne c = λ sep q u.
    let tree = c.args.tree.now in
    let found = c.in-Some.unnamed in
    apart found.parent c.args.parent (sym c.if-ne.true ∙ c.ne.ensures)
    (one_parent tree tree.root c.know_levels.ensures.lawful c.args.parent c.args.page found.parent sep found.sep.now q found.page u c.in-Some.ensures)
