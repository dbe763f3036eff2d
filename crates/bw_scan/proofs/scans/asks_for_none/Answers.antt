use Rattle.std.proofs.Common.{◌≡◌, Bool, true, false, not, List, take, reverse, refl, ap, sym, ◌∙◌}
use Rattle.std.specs.Option.{option_copied}
use Rattle.bw_model.specs.Values.{Pair}
use Rattle.bw_scan.proofs.BackLemmas.{no_pairs}
use Rattle.bw_scan.proofs.ReplayLemmas.{none_taken}
use Rattle.bw_scan.proofs.scans.asks_for_none.Goals as goal

not_true : (b : Bool) → not b ≡ true → b ≡ false
not_true true e = sym e
not_true false e = refl

pub returns-else-most-eq0-clause-none : goal.returns-else-most-eq0-clause-none
returns-else-most-eq0-clause-none c none all =
    let nothing = no_pairs all c.args.from.now (option_copied c.args.to) (sym c.is_below.ensures ∙ not_true c.is_below.result none) in
    (ap (take c.args.most) nothing ∙ none_taken c.args.most, ap (λ (l : List Pair). take c.args.most (reverse l)) nothing ∙ none_taken c.args.most)
