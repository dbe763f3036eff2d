use Rattle.std.proofs.Common.{◌≡◌, ◌++◌, List, T, sym, ap, subst, ◌∙◌, append-nil}
use Rattle.std.specs.FinMap.{is_sorted}
use Rattle.bw_key.specs.Order.{key_cmp}
use Rattle.bw_model.specs.Values.{Pair}
use Rattle.bw_delta.proofs.PairMaps.{in_order}
use Rattle.bw_delta.proofs.consolidation.packed.Goals as goal
use Rattle.bw_delta.proofs.consolidation.packed.Goals.{After-drop-key-iterator-2}

all_in : (c : After-drop-key-iterator-2) → c.loop-key.pairs ≡ c.args.values.entries
all_in c =
    let items = c.loop-key.pairs in
    sym (append-nil items) ∙ sym (ap (λ (l : List Pair). items ++ l) c.in-None.ensures.steps.0) ∙ c.loop-key.invariant

pub returns-clause-sorted : goal.returns-clause-sorted
returns-clause-sorted c =
    let entries = c.args.values.entries in
    let ordered = c.into_iter-key-iterator.ensures.into_iter_gives.5 in
    subst (λ (l : List Pair). T (is_sorted key_cmp l)) (sym (all_in c)) (in_order entries ordered)

pub returns-clause-all : goal.returns-clause-all
returns-clause-all c = all_in c
