use Rattle.std.proofs.Common.{ℕ, ◌<◌, ◌≤◌, ◌+◌, List, ◌∷◌, drop, refl, sym, ap, subst, ◌∙◌, arith}
use Rattle.std.proofs.lemmas.List.{drop_all}
use Rattle.bw_delta.specs.Writes.{WriteView}
use Rattle.bw_delta.specs.History.{pointed_to}
use Rattle.bw_delta.specs.Readings.{from_stamp}
use Rattle.bw_delta.proofs.present.Present.put_writes.Invariants.{values_in}
use Rattle.bw_delta.proofs.Foldings.{AreFolding, first_folds, all_folded, folded_to_end}
use Rattle.bw_delta.proofs.Orders.{next_write}
use Rattle.bw_delta.proofs.Readings.{all_left, one_passed}
use Rattle.bw_delta.proofs.present.Present.put_writes.Goals as goal

pub loop-at-init : goal.loop-at-init
loop-at-init c = record { folding = record { from = 0; rising = c.requires; is = λ q. refl }; left = refl }

pub returns-then-stamp-clause-values : goal.returns-then-stamp-clause-values
returns-then-stamp-clause-values c =
    let start = values_in c.args.self in
    let values = values_in c.loop-at.self in
    let all = pointed_to c.args.writes.now in
    let later = pointed_to (drop (c.loop-at.at + 1) c.args.writes.now) in
    let next = next_write c.args.writes.now c.loop-at.at c.index-writes-at.result c.loop-at-test.true c.index-writes-at.is in
    let here = subst (λ (l : List WriteView). AreFolding c.args.stamp start all l values) next c.loop-at.invariant.folding in
    let late = subst (λ (n : ℕ). c.args.stamp ≤ n) c.stamp.ensures c.if-stamp.true in
    all_folded c.args.stamp start values all c.index-writes-at.result.now later late here

pub returns-then-stamp-clause-rest : goal.returns-then-stamp-clause-rest
returns-then-stamp-clause-rest c =
    let start = values_in c.args.self in
    let values = values_in c.loop-at.self in
    let all = pointed_to c.args.writes.now in
    let w = c.index-writes-at.result.now in
    let later = pointed_to (drop (c.loop-at.at + 1) c.args.writes.now) in
    let next = next_write c.args.writes.now c.loop-at.at c.index-writes-at.result c.loop-at-test.true c.index-writes-at.is in
    let here = subst (λ (l : List WriteView). AreFolding c.args.stamp start all l values) next c.loop-at.invariant.folding in
    let late = subst (λ (n : ℕ). c.args.stamp ≤ n) c.stamp.ensures c.if-stamp.true in
    next ∙ sym (all_left c.args.stamp w.stamp (w ∷ later) late (omega arith, here.rising.1)) ∙ sym (ap (from_stamp c.args.stamp) next) ∙ c.loop-at.invariant.left

pub loop-at-preserved : goal.loop-at-preserved
loop-at-preserved c =
    let start = values_in c.args.self in
    let values = values_in c.loop-at.self in
    let all = pointed_to c.args.writes.now in
    let later = pointed_to (drop (c.loop-at.at + 1) c.args.writes.now) in
    let next = next_write c.args.writes.now c.loop-at.at c.index-writes-at.result c.loop-at-test.true c.index-writes-at.is in
    let here = subst (λ (l : List WriteView). AreFolding c.args.stamp start all l values) next c.loop-at.invariant.folding in
    let early = subst (λ (n : ℕ). n < c.args.stamp) c.stamp.ensures c.if-stamp.false in
    record {
      folding = first_folds c.args.stamp start values (values_in c.put_write.new.self) all c.index-writes-at.result.now later early c.in_ok-put_write.ensures here;
      left = one_passed c.args.stamp c.index-writes-at.result.now later early ∙ sym (ap (from_stamp c.args.stamp) next) ∙ c.loop-at.invariant.left;
    }

pub returns-clause-values : goal.returns-clause-values
returns-clause-values c =
    let refs = c.args.writes.now in
    let none = ap pointed_to (drop_all c.loop-at.at refs c.loop-at-test.false) in
    folded_to_end c.args.stamp (values_in c.args.self) (values_in c.loop-at.self) (pointed_to refs) _ none c.loop-at.invariant.folding

pub returns-clause-rest : goal.returns-clause-rest
returns-clause-rest c =
    let refs = c.args.writes.now in
    let none = ap pointed_to (drop_all c.loop-at.at refs c.loop-at-test.false) in
    ap pointed_to (drop_all _ refs (omega arith)) ∙ sym (ap (from_stamp c.args.stamp) none) ∙ c.loop-at.invariant.left
