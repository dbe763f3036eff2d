use Rattle.std.proofs.Common.{List, sym, ap, subst, ◌∙◌}
use Rattle.std.specs.FinMap.{from_sorted, insert, remove}
use Rattle.bw_key.specs.Order.{KeyBytes, key_cmp}
use Rattle.bw_model.specs.Contents.{Contents, set_at}
use Rattle.bw_model.specs.Values.{Pair, ValueBytes}
use Rattle.bw_model.proofs.Maps.{IsInOrder, order_after_put, order_after_remove, from_put, from_remove}
use Rattle.bw_model.proofs.reference.ReferenceMap.set.Goals as goal

pub invariant_of-self-in_ok-put_at-in-Some : goal.invariant_of-self-in_ok-put_at-in-Some
invariant_of-self-in_ok-put_at-in-Some c =
    subst (λ (es : List Pair). IsInOrder es) (sym c.in_ok-put_at-in-Some.ensures.ok)
    (order_after_put c.self.inside.pairs.items c.in_ok-copy-in-Some.field-0 c.in-Some.value c.self.invariant)

pub invariant_of-self-in-None : goal.invariant_of-self-in-None
invariant_of-self-in-None c =
    subst (λ (es : List Pair). IsInOrder es) (sym c.remove_at.ensures)
    (order_after_remove c.self.inside.pairs.items c.args.key.now c.self.invariant)

pub returns-in_ok-put_at-in-Some-clause-ok : goal.returns-in_ok-put_at-in-Some-clause-ok
returns-in_ok-put_at-in-Some-clause-ok c =
    let key = c.in_ok-copy-in-Some.field-0 in
    let value = c.in-Some.value in
    ap (λ (es : List Pair). from_sorted {R = key_cmp} es) c.in_ok-put_at-in-Some.ensures.ok
    ∙ from_put c.self.inside.pairs.items key value c.self.invariant
    ∙ ap (λ (m : Contents ValueBytes). insert m key value) c.self.view_is
    ∙ ap (λ (k : KeyBytes). insert c.args.self.now k value) c.in_ok-copy-in-Some.ensures.ok
    ∙ ap (set_at c.args.self.now c.args.key.now) (sym c.in-Some.is)

pub returns-in-None-clause-ok : goal.returns-in-None-clause-ok
returns-in-None-clause-ok c =
    let key = c.args.key.now in
    ap (λ (es : List Pair). from_sorted {R = key_cmp} es) c.remove_at.ensures
    ∙ from_remove c.self.inside.pairs.items key c.self.invariant
    ∙ ap (λ (m : Contents ValueBytes). remove m key) c.self.view_is
    ∙ ap (set_at c.args.self.now key) (sym c.in-None.is)
