-- How many operations of a batch write, and whether one is a delete.
use Rattle.std.proofs.Common.{◌≡◌, ℕ, ◌+◌, ◌<◌, ◌≤◌, Bool, ◌||◌, List, length, take, get_or, Option, Some, None, refl, sym, ap, ◌∙◌, arith, length-append}
use Rattle.std.proofs.lemmas.List.Folds.{list_any_more}
use Rattle.std.specs.List.{list_any}
use Rattle.bw_key.specs.Order.{KeyBytes}
use Rattle.bw_model.specs.declared.operations.Action.{Action}
use Rattle.bw_model.specs.declared.operations.Op.{Op}
use Rattle.bw_delta.specs.Batches.{stamped, write_of, writes_of}
use Rattle.bw_delta.proofs.Stagings.{writes_further}
use Rattle.bw_group.specs.Points.{is_delete}

-- with those of an operation more
pub counted_more : (ops : List Op) (i : ℕ) (op : Op) (old more : ℕ) → i < length ops → op ≡ get_or ops i op → more ≡ length (stamped 0 (write_of op)) → old ≡ length (writes_of 0 (take i ops)) → old + more ≡ length (writes_of 0 (take (i + 1) ops))
counted_more ops i op old more lt is one so =
    omega (
      arith,
      so,
      one ∙ same (write_of op),
      ap length (writes_further 0 ops i op lt is) ∙ length-append (writes_of 0 (take i ops)) (stamped (0 + i) (write_of op)),
    )
  where
    same : (write : Option (KeyBytes × Action)) → length (stamped 0 write) ≡ length (stamped (0 + i) write)
    same None = refl
    same (Some write) = refl

-- an operation is one write at the most
pub one_at_most : (op : Op) (more i n : ℕ) → more ≡ length (stamped 0 (write_of op)) → n ≤ i → n + more ≤ i + 1
one_at_most op more i n is few = omega (arith, is, few, most (write_of op))
  where
    most : (write : Option (KeyBytes × Action)) → length (stamped 0 write) ≤ 1
    most None = omega arith
    most (Some write) = omega arith

-- with an operation more
pub seen_more : (ops : List Op) (i : ℕ) (op : Op) (old more : Bool) → i < length ops → op ≡ get_or ops i op → more ≡ is_delete op → old ≡ list_any is_delete (take i ops) → (old || more) ≡ list_any is_delete (take (i + 1) ops)
seen_more ops i op old more lt is one so =
    ap (λ b. b || more) so ∙ ap (λ b. list_any is_delete (take i ops) || b) (one ∙ ap is_delete is) ∙ sym (list_any_more is_delete ops i op lt)
