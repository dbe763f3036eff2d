use Rattle.std.proofs.Common.{rules, ◌≡◌, ◌∙◌, [], ◌∷◌, ◌++◌, List, ap}
use Rattle.std.specs.FinMap.{from_entries, len-empty}
use Rattle.bw_key.specs.Order.{KeyBytes, key_cmp}
use Rattle.bw_model.specs.Values.{ValueBytes}
use Rattle.bw_page.specs.Leaves.{LeafView}
use Rattle.bw_tree.specs.Making.{pairs_in}
use Rattle.bw_batch.specs.Lens.{key_count}
use Rattle.bw_batch.proofs.index.Index.new.Goals as goal

pub invariant_of-result : goal.invariant_of-result
invariant_of-result c =
    let leaf = c.empty.result in
    let leaves : c.push.new.self.items ≡ leaf ∷ [] = c.in_ok-push.ensures.items ∙ ap (λ (l : List (LeafView ValueBytes)). l ++ leaf ∷ []) c.new-leaves.ensures.items in (
      c.in_ok-tree.ensures.staged,
      search rules,
      ap key_count (c.in_ok-tree.ensures.contents c.in_ok-tree.tree.next)
          ∙ ap (λ (l : List (LeafView ValueBytes)). key_count (from_entries (pairs_in l))) leaves
          ∙ ap (λ (l : List (KeyBytes × ValueBytes)). key_count (from_entries (l ++ []))) c.empty.ensures.pairs
          ∙ len-empty key_cmp ValueBytes,
    )
