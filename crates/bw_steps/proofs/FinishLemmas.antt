-- A page above that is left as a base page by itself, and then names one more page.
use Rattle.std.proofs.Common.{inl, inr, ◌≡◌, ℕ, ◌∙◌, sym, subst, slice_index, arith}
use Rattle.std.proofs.lemmas.List.{set-set}
use Rattle.std.specs.Prelude.{Result, Ok, Err, OnErr}
use Rattle.bw_key.specs.Order.{KeyBytes}
use Rattle.bw_level.specs.Children.{FitsChild}
use Rattle.bw_tree.specs.TreeChildren.{IsNamed}
use Rattle.bw_look.specs.Unnamed.{IsUnnamed}
use Rattle.bw_tree.specs.Consolidation.{IsRebased}
use Rattle.bw_look.specs.Routing.{IsInnerPage}
use Rattle.bw_look.specs.View.{TreeView}
use Rattle.bw_steps.specs.Steps.{IsNamerToBe, IsSameOver}

-- a page that may name one of the level below is an inner page
pub fits_inner : (tree : TreeView) (parent : ℕ) (sep : KeyBytes) (child : ℕ) → FitsChild tree.slots tree.levels parent sep child → IsInnerPage tree parent
fits_inner tree parent sep child fits = record {
  in_levels = record { level = _; within = fits.within; in_level = fits.in_level };
  raised = omega arith;
}

-- what the page names on top of that, it names over all
pub named_over : (old mid new : TreeView) (p : ℕ) (sep : KeyBytes) (child : ℕ) → IsRebased old mid p → IsNamed mid new p sep child → IsNamed old new p sep child
named_over old mid new p sep child rebased named =
    let on = subst (λ (v : TreeView). IsNamed v new p sep child) rebased.view named in
    record {
      named = on.named;
      levels = on.levels;
      contents = on.contents;
      heads = on.heads ∙ set-set old.heads p (slice_index mid.heads p) (slice_index new.heads p);
      changed = on.changed;
      root = on.root;
      records = on.records;
      next = on.next;
      staged = on.staged;
    }

-- the page above may be a base page by itself now: it is the one that was to name the neighbour
pub over_namer : (old new : TreeView) (p parent : ℕ) (sep : KeyBytes) (q : ℕ) → IsUnnamed old p parent sep q → IsSameOver (λ r. r ≡ parent) old new → IsSameOver (IsNamerToBe old p) old new
over_namer old new p parent sep q u (inl same) = inl same
over_namer old new p parent sep q u (inr page) = inr (page.0, ((sep, (q, subst (λ r. IsUnnamed old p r sep q) (sym page.1.0) u)), page.1.1))

-- what holds anyhow holds where memory ran out
pub where_refused : {A E X : Type 0} (r : Result A E) → X → OnErr r X
where_refused (Ok v) x = tt
where_refused (Err e) x = x
