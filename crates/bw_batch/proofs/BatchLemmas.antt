-- A batch on a tree, from its staging to its end.
use Rattle.std.proofs.Common.{◌≡◌, ℕ, ◌+◌, ◌≤◌, true, false, List, [], length, take, Option, Some, None, refl, sym, ap, ◌∙◌, subst, arith}
use Rattle.std.proofs.lemmas.List.{take_all}
use Rattle.std.proofs.lemmas.List.Sorted.{length_permutation}
use Rattle.bw_model.specs.Model.{contents_after}
use Rattle.bw_model.specs.declared.operations.Op.{Op}
use Rattle.bw_delta.specs.Batches.{writes_of}
use Rattle.bw_tree.specs.Stages.{IsStagedFor, accepted_tree, adopted_stage, is_adopted, undone_tree}
use Rattle.bw_look.specs.View.{TreeView, StageView, contents_at, contents_with, staged_writes}
use Rattle.bw_look.specs.declared.folded.Folded.{Folded}
use Rattle.bw_tree.specs.PageWords.{IsPostedStageOn}
use Rattle.bw_post.specs.Posting.{IsPostedBeside, IsWaiting}
use Rattle.bw_shape.specs.Sweeps.{HoldsSame}
use Rattle.bw_batch.specs.IndexStages.{operations_staged}

-- a batch that was staged waits to be posted
pub staged_waits : (before tree : TreeView) (ops : List Op) → IsStagedFor before tree ops → IsWaiting tree tree.staged ops
staged_waits before tree ops staged = subst (λ (t : TreeView). IsWaiting t t.staged ops) (sym staged.is) (refl, staged.same)

-- it has a record for each of its writes
pub staged_count : (before tree : TreeView) (ops : List Op) → IsStagedFor before tree ops → length (staged_writes tree.staged) ≡ length (writes_of before.next ops)
staged_count before tree ops staged = ap (λ (t : TreeView). length (staged_writes t.staged)) staged.is ∙ length_permutation (writes_of before.next ops) staged.writes staged.same

module _ (before tree : TreeView) (ops : List Op) (staged : IsStagedFor before tree ops) (reads : (i : ℕ) → contents_with tree (before.next + i) ≡ contents_after (take i ops) (contents_at before before.next)) where
  next_is : tree.next ≡ before.next
  next_is = ap (λ (t : TreeView). t.next) staged.is

  -- as of the first stamp of the batch nothing is changed
  pub first_read : contents_with tree tree.next ≡ contents_at before before.next
  first_read = ap (contents_with tree) (omega (arith, next_is)) ∙ reads 0

  pub reads_on : (i : ℕ) → contents_with tree (tree.next + i) ≡ contents_after (take i ops) (contents_with tree tree.next)
  reads_on i = ap (λ n. contents_with tree (n + i)) next_is ∙ reads i ∙ ap (contents_after (take i ops)) (sym first_read)

-- with the batch undone the tree is as before
pub undone_is : (before tree after : TreeView) (ops : List Op) → before.staged ≡ None → IsStagedFor before tree ops → undone_tree after after.staged ≡ undone_tree tree tree.staged → undone_tree after after.staged ≡ before
undone_is before tree after ops none staged same =
    same
    ∙ ap (λ (t : TreeView). undone_tree t t.staged) staged.is
    ∙ ap (λ (o : Option StageView). record before { staged = o }) (sym none)

-- an adopted batch is undone like a staged one
pub same_undone : (tree after : TreeView) (ops : List Op) → IsWaiting tree tree.staged ops → after.root ≡ tree.root → after.next ≡ tree.next → after.staged ≡ adopted_stage tree.staged → undone_tree after after.staged ≡ undone_tree tree tree.staged
same_undone tree after ops waiting root next staged = ap (undone_tree after) staged ∙ by tree.staged waiting
  where
    by : (o : Option StageView) → IsWaiting tree o ops → undone_tree after (adopted_stage o) ≡ undone_tree tree o
    by None none = absurd none
    by (Some stage) so =
        ap (λ (r : ℕ). record after { slots = stage.slots; root = r; levels = stage.levels; heads = stage.heads; records = stage.records; staged = None }) root
        ∙ ap (λ (n : ℕ). record tree { slots = stage.slots; levels = stage.levels; heads = stage.heads; records = stage.records; next = n; staged = None }) next

pub adopted_now : (tree after : TreeView) (ops : List Op) → IsWaiting tree tree.staged ops → after.staged ≡ adopted_stage tree.staged → is_adopted after.staged ≡ true
adopted_now tree after ops waiting staged = ap is_adopted staged ∙ by tree.staged waiting
  where
    by : (o : Option StageView) → IsWaiting tree o ops → is_adopted (adopted_stage o) ≡ true
    by None none = absurd none
    by (Some stage) so = refl

pub same_count : (tree after : TreeView) → after.staged ≡ adopted_stage tree.staged → operations_staged after.staged ≡ operations_staged tree.staged
same_count tree after staged = ap operations_staged staged ∙ by tree.staged
  where
    by : (o : Option StageView) → operations_staged (adopted_stage o) ≡ operations_staged o
    by None = refl
    by (Some stage) = refl

-- a batch that was posted with nothing beside it
pub posted_alone : (tree : TreeView) (leaves : List Folded) (pages heads links : List ℕ) → leaves ≡ [] → IsPostedStageOn tree tree.staged pages heads links → IsPostedBeside tree leaves pages heads links
posted_alone tree leaves pages heads links none posted =
    subst (λ (l : List Folded). IsPostedBeside tree l pages heads links) (sym none) (record { folded = tt; once = λ p. omega arith; listed = tt; posted = posted })

-- from the batch's first stamp on the adopted tree is read as the staged one with its writes
abbrev pub ReadsOn : TreeView → TreeView → Type 0
ReadsOn tree after = (stamp : ℕ) → tree.next ≤ stamp → contents_at after stamp ≡ contents_with tree stamp

-- what a read sees once a batch was adopted
pub reads_adopted : (tree after : TreeView) (ops : List Op) → after.next ≡ tree.next → ReadsOn tree after → ((i : ℕ) → contents_with tree (tree.next + i) ≡ contents_after (take i ops) (contents_with tree tree.next)) →
    (i : ℕ) → contents_at after (after.next + i) ≡ contents_after (take i ops) (contents_at after after.next)
reads_adopted tree after ops next same reads i =
    ap (λ n. contents_at after (n + i)) next ∙ same (tree.next + i) (omega arith) ∙ reads i
    ∙ ap (contents_after (take i ops)) (sym (same tree.next (omega arith)) ∙ ap (contents_at after) (sym next))

pub start_adopted : (tree after : TreeView) → after.next ≡ tree.next → ReadsOn tree after → contents_at after after.next ≡ contents_with tree tree.next
start_adopted tree after next same = ap (contents_at after) next ∙ same tree.next (omega arith)

-- an accepted batch
pub record IsAccepted (before after : TreeView) (ops : List Op) : Type 0 where
  pub next : after.next ≡ before.next + length ops
  pub none : after.staged ≡ None
  pub records : after.records ≡ before.records + length (writes_of before.next ops)
  pub contents : contents_at after after.next ≡ contents_after ops (contents_at before before.next)

pub accepted_as : (before tree now after : TreeView) (ops : List Op) → IsStagedFor before tree ops → ((i : ℕ) → contents_with tree (before.next + i) ≡ contents_after (take i ops) (contents_at before before.next)) →
    now.next ≡ tree.next → now.records ≡ tree.records → ReadsOn tree now → is_adopted now.staged ≡ true → operations_staged now.staged ≡ operations_staged tree.staged → after ≡ accepted_tree now now.staged →
    IsAccepted before after ops
accepted_as before tree now after ops staged reads next records same so count accepted_is = by now.staged so count accepted_is
  where
    different : false ≡ true → ⊥
    different e = cc

    by : (o : Option StageView) → is_adopted o ≡ true → operations_staged o ≡ operations_staged tree.staged → after ≡ accepted_tree now o → IsAccepted before after ops
    by None none count is' = absurd (different none)
    by (Some stage) adopted count is' =
        let ops_are : stage.ops ≡ length ops = count ∙ ap (λ (t : TreeView). operations_staged t.staged) staged.is in
        let now_is : now.next ≡ before.next = next ∙ ap (λ (t : TreeView). t.next) staged.is in
        let next_is : now.next + stage.ops ≡ before.next + length ops = omega (arith, ops_are, now_is) in
        record {
          next = ap (λ (t : TreeView). t.next) is' ∙ next_is;
          none = ap (λ (t : TreeView). t.staged) is';
          records = ap (λ (t : TreeView). t.records) is' ∙ records ∙ ap (λ (t : TreeView). t.records) staged.is
              ∙ ap (λ n. before.records + n) (length_permutation (writes_of before.next ops) staged.writes staged.same);
          contents =
              ap (λ (t : TreeView). contents_at t t.next) is' ∙ ap (contents_at now) next_is ∙ same (before.next + length ops) (omega (arith, ap (λ (t : TreeView). t.next) staged.is)) ∙ reads (length ops)
              ∙ ap (λ (l : List Op). contents_after l (contents_at before before.next)) (take_all (length ops) ops (omega arith));
        }

-- the same once leaves are in the places of their chains
pub accepted_still : (before after put : TreeView) (ops : List Op) → IsAccepted before after ops → HoldsSame after put → IsAccepted before put ops
accepted_still before after put ops is same = record {
  next = same.next ∙ is.next;
  none = same.staged;
  records = same.records ∙ is.records;
  contents = same.contents ∙ is.contents;
}
