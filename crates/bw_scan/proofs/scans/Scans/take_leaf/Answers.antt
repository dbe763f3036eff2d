use Rattle.std.proofs.Common.{sym, subst}
use Rattle.std.proofs.lemmas.Result.{IfOk-weaker}
use Rattle.bw_scan.specs.declared.scans.ReadLeaf.{ReadLeaf}
use Rattle.bw_level.specs.Slots.{slot_at}
use Rattle.bw_scan.specs.Replaying.{IsReadLeaf}
use Rattle.bw_look.specs.View.{TreeView}
use Rattle.bw_scan.proofs.scans.Scans.take_leaf.Goals as goal
use Rattle.bw_scan.proofs.scans.Scans.take_leaf.Goals.{in-Some, in-None+in_ok-leaf-in-None}

pub returns-clause-leaf : goal.returns-clause-leaf
returns-clause-leaf c =
    let slot = slot_at c.args.self.now.tree.slots c.args.page in
    let taken : IsReadLeaf slot c.match-take_kept.leaf =
    elim c.match-take_kept.branch as (λ b. IsReadLeaf slot c.match-take_kept.leaf) [
      | in-Some w ↦ subst (λ (l : ReadLeaf). IsReadLeaf slot l) (sym w.leaf-is) w.in-Some.ensures.leaf
      | in-None+in_ok-leaf-in-None w ↦ subst (λ (l : ReadLeaf). IsReadLeaf slot l) (sym w.leaf-is) (subst (λ (t : TreeView). IsReadLeaf (slot_at t.slots c.args.page) w.in_ok-leaf-in-None.leaf) c.take_kept.ensures.tree w.in_ok-leaf-in-None.ensures.leaf)
    ] in
    IfOk-weaker c.as_of.result _ _ (λ leaf keeps. keeps slot taken) c.as_of.ensures.leaf
