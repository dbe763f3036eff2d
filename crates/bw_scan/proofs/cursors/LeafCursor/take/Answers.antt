use Rattle.std.proofs.Common.{sym, subst}
use Rattle.bw_level.specs.Slots.{slot_at}
use Rattle.bw_scan.specs.Cursors.{IsLeafOf}
use Rattle.bw_look.specs.View.{TreeView}
use Rattle.bw_scan.proofs.cursors.LeafCursor.take.Goals as goal
use Rattle.bw_scan.proofs.cursors.LeafCursor.take.Goals.{in-Some, in-None+in_ok-page-in-None}

pub returns-clause-leaf : goal.returns-clause-leaf
returns-clause-leaf c =
    let tree = c.args.self.now.tree in
    let key = c.args.key.now in
    let taken : IsLeafOf tree key c.match-take_kept.page =
    elim c.match-take_kept.branch as (λ b. IsLeafOf tree key c.match-take_kept.page) [
      | in-Some w ↦ subst (IsLeafOf tree key) (sym w.page-is) w.in-Some.ensures.leaf
      | in-None+in_ok-page-in-None w ↦ subst (λ (t : TreeView). IsLeafOf t key c.match-take_kept.page) c.take_kept.ensures.tree (subst (IsLeafOf c.take_kept.new.self.tree key) (sym w.page-is) w.in_ok-page-in-None.ensures.leaf)
    ] in
    record { home = taken.home; read = c.in_ok-leaf.ensures.leaf (slot_at tree.slots c.match-take_kept.page.0) taken.read }
