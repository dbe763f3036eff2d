use Rattle.std.proofs.Common.{Option, Some, ap, sym, subst, ◌∙◌}
use Rattle.std.specs.Option.{option_copied}
use Rattle.bw_key.specs.Order.{KeyBytes}
use Rattle.bw_scan.specs.Cursors.{CursorView, IsReadUpto, IsUnderWay}
use Rattle.bw_look.specs.View.{TreeView}
use Rattle.bw_scan.proofs.CursorLemmas.{went_on}
use Rattle.bw_scan.proofs.cursors.ScanCursor.read_leaf.Goals as goal

pub invariant_of-self-2 : goal.invariant_of-self-2
invariant_of-self-2 c =
    let inside = c.self.inside in
    let scan = c.in-Scan in
    let at = c.in-Some.at.now in
    let next = option_copied c.in_ok-next.next in
    let new = c.read.new.read in
    let before = subst (λ o. IsUnderWay (record { tree = inside.tree.now; op = inside.op.now; stamp = inside.stamp }) (option_copied o) inside.read) c.in-Some.is c.self.invariant in
    went_on inside.tree.now inside.stamp inside.op.now scan.from scan.to scan.most at next inside.read new scan.is before
    (subst (λ (t : TreeView). IsReadUpto t inside.stamp scan.most scan.from scan.to inside.read (Some at) → IsReadUpto t inside.stamp scan.most scan.from scan.to new next) (c.requires ∙ sym (ap (λ (v : CursorView). v.tree) c.self.view_is))
    (subst (λ (to : Option KeyBytes). IsReadUpto c.args.leaf.now.tree inside.stamp scan.most scan.from to inside.read (Some at) → IsReadUpto c.args.leaf.now.tree inside.stamp scan.most scan.from to new next) c.as_ref.ensures.value
    (c.in_ok-next.ensures.read scan.from)))
