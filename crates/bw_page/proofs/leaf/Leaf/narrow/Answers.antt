use Rattle.std.proofs.Common.{Some, T, subst, sym}
use Rattle.bw_model.specs.Contents.{is_below_end}
use Rattle.bw_model.specs.Values.{ValueBytes}
use Rattle.bw_page.specs.Leaves.{LeafView}
use Rattle.bw_page.proofs.Cuts.{same_below}
use Rattle.bw_page.proofs.leaf.Leaf.narrow.Goals as goal

pub invariant_of-self : goal.invariant_of-self
invariant_of-self c =
    same_below c.self.inside.bounds _ c.args.high _ c.self.inside.pairs _ c.narrow.ensures c.keep_below.ensures
    (subst (λ (v : LeafView ValueBytes). T (is_below_end (Some c.args.high) v.low)) (sym c.self.view_is) c.requires) c.self.invariant
