use Rattle.std.proofs.Common.{Some, T, subst, sym}
use Rattle.bw_model.specs.Contents.{is_below_end}
use Rattle.bw_page.specs.Inners.{InnerView}
use Rattle.bw_page.proofs.Cuts.{narrowed_inner_page}
use Rattle.bw_page.proofs.inner.Inner.narrow.Goals as goal

pub invariant_of-self : goal.invariant_of-self
invariant_of-self c =
    narrowed_inner_page c.self.inside.level c.self.inside.bounds _ c.args.high _ c.self.inside.children _ c.narrow.ensures c.keep_below.ensures
    (subst (λ (v : InnerView). T (is_below_end (Some c.args.high) v.low)) (sym c.self.view_is) c.requires) c.self.invariant
