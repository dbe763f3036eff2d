use Rattle.std.proofs.Common.{◌≡◌, not, refl, sym, ap, ◌∙◌, Ordering}
use Rattle.std.specs.Ordering.{is_eq, is_ne}
use Rattle.std.specs.declared.cmp.Ordering.TheVariants.{Less, Equal, Greater}
use Rattle.bw_key.specs.Order.{key_ties}
use Rattle.bw_group.proofs.points.Point.differs.Goals as goal

other : (o : Ordering) → is_ne o ≡ not (is_eq o)
other Less = refl
other Equal = refl
other Greater = refl

pub returns : goal.returns
returns c =
    c.is_ne.ensures ∙ ap is_ne c.by_key.ensures ∙ other _ ∙ ap not (sym (key_ties c.args.self.now.key.now c.args.other.now.key.now))
