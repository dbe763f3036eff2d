use Rattle.std.proofs.Common.{[], Option, subst}
use Rattle.std.specs.Borrow.{Bor}
use Rattle.bw_delta.specs.declared.deltas.Delta.{Delta}
use Rattle.bw_level.specs.Changes.{change}
use Rattle.bw_level.specs.Searches.{plain_inner}
use Rattle.bw_level.specs.Slots.{IsSoundInner}
use Rattle.bw_level.specs.Turns.{over}
use Rattle.bw_level.proofs.ChangeLemmas.{as_it_is}
use Rattle.bw_level.proofs.InnerLemmas.{put_in_range, some_child}
use Rattle.bw_level.proofs.changed_inners.inner_over.Goals as goal

pub upper_half-requires : goal.upper_half-requires
upper_half-requires c =
    let base = plain_inner c.args.base.now in
    some_child c.args.base.now (subst (λ (o : Option (Bor Delta)). IsSoundInner (over [] o base)) c.in_default.is (c.requires.sound [])).1

pub lower_part-requires : goal.lower_part-requires
lower_part-requires c =
    let base = plain_inner c.args.base.now in
    (subst (λ (d : Delta). IsSoundInner (change [] d base)) c.in-Split.is
    (subst (λ (o : Option (Bor Delta)). IsSoundInner (over [] o base)) c.in-Some.is (c.requires.sound []))).1

pub with_child-requires : goal.with_child-requires
with_child-requires c =
    let base = c.args.base.now in
    put_in_range base.low base.high c.in-AddChild.sep c.in-AddChild.child base.children
    (subst (λ (d : Delta). IsSoundInner (change [] d (plain_inner base))) c.in-AddChild.is
    (subst (λ (o : Option (Bor Delta)). IsSoundInner (over [] o (plain_inner base))) c.in-Some.is (c.requires.sound []))).1.page.inside

pub upper_half-requires-in-Absorb : goal.upper_half-requires-in-Absorb
upper_half-requires-in-Absorb c =
    let base = plain_inner c.args.base.now in
    some_child c.args.base.now
    (subst IsSoundInner (as_it_is [] c.in-Some.delta.now base c.in-Absorb.is)
    (subst (λ (o : Option (Bor Delta)). IsSoundInner (over [] o base)) c.in-Some.is (c.requires.sound []))).1
