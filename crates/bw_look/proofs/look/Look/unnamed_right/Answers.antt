use Rattle.std.proofs.Common.{◌≡◌, ℕ, suc, ◌+◌, true, false, sym, ◌∙◌, subst, arith}
use Rattle.bw_level.specs.Levels.{AreLevels, IsHomeAt}
use Rattle.bw_look.specs.View.{TreeView}
use Rattle.bw_look.proofs.UnnamedLemmas.{home_inner, none_at_top, none_named, one_unnamed}
use Rattle.bw_look.proofs.look.Look.unnamed_right.Goals as goal

lawful_now : (r : ℕ) (v w : TreeView) → v ≡ w → AreLevels v.slots r v.levels → AreLevels w.slots r w.levels
lawful_now r v w e h = subst (λ (x : TreeView). AreLevels x.slots r x.levels) e h

different : true ≡ false → ⊥
different e = cc

next_level : (n : ℕ) → n + 1 ≡ suc n
next_level n = omega arith

pub returns-then-found-level : goal.returns-then-found-level
returns-then-found-level c =
    none_at_top c.args.self.now c.self.inside.root (lawful_now c.self.inside.root _ _ c.self.view_is c.self.invariant.now.lawful) c.args.page
    c.in-Some.found.0 c.level.result c.in-Some.ensures.page.at_level (sym c.level.ensures) (omega (arith, c.if-found-level.true))

pub has_child-requires-clause-inner : goal.has_child-requires-clause-inner
has_child-requires-clause-inner c = home_inner c.args.self.now c.in-Some.found.1.now (c.in-Some.found.0 + 1) c.in-Some-above.parent c.in-Some-above.ensures (omega arith)

pub returns-then-has_child : goal.returns-then-has_child
returns-then-has_child c =
    let found = c.in-Some.found in
    none_named c.args.self.now c.self.inside.root (lawful_now c.self.inside.root _ _ c.self.view_is c.self.invariant.now.lawful) c.args.page
    found.0 c.in-Some-above.parent found.1.now found.2 c.in-Some.ensures.page
    (subst (λ n. IsHomeAt c.args.self.now.slots c.args.self.now.levels found.1.now n c.in-Some-above.parent) (next_level found.0) c.in-Some-above.ensures)
    (c.has_child.ensures.0 c.if-has_child.true)

pub returns : goal.returns
returns c =
    let found = c.in-Some.found in
    one_unnamed c.args.self.now c.self.inside.root (lawful_now c.self.inside.root _ _ c.self.view_is c.self.invariant.now.lawful) c.args.page
    found.0 c.in-Some-above.parent found.1.now found.2 c.requires c.in-Some.ensures.page
    (subst (λ n. IsHomeAt c.args.self.now.slots c.args.self.now.levels found.1.now n c.in-Some-above.parent) (next_level found.0) c.in-Some-above.ensures)
    (λ has. different (sym (c.has_child.ensures.1 has) ∙ c.if-has_child.false))
