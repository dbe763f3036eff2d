use Rattle.std.proofs.Common.{◌∙◌, [], ℕ, List, ap, get_or, subst, sym}
use Rattle.bw_key.specs.Order.{KeyBytes}
use Rattle.bw_level.specs.Targets.{IsChildFor}
use Rattle.bw_level.proofs.TargetLemmas.{entry_child}
use Rattle.bw_level.proofs.target.Target.child.Goals as goal

pub returns : goal.returns
returns c =
    let children = c.args.inner.now.children in
    let place = c.last_place.result in
    let read = c.child.ensures ([], 0) ∙ ap (λ (l : List (KeyBytes × ℕ)). (get_or l place ([], 0)).1) c.children.ensures.value in
    subst (IsChildFor c.args.self children) (sym read) (entry_child c.args.self children (get_or children place ([], 0)) (c.last_place.ensures.entry ([], 0)))
