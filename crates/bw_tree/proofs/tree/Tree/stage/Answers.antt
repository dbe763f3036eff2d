use Rattle.std.proofs.Common.{◌≡◌, OnOk, length, ap, subst, ◌∙◌}
use Rattle.bw_chain.specs.PlacedWrites.{writes_at_places}
use Rattle.bw_tree.specs.Stages.{staged_with}
use Rattle.bw_tree.proofs.PlaceLists.{all_places}
use Rattle.bw_tree.proofs.tree.Tree.stage.Goals as goal

pub stage_at-requires-clause-all : goal.stage_at-requires-clause-all
stage_at-requires-clause-all c =
    let ops = c.args.ops.now in
    all_places ops c.deref.result.now (λ base. ap (writes_at_places base ops) c.deref.ensures.value ∙ c.in_ok-places.ensures.writes base)

pub returns-clause-ok : goal.returns-clause-ok
returns-clause-ok c =
    let ops = c.args.ops.now in
    let next = c.args.self.now.next in
    subst (λ ws. OnOk c.stage_at.result (c.stage_at.new.self ≡ staged_with c.args.self.now (length ops) ws))
    (ap (writes_at_places next ops) c.deref.ensures.value ∙ c.in_ok-places.ensures.writes next) c.stage_at.ensures.ok
