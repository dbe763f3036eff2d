use Rattle.std.proofs.Common.{Some, length, refl, ap, ◌∙◌}
use Rattle.bw_delta.specs.Batches.{writes_of}
use Rattle.bw_chain.specs.PlacedWrites.{writes_at_places}
use Rattle.bw_look.specs.View.{TreeView}
use Rattle.bw_tree.proofs.StageLemmas.{stage_on, staged_count}
use Rattle.bw_tree.proofs.tree.Tree.stage_in_order.Goals as goal

pub invariant_of-self-2 : goal.invariant_of-self-2
invariant_of-self-2 g c =
    (stage_on c.args.ops.now (λ base. writes_at_places base c.args.ops.now c.args.places.now) c.requires.all c.self.inside.heads.items c.self.inside.chains.bases c.self.inside.chains.records c.self.inside.root c.self.inside.next c.self.inside.staged _ c.self.invariant c.self.view_is c.requires.none c.requires.fits
    _ _ _ _ _ c.append_writes_by.ensures.bases c.in_ok-append_writes_by.ensures.ok c.append_writes_by.ensures.few (c.replace.ensures.after ∙ ap (λ s. Some s) c.stage_behind.ensures) c.len-records.ensures refl).tree_is

pub returns-clause-ok : goal.returns-clause-ok
returns-clause-ok g c =
    (stage_on c.args.ops.now (λ base. writes_at_places base c.args.ops.now c.args.places.now) c.requires.all c.self.inside.heads.items c.self.inside.chains.bases c.self.inside.chains.records c.self.inside.root c.self.inside.next c.self.inside.staged _ c.self.invariant c.self.view_is c.requires.none c.requires.fits
    _ _ _ _ _ c.append_writes_by.ensures.bases c.in_ok-append_writes_by.ensures.ok c.append_writes_by.ensures.few (c.replace.ensures.after ∙ ap (λ s. Some s) c.stage_behind.ensures) c.len-records.ensures refl).view

pub returns-clause-reads : goal.returns-clause-reads
returns-clause-reads g c =
    (stage_on c.args.ops.now (λ base. writes_at_places base c.args.ops.now c.args.places.now) c.requires.all c.self.inside.heads.items c.self.inside.chains.bases c.self.inside.chains.records c.self.inside.root c.self.inside.next c.self.inside.staged _ c.self.invariant c.self.view_is c.requires.none c.requires.fits
    _ _ _ _ _ c.append_writes_by.ensures.bases c.in_ok-append_writes_by.ensures.ok c.append_writes_by.ensures.few (c.replace.ensures.after ∙ ap (λ s. Some s) c.stage_behind.ensures) c.len-records.ensures refl).reads

pub returns-clause-records : goal.returns-clause-records
returns-clause-records g c =
    let ops = c.args.ops.now in
    let next = c.self.inside.next in
    staged_count c.self.inside.chains.records c.append_writes_by.new.self.records (writes_of next ops) (writes_at_places next ops c.args.places.now) c.len-records.result c.len.result (c.requires.all next) c.in_ok-append_writes_by.ensures.ok c.len-records.ensures c.len.ensures
    ∙ ap (λ (v : TreeView). length (writes_of v.next ops)) c.self.view_is
