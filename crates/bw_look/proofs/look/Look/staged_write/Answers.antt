use Rattle.std.proofs.Common.{Some, ap, sym, ◌∙◌, arith}
use Rattle.bw_look.proofs.StagedLemmas.{staged_record}
use Rattle.bw_look.proofs.look.Look.staged_write.Goals as goal

pub overflow_add-stage-inside : goal.overflow_add-stage-inside
overflow_add-stage-inside c = let r = staged_record c.self.inside.heads.now.items c.self.inside.chains.now.bases c.self.inside.chains.now.records c.self.inside.root c.self.inside.next c.self.inside.staged.now _ _ c.args.place c.self.invariant c.self.view_is (ap Some c.stage.view_is ∙ sym c.in-Some.is) c.requires in omega (arith, r.within, r.few)

pub write_at-requires : goal.write_at-requires
write_at-requires c = let r = staged_record c.self.inside.heads.now.items c.self.inside.chains.now.bases c.self.inside.chains.now.records c.self.inside.root c.self.inside.next c.self.inside.staged.now _ _ c.args.place c.self.invariant c.self.view_is (ap Some c.stage.view_is ∙ sym c.in-Some.is) c.requires in (r.write, (r.link, r.record_is))

pub returns : goal.returns
returns c =
    let r = staged_record c.self.inside.heads.now.items c.self.inside.chains.now.bases c.self.inside.chains.now.records c.self.inside.root c.self.inside.next c.self.inside.staged.now _ _ c.args.place c.self.invariant c.self.view_is (ap Some c.stage.view_is ∙ sym c.in-Some.is) c.requires in
    r.write_is ∙ ap Some (sym (c.write_at.ensures r.write r.link r.record_is))
