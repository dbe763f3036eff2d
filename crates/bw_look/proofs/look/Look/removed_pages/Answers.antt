use Rattle.std.proofs.Common.{◌≡◌, rules, subst, sym}
use Rattle.bw_chain.specs.Chains.{slots_of}
use Rattle.bw_look.specs.RemovedPages.{HasEachRemoved}
use Rattle.bw_look.specs.View.{TreeView}
use Rattle.bw_look.proofs.LeftLemmas.{each_removed}
use Rattle.bw_look.proofs.look.Look.removed_pages.Goals as goal

pub returns : goal.returns
returns c =
    let heads = c.self.inside.heads.now.items in
    let bases = c.self.inside.chains.now.bases in
    let records = c.self.inside.chains.now.records in
    let items : c.extend_from_slice.new.self.items ≡ c.removed_numbers.result.now = search rules in
    subst (λ (v : TreeView). HasEachRemoved v.slots c.extend_from_slice.new.self.items) c.self.view_is
    (subst (HasEachRemoved (slots_of heads bases records)) (sym items) (each_removed heads bases records c.self.invariant.now.own c.removed_numbers.result.now c.removed_numbers.ensures))
