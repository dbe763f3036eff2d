use Rattle.std.proofs.Common.{ap, sym, ◌∙◌}
use Rattle.std.proofs.lemmas.Result.{IfOk-weaker}
use Rattle.bw_level.specs.Slots.{slot_at}
use Rattle.bw_look.specs.View.{TreeView}
use Rattle.bw_tree.proofs.NamingLemmas.{inside_all, plain_with}
use Rattle.bw_tree.proofs.tree.Tree.inner_with.Goals as goal

pub with_children-requires-clause-inside : goal.with_children-requires-clause-inside
with_children-requires-clause-inside c =
    inside_all c.args.self.now.slots c.args.self.now.levels c.args.parent c.in-Some.inner.now c.args.entries.now (sym (ap (λ (v : TreeView). slot_at v.slots c.args.parent) c.look-tree.ensures) ∙ c.in-Some.ensures) c.requires.fit

pub with_children-requires-in-None-clause-inside : goal.with_children-requires-in-None-clause-inside
with_children-requires-in-None-clause-inside c =
    inside_all c.args.self.now.slots c.args.self.now.levels c.args.parent c.in_ok-inner_page-in-None.field-0 c.args.entries.now (sym (ap (λ (v : TreeView). slot_at v.slots c.args.parent) c.look-tree.ensures) ∙ c.in_ok-inner_page-in-None.ensures) c.requires.fit

pub returns-in-Some : goal.returns-in-Some
returns-in-Some c =
    IfOk-weaker c.with_children.result _ _ (λ page made. plain_with c.args.entries.now c.in-Some.inner.now page _ (sym (ap (λ (v : TreeView). slot_at v.slots c.args.parent) c.look-tree.ensures) ∙ c.in-Some.ensures) made) c.with_children.ensures

pub returns-in_ok-inner_page-in-None : goal.returns-in_ok-inner_page-in-None
returns-in_ok-inner_page-in-None c =
    IfOk-weaker c.with_children-in-None.result _ _ (λ page made. plain_with c.args.entries.now c.in_ok-inner_page-in-None.field-0 page _ (sym (ap (λ (v : TreeView). slot_at v.slots c.args.parent) c.look-tree.ensures) ∙ c.in_ok-inner_page-in-None.ensures) made) c.with_children-in-None.ensures
