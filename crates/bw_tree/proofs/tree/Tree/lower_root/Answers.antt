use Rattle.std.proofs.Common.{◌∙◌, Some, ap, get_or, set, subst}
use Rattle.std.proofs.lemmas.List.{get_or_default}
use Rattle.bw_page.specs.declared.pages.Page.TheVariants.{Gone as GonePage}
use Rattle.bw_page.specs.declared.pages.RemovedPage.{RemovedPage}
use Rattle.bw_chain.specs.Supports.{base_under}
use Rattle.bw_level.specs.Roots.{HasOneChild, removed_root}
use Rattle.bw_level.specs.Slots.{slot_at, slot_level}
use Rattle.bw_look.specs.Trees.{view_of}
use Rattle.bw_look.specs.View.{TreeView}
use Rattle.bw_tree.specs.TreeMerges.{IsLowered}
use Rattle.bw_tree.proofs.TreeLoweringLemmas.{lowered_on, one_child}
use Rattle.bw_tree.proofs.TreeRootLemmas.{root_word}
use Rattle.bw_tree.proofs.tree.Tree.lower_root.Goals as goal

pub remove_base-requires : goal.remove_base-requires
remove_base-requires c =
    (root_word c.self.inside.heads.items c.self.inside.chains.bases c.self.inside.chains.records c.self.inside.root c.self.inside.next c.self.inside.staged c.args.self.now c.self.view_is c.self.invariant c.index.result.now
    (c.index.ensures ∙ ap (λ n. get_or c.self.inside.heads.items n c.index.result.now) c.root.view_is)).ends

pub invariant_of-self-2 : goal.invariant_of-self-2
invariant_of-self-2 c =
    let heads = c.self.inside.heads.items in
    let bases = c.self.inside.chains.bases in
    let root = c.self.inside.root in
    let number = c.in_ok-number.number in
    let read = c.index.ensures ∙ ap (λ n. get_or heads n c.index.result.now) c.root.view_is in
    let there = (root_word heads bases c.self.inside.chains.records root c.self.inside.next c.self.inside.staged c.args.self.now c.self.view_is c.self.invariant c.index.result.now read).there in
    (lowered_on heads bases c.self.inside.chains.records root c.self.inside.next c.self.inside.staged c.args.self.now c.self.view_is c.requires.none c.self.invariant c.only_child-child.result (subst (λ (v : TreeView). HasOneChild v.slots v.root c.only_child-child.result) c.look-tree.ensures c.only_child-child.ensures)
    (set heads c.root.inside.0 number) c.remove_base.new.self.bases c.remove_base.new.self.records number
    (c.in_ok-number.ensures.number ∙ ap (base_under c.self.inside.chains.records) (read ∙ get_or_default heads root c.index.result.now 0 there))
    (ap (λ n. set heads n number) c.root.view_is)
    (c.in_ok-number.ensures.bases ∙ ap (λ (g : RemovedPage). set bases number (Some (GonePage g))) (c.removed_root-removed.ensures ∙ ap (λ (v : TreeView). removed_root (slot_level (slot_at v.slots v.root)) c.only_child-child.result) c.look-tree.ensures))
    c.in_ok-number.ensures.records).0

pub returns-clause-ok : goal.returns-clause-ok
returns-clause-ok c = λ child one.
    let heads = c.self.inside.heads.items in
    let bases = c.self.inside.chains.bases in
    let root = c.self.inside.root in
    let number = c.in_ok-number.number in
    let read = c.index.ensures ∙ ap (λ n. get_or heads n c.index.result.now) c.root.view_is in
    let there = (root_word heads bases c.self.inside.chains.records root c.self.inside.next c.self.inside.staged c.args.self.now c.self.view_is c.self.invariant c.index.result.now read).there in
    let new = view_of (set heads c.root.inside.0 number) c.remove_base.new.self.bases c.remove_base.new.self.records c.only_child-child.result c.self.inside.next c.self.inside.staged in
    subst (IsLowered c.args.self.now new) (one_child c.args.self.now c.only_child-child.result child (subst (λ (v : TreeView). HasOneChild v.slots v.root c.only_child-child.result) c.look-tree.ensures c.only_child-child.ensures) one)
    (lowered_on heads bases c.self.inside.chains.records root c.self.inside.next c.self.inside.staged c.args.self.now c.self.view_is c.requires.none c.self.invariant c.only_child-child.result (subst (λ (v : TreeView). HasOneChild v.slots v.root c.only_child-child.result) c.look-tree.ensures c.only_child-child.ensures)
    (set heads c.root.inside.0 number) c.remove_base.new.self.bases c.remove_base.new.self.records number
    (c.in_ok-number.ensures.number ∙ ap (base_under c.self.inside.chains.records) (read ∙ get_or_default heads root c.index.result.now 0 there))
    (ap (λ n. set heads n number) c.root.view_is)
    (c.in_ok-number.ensures.bases ∙ ap (λ (g : RemovedPage). set bases number (Some (GonePage g))) (c.removed_root-removed.ensures ∙ ap (λ (v : TreeView). removed_root (slot_level (slot_at v.slots v.root)) c.only_child-child.result) c.look-tree.ensures))
    c.in_ok-number.ensures.records).1
