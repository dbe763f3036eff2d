use Rattle.std.proofs.Common.{◌∙◌, ap, sym, subst, Some, length, ◌≤◌, ◌+◌}
use Rattle.bw_look.specs.declared.words_before.WordsBefore.TheVariants.{OfAll}
use Rattle.bw_tree.proofs.AdoptedLemmas.{adopted_with, adoption}
use Rattle.bw_tree.proofs.tree.Tree.adopt.Goals as goal

pub set_links-requires : goal.set_links-requires
set_links-requires c =
    subst (λ l. c.stage.inside.records + length l ≤ length c.self.inside.chains.records) (sym (c.deref.ensures.value ∙ c.into_parts-heads.ensures.1))
    (adoption c.self.inside.heads.items c.args.closed.heads c.self.inside.chains.bases c.self.inside.chains.records c.self.inside.root c.self.inside.next c.self.inside.staged _ _ c.args.closed.links c.self.invariant c.self.view_is (ap Some c.stage.view_is ∙ c.in-Some.ensures.value) c.requires).fits

pub invariant_of-self : goal.invariant_of-self
invariant_of-self c =
    (adopted_with c.self.inside.heads.items c.args.closed.heads c.self.inside.chains.bases c.self.inside.chains.bases c.self.inside.chains.records c.self.inside.root c.self.inside.next _ _ _ c.args.closed.links
    (adoption c.self.inside.heads.items c.args.closed.heads c.self.inside.chains.bases c.self.inside.chains.records c.self.inside.root c.self.inside.next c.self.inside.staged _ _ c.args.closed.links c.self.invariant c.self.view_is (ap Some c.stage.view_is ∙ c.in-Some.ensures.value) c.requires)
    c.replace-before.new.dest.items c.set_links.new.self.bases c.set_links.new.self.records c.replace.new.self c.deref.result.now (OfAll c.replace-before.result)
    (ap (λ v. v.items) c.replace-before.ensures.after ∙ c.into_parts-heads.ensures.0) c.set_links.ensures.bases (c.deref.ensures.value ∙ c.into_parts-heads.ensures.1) c.set_links.ensures.deltas c.set_links.ensures.links (ap (λ v. v.items) c.replace-before.ensures.value) c.set_links.ensures.bases c.replace.ensures.after).tree_is

pub returns-in-Some-clause-contents : goal.returns-in-Some-clause-contents
returns-in-Some-clause-contents c =
    (adopted_with c.self.inside.heads.items c.args.closed.heads c.self.inside.chains.bases c.self.inside.chains.bases c.self.inside.chains.records c.self.inside.root c.self.inside.next _ _ _ c.args.closed.links
    (adoption c.self.inside.heads.items c.args.closed.heads c.self.inside.chains.bases c.self.inside.chains.records c.self.inside.root c.self.inside.next c.self.inside.staged _ _ c.args.closed.links c.self.invariant c.self.view_is (ap Some c.stage.view_is ∙ c.in-Some.ensures.value) c.requires)
    c.replace-before.new.dest.items c.set_links.new.self.bases c.set_links.new.self.records c.replace.new.self c.deref.result.now (OfAll c.replace-before.result)
    (ap (λ v. v.items) c.replace-before.ensures.after ∙ c.into_parts-heads.ensures.0) c.set_links.ensures.bases (c.deref.ensures.value ∙ c.into_parts-heads.ensures.1) c.set_links.ensures.deltas c.set_links.ensures.links (ap (λ v. v.items) c.replace-before.ensures.value) c.set_links.ensures.bases c.replace.ensures.after).contents

pub returns-in-Some-clause-levels : goal.returns-in-Some-clause-levels
returns-in-Some-clause-levels c =
    (adopted_with c.self.inside.heads.items c.args.closed.heads c.self.inside.chains.bases c.self.inside.chains.bases c.self.inside.chains.records c.self.inside.root c.self.inside.next _ _ _ c.args.closed.links
    (adoption c.self.inside.heads.items c.args.closed.heads c.self.inside.chains.bases c.self.inside.chains.records c.self.inside.root c.self.inside.next c.self.inside.staged _ _ c.args.closed.links c.self.invariant c.self.view_is (ap Some c.stage.view_is ∙ c.in-Some.ensures.value) c.requires)
    c.replace-before.new.dest.items c.set_links.new.self.bases c.set_links.new.self.records c.replace.new.self c.deref.result.now (OfAll c.replace-before.result)
    (ap (λ v. v.items) c.replace-before.ensures.after ∙ c.into_parts-heads.ensures.0) c.set_links.ensures.bases (c.deref.ensures.value ∙ c.into_parts-heads.ensures.1) c.set_links.ensures.deltas c.set_links.ensures.links (ap (λ v. v.items) c.replace-before.ensures.value) c.set_links.ensures.bases c.replace.ensures.after).levels

pub returns-in-Some-clause-staged : goal.returns-in-Some-clause-staged
returns-in-Some-clause-staged c =
    (adopted_with c.self.inside.heads.items c.args.closed.heads c.self.inside.chains.bases c.self.inside.chains.bases c.self.inside.chains.records c.self.inside.root c.self.inside.next _ _ _ c.args.closed.links
    (adoption c.self.inside.heads.items c.args.closed.heads c.self.inside.chains.bases c.self.inside.chains.records c.self.inside.root c.self.inside.next c.self.inside.staged _ _ c.args.closed.links c.self.invariant c.self.view_is (ap Some c.stage.view_is ∙ c.in-Some.ensures.value) c.requires)
    c.replace-before.new.dest.items c.set_links.new.self.bases c.set_links.new.self.records c.replace.new.self c.deref.result.now (OfAll c.replace-before.result)
    (ap (λ v. v.items) c.replace-before.ensures.after ∙ c.into_parts-heads.ensures.0) c.set_links.ensures.bases (c.deref.ensures.value ∙ c.into_parts-heads.ensures.1) c.set_links.ensures.deltas c.set_links.ensures.links (ap (λ v. v.items) c.replace-before.ensures.value) c.set_links.ensures.bases c.replace.ensures.after).staged_is

pub returns-in-Some-clause-pages : goal.returns-in-Some-clause-pages
returns-in-Some-clause-pages c =
    (adopted_with c.self.inside.heads.items c.args.closed.heads c.self.inside.chains.bases c.self.inside.chains.bases c.self.inside.chains.records c.self.inside.root c.self.inside.next _ _ _ c.args.closed.links
    (adoption c.self.inside.heads.items c.args.closed.heads c.self.inside.chains.bases c.self.inside.chains.records c.self.inside.root c.self.inside.next c.self.inside.staged _ _ c.args.closed.links c.self.invariant c.self.view_is (ap Some c.stage.view_is ∙ c.in-Some.ensures.value) c.requires)
    c.replace-before.new.dest.items c.set_links.new.self.bases c.set_links.new.self.records c.replace.new.self c.deref.result.now (OfAll c.replace-before.result)
    (ap (λ v. v.items) c.replace-before.ensures.after ∙ c.into_parts-heads.ensures.0) c.set_links.ensures.bases (c.deref.ensures.value ∙ c.into_parts-heads.ensures.1) c.set_links.ensures.deltas c.set_links.ensures.links (ap (λ v. v.items) c.replace-before.ensures.value) c.set_links.ensures.bases c.replace.ensures.after).pages

pub returns-in-Some-clause-writes : goal.returns-in-Some-clause-writes
returns-in-Some-clause-writes c =
    (adopted_with c.self.inside.heads.items c.args.closed.heads c.self.inside.chains.bases c.self.inside.chains.bases c.self.inside.chains.records c.self.inside.root c.self.inside.next _ _ _ c.args.closed.links
    (adoption c.self.inside.heads.items c.args.closed.heads c.self.inside.chains.bases c.self.inside.chains.records c.self.inside.root c.self.inside.next c.self.inside.staged _ _ c.args.closed.links c.self.invariant c.self.view_is (ap Some c.stage.view_is ∙ c.in-Some.ensures.value) c.requires)
    c.replace-before.new.dest.items c.set_links.new.self.bases c.set_links.new.self.records c.replace.new.self c.deref.result.now (OfAll c.replace-before.result)
    (ap (λ v. v.items) c.replace-before.ensures.after ∙ c.into_parts-heads.ensures.0) c.set_links.ensures.bases (c.deref.ensures.value ∙ c.into_parts-heads.ensures.1) c.set_links.ensures.deltas c.set_links.ensures.links (ap (λ v. v.items) c.replace-before.ensures.value) c.set_links.ensures.bases c.replace.ensures.after).writes
