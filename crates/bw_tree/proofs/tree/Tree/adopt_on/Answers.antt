use Rattle.std.proofs.Common.{◌∙◌, ap, sym, subst, Some, List, ℕ, length, ◌≤◌, ◌+◌}
use Rattle.bw_look.specs.declared.words_before.WordsBefore.TheVariants.{OfPages}
use Rattle.bw_look.specs.Words.{put_words}
use Rattle.bw_tree.specs.PageWords.{words_of}
use Rattle.bw_tree.proofs.AdoptedLemmas.{adopted_with}
use Rattle.bw_tree.proofs.AdoptedOnLemmas.{AreFit, adoption_on, pages_fit, words_back}
use Rattle.bw_tree.proofs.tree.Tree.adopt_on.Goals as goal

pub set_links-requires : goal.set_links-requires
set_links-requires c =
    subst (λ l. c.stage.inside.records + length l ≤ length c.self.inside.chains.records) (sym (c.deref.ensures.value ∙ c.into_parts-words.ensures.1))
    (adoption_on c.self.inside.heads.items c.args.pages.items c.args.closed.heads c.self.inside.chains.bases c.self.inside.chains.records c.self.inside.root c.self.inside.next c.self.inside.staged _ _ c.args.closed.links c.self.invariant c.self.view_is (ap Some c.stage.view_is ∙ c.in-Some.ensures.value) c.requires).fits

pub swap_words-before-requires : goal.swap_words-before-requires
swap_words-before-requires c =
    let fit = subst (λ (l : List ℕ). AreFit (length c.self.inside.heads.items) l c.into_parts-words.result.0.items) (sym c.deref-in-Some.ensures.value) (pages_fit c.self.inside.heads.items c.args.pages.items c.args.closed.heads c.into_parts-words.result.0.items c.self.inside.chains.bases c.self.inside.chains.records c.self.inside.root c.self.inside.next c.self.inside.staged _ c.args.closed.links c.self.view_is c.into_parts-words.ensures.0 c.requires) in
    record { count = fit.count; there = fit.there; once = fit.once }

pub invariant_of-self : goal.invariant_of-self
invariant_of-self c =
    (adopted_with c.self.inside.heads.items (put_words c.self.inside.heads.items c.args.pages.items c.args.closed.heads) c.self.inside.chains.bases c.self.inside.chains.bases c.self.inside.chains.records c.self.inside.root c.self.inside.next _ _ _ c.args.closed.links
    (adoption_on c.self.inside.heads.items c.args.pages.items c.args.closed.heads c.self.inside.chains.bases c.self.inside.chains.records c.self.inside.root c.self.inside.next c.self.inside.staged _ _ c.args.closed.links c.self.invariant c.self.view_is (ap Some c.stage.view_is ∙ c.in-Some.ensures.value) c.requires)
    c.swap_words-before.new.heads.items c.set_links.new.self.bases c.set_links.new.self.records c.replace.new.self c.deref.result.now (OfPages c.args.pages c.swap_words-before.result)
    (c.swap_words-before.ensures.heads ∙ ap (λ (l : List ℕ). put_words c.self.inside.heads.items l c.into_parts-words.result.0.items) c.deref-in-Some.ensures.value ∙ ap (put_words c.self.inside.heads.items c.args.pages.items) c.into_parts-words.ensures.0) c.set_links.ensures.bases (c.deref.ensures.value ∙ c.into_parts-words.ensures.1) c.set_links.ensures.deltas c.set_links.ensures.links
    (words_back c.self.inside.heads.items c.args.pages.items c.into_parts-words.result.0.items c.swap_words-before.new.heads.items c.swap_words-before.result.items (length c.self.inside.heads.items) (pages_fit c.self.inside.heads.items c.args.pages.items c.args.closed.heads c.into_parts-words.result.0.items c.self.inside.chains.bases c.self.inside.chains.records c.self.inside.root c.self.inside.next c.self.inside.staged _ c.args.closed.links c.self.view_is c.into_parts-words.ensures.0 c.requires)
    (c.swap_words-before.ensures.heads ∙ ap (λ (l : List ℕ). put_words c.self.inside.heads.items l c.into_parts-words.result.0.items) c.deref-in-Some.ensures.value) (c.swap_words-before.ensures.words ∙ ap (words_of c.self.inside.heads.items) c.deref-in-Some.ensures.value))
    c.set_links.ensures.bases c.replace.ensures.after).tree_is

pub returns-in-Some-clause-contents : goal.returns-in-Some-clause-contents
returns-in-Some-clause-contents c =
    (adopted_with c.self.inside.heads.items (put_words c.self.inside.heads.items c.args.pages.items c.args.closed.heads) c.self.inside.chains.bases c.self.inside.chains.bases c.self.inside.chains.records c.self.inside.root c.self.inside.next _ _ _ c.args.closed.links
    (adoption_on c.self.inside.heads.items c.args.pages.items c.args.closed.heads c.self.inside.chains.bases c.self.inside.chains.records c.self.inside.root c.self.inside.next c.self.inside.staged _ _ c.args.closed.links c.self.invariant c.self.view_is (ap Some c.stage.view_is ∙ c.in-Some.ensures.value) c.requires)
    c.swap_words-before.new.heads.items c.set_links.new.self.bases c.set_links.new.self.records c.replace.new.self c.deref.result.now (OfPages c.args.pages c.swap_words-before.result)
    (c.swap_words-before.ensures.heads ∙ ap (λ (l : List ℕ). put_words c.self.inside.heads.items l c.into_parts-words.result.0.items) c.deref-in-Some.ensures.value ∙ ap (put_words c.self.inside.heads.items c.args.pages.items) c.into_parts-words.ensures.0) c.set_links.ensures.bases (c.deref.ensures.value ∙ c.into_parts-words.ensures.1) c.set_links.ensures.deltas c.set_links.ensures.links
    (words_back c.self.inside.heads.items c.args.pages.items c.into_parts-words.result.0.items c.swap_words-before.new.heads.items c.swap_words-before.result.items (length c.self.inside.heads.items) (pages_fit c.self.inside.heads.items c.args.pages.items c.args.closed.heads c.into_parts-words.result.0.items c.self.inside.chains.bases c.self.inside.chains.records c.self.inside.root c.self.inside.next c.self.inside.staged _ c.args.closed.links c.self.view_is c.into_parts-words.ensures.0 c.requires)
    (c.swap_words-before.ensures.heads ∙ ap (λ (l : List ℕ). put_words c.self.inside.heads.items l c.into_parts-words.result.0.items) c.deref-in-Some.ensures.value) (c.swap_words-before.ensures.words ∙ ap (words_of c.self.inside.heads.items) c.deref-in-Some.ensures.value))
    c.set_links.ensures.bases c.replace.ensures.after).contents

pub returns-in-Some-clause-levels : goal.returns-in-Some-clause-levels
returns-in-Some-clause-levels c =
    (adopted_with c.self.inside.heads.items (put_words c.self.inside.heads.items c.args.pages.items c.args.closed.heads) c.self.inside.chains.bases c.self.inside.chains.bases c.self.inside.chains.records c.self.inside.root c.self.inside.next _ _ _ c.args.closed.links
    (adoption_on c.self.inside.heads.items c.args.pages.items c.args.closed.heads c.self.inside.chains.bases c.self.inside.chains.records c.self.inside.root c.self.inside.next c.self.inside.staged _ _ c.args.closed.links c.self.invariant c.self.view_is (ap Some c.stage.view_is ∙ c.in-Some.ensures.value) c.requires)
    c.swap_words-before.new.heads.items c.set_links.new.self.bases c.set_links.new.self.records c.replace.new.self c.deref.result.now (OfPages c.args.pages c.swap_words-before.result)
    (c.swap_words-before.ensures.heads ∙ ap (λ (l : List ℕ). put_words c.self.inside.heads.items l c.into_parts-words.result.0.items) c.deref-in-Some.ensures.value ∙ ap (put_words c.self.inside.heads.items c.args.pages.items) c.into_parts-words.ensures.0) c.set_links.ensures.bases (c.deref.ensures.value ∙ c.into_parts-words.ensures.1) c.set_links.ensures.deltas c.set_links.ensures.links
    (words_back c.self.inside.heads.items c.args.pages.items c.into_parts-words.result.0.items c.swap_words-before.new.heads.items c.swap_words-before.result.items (length c.self.inside.heads.items) (pages_fit c.self.inside.heads.items c.args.pages.items c.args.closed.heads c.into_parts-words.result.0.items c.self.inside.chains.bases c.self.inside.chains.records c.self.inside.root c.self.inside.next c.self.inside.staged _ c.args.closed.links c.self.view_is c.into_parts-words.ensures.0 c.requires)
    (c.swap_words-before.ensures.heads ∙ ap (λ (l : List ℕ). put_words c.self.inside.heads.items l c.into_parts-words.result.0.items) c.deref-in-Some.ensures.value) (c.swap_words-before.ensures.words ∙ ap (words_of c.self.inside.heads.items) c.deref-in-Some.ensures.value))
    c.set_links.ensures.bases c.replace.ensures.after).levels

pub returns-in-Some-clause-staged : goal.returns-in-Some-clause-staged
returns-in-Some-clause-staged c =
    (adopted_with c.self.inside.heads.items (put_words c.self.inside.heads.items c.args.pages.items c.args.closed.heads) c.self.inside.chains.bases c.self.inside.chains.bases c.self.inside.chains.records c.self.inside.root c.self.inside.next _ _ _ c.args.closed.links
    (adoption_on c.self.inside.heads.items c.args.pages.items c.args.closed.heads c.self.inside.chains.bases c.self.inside.chains.records c.self.inside.root c.self.inside.next c.self.inside.staged _ _ c.args.closed.links c.self.invariant c.self.view_is (ap Some c.stage.view_is ∙ c.in-Some.ensures.value) c.requires)
    c.swap_words-before.new.heads.items c.set_links.new.self.bases c.set_links.new.self.records c.replace.new.self c.deref.result.now (OfPages c.args.pages c.swap_words-before.result)
    (c.swap_words-before.ensures.heads ∙ ap (λ (l : List ℕ). put_words c.self.inside.heads.items l c.into_parts-words.result.0.items) c.deref-in-Some.ensures.value ∙ ap (put_words c.self.inside.heads.items c.args.pages.items) c.into_parts-words.ensures.0) c.set_links.ensures.bases (c.deref.ensures.value ∙ c.into_parts-words.ensures.1) c.set_links.ensures.deltas c.set_links.ensures.links
    (words_back c.self.inside.heads.items c.args.pages.items c.into_parts-words.result.0.items c.swap_words-before.new.heads.items c.swap_words-before.result.items (length c.self.inside.heads.items) (pages_fit c.self.inside.heads.items c.args.pages.items c.args.closed.heads c.into_parts-words.result.0.items c.self.inside.chains.bases c.self.inside.chains.records c.self.inside.root c.self.inside.next c.self.inside.staged _ c.args.closed.links c.self.view_is c.into_parts-words.ensures.0 c.requires)
    (c.swap_words-before.ensures.heads ∙ ap (λ (l : List ℕ). put_words c.self.inside.heads.items l c.into_parts-words.result.0.items) c.deref-in-Some.ensures.value) (c.swap_words-before.ensures.words ∙ ap (words_of c.self.inside.heads.items) c.deref-in-Some.ensures.value))
    c.set_links.ensures.bases c.replace.ensures.after).staged_is

pub returns-in-Some-clause-pages : goal.returns-in-Some-clause-pages
returns-in-Some-clause-pages c =
    (adopted_with c.self.inside.heads.items (put_words c.self.inside.heads.items c.args.pages.items c.args.closed.heads) c.self.inside.chains.bases c.self.inside.chains.bases c.self.inside.chains.records c.self.inside.root c.self.inside.next _ _ _ c.args.closed.links
    (adoption_on c.self.inside.heads.items c.args.pages.items c.args.closed.heads c.self.inside.chains.bases c.self.inside.chains.records c.self.inside.root c.self.inside.next c.self.inside.staged _ _ c.args.closed.links c.self.invariant c.self.view_is (ap Some c.stage.view_is ∙ c.in-Some.ensures.value) c.requires)
    c.swap_words-before.new.heads.items c.set_links.new.self.bases c.set_links.new.self.records c.replace.new.self c.deref.result.now (OfPages c.args.pages c.swap_words-before.result)
    (c.swap_words-before.ensures.heads ∙ ap (λ (l : List ℕ). put_words c.self.inside.heads.items l c.into_parts-words.result.0.items) c.deref-in-Some.ensures.value ∙ ap (put_words c.self.inside.heads.items c.args.pages.items) c.into_parts-words.ensures.0) c.set_links.ensures.bases (c.deref.ensures.value ∙ c.into_parts-words.ensures.1) c.set_links.ensures.deltas c.set_links.ensures.links
    (words_back c.self.inside.heads.items c.args.pages.items c.into_parts-words.result.0.items c.swap_words-before.new.heads.items c.swap_words-before.result.items (length c.self.inside.heads.items) (pages_fit c.self.inside.heads.items c.args.pages.items c.args.closed.heads c.into_parts-words.result.0.items c.self.inside.chains.bases c.self.inside.chains.records c.self.inside.root c.self.inside.next c.self.inside.staged _ c.args.closed.links c.self.view_is c.into_parts-words.ensures.0 c.requires)
    (c.swap_words-before.ensures.heads ∙ ap (λ (l : List ℕ). put_words c.self.inside.heads.items l c.into_parts-words.result.0.items) c.deref-in-Some.ensures.value) (c.swap_words-before.ensures.words ∙ ap (words_of c.self.inside.heads.items) c.deref-in-Some.ensures.value))
    c.set_links.ensures.bases c.replace.ensures.after).pages

pub returns-in-Some-clause-writes : goal.returns-in-Some-clause-writes
returns-in-Some-clause-writes c =
    (adopted_with c.self.inside.heads.items (put_words c.self.inside.heads.items c.args.pages.items c.args.closed.heads) c.self.inside.chains.bases c.self.inside.chains.bases c.self.inside.chains.records c.self.inside.root c.self.inside.next _ _ _ c.args.closed.links
    (adoption_on c.self.inside.heads.items c.args.pages.items c.args.closed.heads c.self.inside.chains.bases c.self.inside.chains.records c.self.inside.root c.self.inside.next c.self.inside.staged _ _ c.args.closed.links c.self.invariant c.self.view_is (ap Some c.stage.view_is ∙ c.in-Some.ensures.value) c.requires)
    c.swap_words-before.new.heads.items c.set_links.new.self.bases c.set_links.new.self.records c.replace.new.self c.deref.result.now (OfPages c.args.pages c.swap_words-before.result)
    (c.swap_words-before.ensures.heads ∙ ap (λ (l : List ℕ). put_words c.self.inside.heads.items l c.into_parts-words.result.0.items) c.deref-in-Some.ensures.value ∙ ap (put_words c.self.inside.heads.items c.args.pages.items) c.into_parts-words.ensures.0) c.set_links.ensures.bases (c.deref.ensures.value ∙ c.into_parts-words.ensures.1) c.set_links.ensures.deltas c.set_links.ensures.links
    (words_back c.self.inside.heads.items c.args.pages.items c.into_parts-words.result.0.items c.swap_words-before.new.heads.items c.swap_words-before.result.items (length c.self.inside.heads.items) (pages_fit c.self.inside.heads.items c.args.pages.items c.args.closed.heads c.into_parts-words.result.0.items c.self.inside.chains.bases c.self.inside.chains.records c.self.inside.root c.self.inside.next c.self.inside.staged _ c.args.closed.links c.self.view_is c.into_parts-words.ensures.0 c.requires)
    (c.swap_words-before.ensures.heads ∙ ap (λ (l : List ℕ). put_words c.self.inside.heads.items l c.into_parts-words.result.0.items) c.deref-in-Some.ensures.value) (c.swap_words-before.ensures.words ∙ ap (words_of c.self.inside.heads.items) c.deref-in-Some.ensures.value))
    c.set_links.ensures.bases c.replace.ensures.after).writes
