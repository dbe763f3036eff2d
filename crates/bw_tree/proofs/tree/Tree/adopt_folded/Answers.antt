use Rattle.std.proofs.Common.{◌≡◌, ◌∙◌, ap, sym, subst, Some, List, ℕ, length, ◌≤◌, ◌+◌, ◌<◌}
use Rattle.std.specs.List.{AllByRecursion}
use Rattle.bw_delta.specs.Arenas.{deltas_of, links_of}
use Rattle.bw_level.specs.Changes.{Bases}
use Rattle.bw_chain.specs.Supports.{IsLeafAt}
use Rattle.bw_look.specs.Folding.{put_leaves}
use Rattle.bw_look.specs.Words.{put_words}
use Rattle.bw_tree.specs.PageWords.{words_of}
use Rattle.bw_look.specs.declared.folded.Folded.{Folded}
use Rattle.bw_tree.proofs.AdoptedOnLemmas.{words_back}
use Rattle.bw_tree.specs.Beside.{IsAdoptedBeside}
use Rattle.bw_look.specs.Trees.{view_of}
use Rattle.bw_look.specs.View.{TreeView}
use Rattle.bw_tree.proofs.FoldedLemmas.{whole}
use Rattle.bw_tree.proofs.BesideLemmas.{given_fit, leaf_bases, ready, ready_with}
use Rattle.bw_tree.proofs.tree.Tree.adopt_folded.Goals as goal

pub set_links-requires : goal.set_links-requires
set_links-requires c =
    let i = c.self.inside in
    subst (λ (l : List ℕ). c.stage.inside.records + length l ≤ length i.chains.records) (sym (c.deref.ensures.value ∙ c.into_parts-words.ensures.1))
    (ready i.heads.items i.chains.bases i.chains.records i.root i.next i.staged c.args.self.now _ c.args.folded.items c.args.pages.items c.args.closed.heads c.args.closed.links
    (record { stands = c.self.invariant; view = c.self.view_is; waits = ap Some c.stage.view_is ∙ c.in-Some.ensures.value; folded = c.requires.folded; listed = c.requires.listed; posted = c.requires.posted })).fits

pub swap_leaves-requires-clause-leaves : goal.swap_leaves-requires-clause-leaves
swap_leaves-requires-clause-leaves c =
    let i = c.self.inside in
    subst (λ (b : Bases). AllByRecursion (λ (f : Folded). IsLeafAt b f.page) c.deref_mut.result.now) (sym c.set_links.ensures.bases)
    (subst (λ (fs : List Folded). AllByRecursion (λ f. IsLeafAt i.chains.bases f.page) fs) (sym c.deref_mut.ensures.value)
    (leaf_bases i.heads.items i.chains.bases i.chains.records i.root i.next i.staged c.args.self.now c.self.view_is c.self.invariant c.args.folded.items c.requires.folded))

pub swap_words-before-requires-clause-there : goal.swap_words-before-requires-clause-there
swap_words-before-requires-clause-there c =
    let i = c.self.inside in
    let fit = given_fit i.heads.items i.chains.bases i.chains.records i.root i.next i.staged c.args.self.now _ c.args.folded.items c.args.pages.items c.args.closed.heads c.args.closed.links
    (record { stands = c.self.invariant; view = c.self.view_is; waits = ap Some c.stage.view_is ∙ c.in-Some.ensures.value; folded = c.requires.folded; listed = c.requires.listed; posted = c.requires.posted }) in
    subst (λ (l : List ℕ). AllByRecursion (λ (p : ℕ). p < length i.heads.items) l) (sym c.deref-in-Some.ensures.value) fit.there

pub invariant_of-self : goal.invariant_of-self
invariant_of-self c =
    let i = c.self.inside in
    let heads = i.heads.items in
    let pages = c.args.pages.items in
    let given = c.args.closed.heads in
    let fs = c.args.folded.items in
    let swapped = c.swap_leaves.new.folded in
    let put : c.swap_words-before.new.heads.items ≡ put_words heads pages given =
    c.swap_words-before.ensures.heads ∙ ap (λ (l : List ℕ). put_words heads l c.into_parts-words.result.0.items) c.deref-in-Some.ensures.value ∙ ap (put_words heads pages) c.into_parts-words.ensures.0 in
    let all = whole swapped fs c.args.folded.len (c.swap_leaves.auto.folded ∙ ap length c.deref_mut.ensures.value) (sym c.args.folded.ok.0) in
    (ready_with heads (put_words heads pages given) i.chains.bases (put_leaves i.chains.bases fs) i.chains.records i.root i.next c.args.self.now _ fs c.args.closed.links
    (ready heads i.chains.bases i.chains.records i.root i.next i.staged c.args.self.now _ fs pages given c.args.closed.links
    (record { stands = c.self.invariant; view = c.self.view_is; waits = ap Some c.stage.view_is ∙ c.in-Some.ensures.value; folded = c.requires.folded; listed = c.requires.listed; posted = c.requires.posted }))
    c.swap_words-before.new.heads.items c.swap_leaves.new.chains.bases c.swap_leaves.new.chains.records c.replace.new.self c.deref.result.now _ put
    (c.swap_leaves.ensures.bases ∙ ap (λ (b : Bases). put_leaves b c.deref_mut.result.now) c.set_links.ensures.bases ∙ ap (put_leaves i.chains.bases) c.deref_mut.ensures.value)
    (c.deref.ensures.value ∙ c.into_parts-words.ensures.1)
    (ap deltas_of c.swap_leaves.ensures.records ∙ c.set_links.ensures.deltas)
    (ap links_of c.swap_leaves.ensures.records ∙ c.set_links.ensures.links)
    (words_back heads pages given c.swap_words-before.new.heads.items c.swap_words-before.result.items (length heads)
    (given_fit heads i.chains.bases i.chains.records i.root i.next i.staged c.args.self.now _ fs pages given c.args.closed.links
    (record { stands = c.self.invariant; view = c.self.view_is; waits = ap Some c.stage.view_is ∙ c.in-Some.ensures.value; folded = c.requires.folded; listed = c.requires.listed; posted = c.requires.posted }))
    put (c.swap_words-before.ensures.words ∙ ap (words_of heads) c.deref-in-Some.ensures.value))
    (ap (put_leaves c.swap_leaves.new.chains.bases) all ∙ c.swap_leaves.ensures.back ∙ c.set_links.ensures.bases)
    c.replace.ensures.after).0

pub returns-in-Some : goal.returns-in-Some
returns-in-Some c =
    let i = c.self.inside in
    let heads = i.heads.items in
    let pages = c.args.pages.items in
    let given = c.args.closed.heads in
    let fs = c.args.folded.items in
    let swapped = c.swap_leaves.new.folded in
    let put : c.swap_words-before.new.heads.items ≡ put_words heads pages given =
    c.swap_words-before.ensures.heads ∙ ap (λ (l : List ℕ). put_words heads l c.into_parts-words.result.0.items) c.deref-in-Some.ensures.value ∙ ap (put_words heads pages) c.into_parts-words.ensures.0 in
    let all = whole swapped fs c.args.folded.len (c.swap_leaves.auto.folded ∙ ap length c.deref_mut.ensures.value) (sym c.args.folded.ok.0) in
    subst (λ (h : List ℕ). IsAdoptedBeside c.args.self.now (view_of c.swap_words-before.new.heads.items c.swap_leaves.new.chains.bases c.swap_leaves.new.chains.records i.root i.next c.replace.new.self) fs (put_words h pages given)) (ap (λ (v : TreeView). v.heads) c.self.view_is)
    (ready_with heads (put_words heads pages given) i.chains.bases (put_leaves i.chains.bases fs) i.chains.records i.root i.next c.args.self.now _ fs c.args.closed.links
    (ready heads i.chains.bases i.chains.records i.root i.next i.staged c.args.self.now _ fs pages given c.args.closed.links
    (record { stands = c.self.invariant; view = c.self.view_is; waits = ap Some c.stage.view_is ∙ c.in-Some.ensures.value; folded = c.requires.folded; listed = c.requires.listed; posted = c.requires.posted }))
    c.swap_words-before.new.heads.items c.swap_leaves.new.chains.bases c.swap_leaves.new.chains.records c.replace.new.self c.deref.result.now _ put
    (c.swap_leaves.ensures.bases ∙ ap (λ (b : Bases). put_leaves b c.deref_mut.result.now) c.set_links.ensures.bases ∙ ap (put_leaves i.chains.bases) c.deref_mut.ensures.value)
    (c.deref.ensures.value ∙ c.into_parts-words.ensures.1)
    (ap deltas_of c.swap_leaves.ensures.records ∙ c.set_links.ensures.deltas)
    (ap links_of c.swap_leaves.ensures.records ∙ c.set_links.ensures.links)
    (words_back heads pages given c.swap_words-before.new.heads.items c.swap_words-before.result.items (length heads)
    (given_fit heads i.chains.bases i.chains.records i.root i.next i.staged c.args.self.now _ fs pages given c.args.closed.links
    (record { stands = c.self.invariant; view = c.self.view_is; waits = ap Some c.stage.view_is ∙ c.in-Some.ensures.value; folded = c.requires.folded; listed = c.requires.listed; posted = c.requires.posted }))
    put (c.swap_words-before.ensures.words ∙ ap (words_of heads) c.deref-in-Some.ensures.value))
    (ap (put_leaves c.swap_leaves.new.chains.bases) all ∙ c.swap_leaves.ensures.back ∙ c.set_links.ensures.bases)
    c.replace.ensures.after).1
