use Rattle.std.proofs.Common.{◌∙◌, ℕ, [], Some, None, refl, ap, sym, subst, set}
use Rattle.std.proofs.lemmas.List.{set-set}
use Rattle.bw_model.specs.Values.{ValueBytes}
use Rattle.bw_page.specs.Leaves.{LeafView}
use Rattle.bw_page.specs.declared.pages.Page.TheVariants.{Leaf as LeafPage}
use Rattle.bw_level.specs.Changes.{Bases}
use Rattle.bw_level.specs.Slots.{Pairs}
use Rattle.bw_chain.specs.Chains.{ChainsView}
use Rattle.bw_chain.specs.Removed.{HasAllRemoved}
use Rattle.bw_chain.proofs.RemovedBases.{all_set, all_vacated, live_page}
use Rattle.bw_chain.proofs.chains.Chains.swap_leaf.Goals as goal

pub invariant_of-self : goal.invariant_of-self
invariant_of-self c =
    let bases = c.self.inside.bases.items in
    let numbers = c.self.inside.removed.items in
    let leaf = c.replace-swapped.result in
    let stays = live_page (LeafPage leaf) (record { low = leaf.low; high = leaf.high; side = leaf.side; body = Pairs leaf.pairs [] }) refl in
    subst (λ (b : Bases). HasAllRemoved b numbers) (sym c.set.ensures.items)
    (all_set c.replace.new.self.items c.number.inside.0 (LeafPage leaf) numbers stays
    (subst (λ (b : Bases). HasAllRemoved b numbers) (sym c.replace.ensures.items) (all_vacated bases c.number.inside.0 numbers c.self.invariant)))

pub returns-clause-bases : goal.returns-clause-bases
returns-clause-bases c =
    c.set.ensures.items
    ∙ ap (λ (b : Bases). set b c.number.inside.0 (Some (LeafPage c.replace-swapped.result))) c.replace.ensures.items
    ∙ set-set c.self.inside.bases.items c.number.inside.0 None (Some (LeafPage c.replace-swapped.result))
    ∙ ap (λ (n : ℕ). set c.self.inside.bases.items n (Some (LeafPage c.replace-swapped.result))) c.number.view_is
    ∙ ap (λ (l : LeafView ValueBytes). set c.self.inside.bases.items c.args.number (Some (LeafPage l))) c.replace-swapped.ensures.value
    ∙ ap (λ (v : ChainsView). set v.bases c.args.number (Some (LeafPage c.args.leaf.now))) c.self.view_is
