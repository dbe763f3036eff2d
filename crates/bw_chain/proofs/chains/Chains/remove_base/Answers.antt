use Rattle.std.proofs.Common.{◌≡◌, ℕ, ◌∙◌, List, [], ◌∷◌, ◌++◌, set, Some, ap, length, sym, subst, arith}
use Rattle.bw_page.specs.declared.pages.Page.TheVariants.{Gone as GonePage}
use Rattle.bw_level.specs.Changes.{Bases}
use Rattle.bw_chain.specs.Chains.{ChainsView}
use Rattle.bw_chain.specs.Removed.{HasAllRemoved}
use Rattle.bw_chain.proofs.BaseLemmas.{base_low}
use Rattle.bw_chain.proofs.RemovedBases.{all_removed}
use Rattle.bw_chain.proofs.SupportLemmas.{base_within}
use Rattle.bw_chain.proofs.chains.Chains.remove_base.Goals as goal

pub set-requires : goal.set-requires
set-requires c =
    let within = base_within c.args.self.now.bases c.args.self.now.records c.args.head c.requires in
    let same = ap (λ (v : ChainsView). length v.bases) c.self.view_is in
    omega (arith, within, same, c.base_number-number.ensures)

pub overflow_cast-number : goal.overflow_cast-number
overflow_cast-number c =
    omega (arith, base_low c.args.self.now.bases c.args.self.now.records c.args.head c.requires, c.base_number-number.ensures)

pub invariant_of-self-2 : goal.invariant_of-self-2
invariant_of-self-2 c =
    let bases = c.self.inside.bases.items in
    let number = c.base_number-number.result in
    let gone = GonePage c.args.removed in
    let pushed : c.push.new.self.items ≡ c.reserve.new.self.items ++ number ∷ [] = rw c.unwrap.ensures at c.push.ensures.items in
    subst (λ (bs : Bases). HasAllRemoved bs c.push.new.self.items) (sym c.set.ensures.items)
    (subst (HasAllRemoved (set bases number (Some gone))) (sym (pushed ∙ ap (λ (ns : List ℕ). ns ++ number ∷ []) c.in_ok-reserve.ensures.items))
    (all_removed bases number gone c.self.inside.removed.items c.self.invariant))
