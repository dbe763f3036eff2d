use Rattle.std.proofs.Common.{◌≡◌, ℕ, ◌∙◌, List, [], ◌∷◌, ◌++◌, set, Some, ap, length, sym, subst, arith}
use Rattle.std.proofs.lemmas.List.{length-set}
use Rattle.bw_level.specs.Changes.{Bases}
use Rattle.bw_chain.specs.Chains.{ChainsView, page_at}
use Rattle.bw_level.specs.Merges.{slot_joined, state_joined}
use Rattle.bw_chain.specs.Removed.{HasAllRemoved}
use Rattle.bw_level.specs.Slots.{Slot, Live}
use Rattle.bw_chain.proofs.InPlaceLemmas.{plain_within}
use Rattle.bw_chain.proofs.RemovedBases.{all_removed, all_set, live_page}
use Rattle.bw_chain.proofs.chains.Chains.merge.Goals as goal

pub set-requires : goal.set-requires
set-requires c =
    let within = plain_within c.args.self.now c.args.word c.requires.ends c.requires.plain in
    omega (arith, within, ap (λ (v : ChainsView). length v.bases) c.self.view_is)

pub set-requires-2 : goal.set-requires-2
set-requires-2 c =
    let within = plain_within c.args.self.now c.args.right c.requires.right_ends c.requires.right_plain in
    omega (arith, within, ap (λ (v : ChainsView). length v.bases) c.self.view_is, ap length c.set.ensures.items, length-set c.self.inside.bases.items c.args.word (Some c.in_ok-page.page))

pub invariant_of-self-2 : goal.invariant_of-self-2
invariant_of-self-2 c =
    let chains = c.args.self.now in
    let page = c.in_ok-page.page in
    let n = c.requires.neighbours in
    let live = live_page page (state_joined n.state n.other) (c.in_ok-page.ensures ∙ ap (λ (o : Slot). slot_joined o (page_at chains c.args.right)) n.is ∙ ap (slot_joined (Live n.state)) n.other_is) in
    let pushed : c.push.new.self.items ≡ c.reserve.new.self.items ++ c.args.right ∷ [] = rw c.unwrap.ensures at c.push.ensures.items in
    subst (λ (bs : Bases). HasAllRemoved bs c.push.new.self.items) (sym (c.set-2.ensures.items ∙ ap (λ (bs : Bases). set bs c.args.right (Some c.in_ok-removed.removed)) c.set.ensures.items))
    (subst (HasAllRemoved (set (set c.self.inside.bases.items c.args.word (Some page)) c.args.right (Some c.in_ok-removed.removed))) (sym (pushed ∙ ap (λ (ns : List ℕ). ns ++ c.args.right ∷ []) c.in_ok-reserve.ensures.items))
    (all_removed (set c.self.inside.bases.items c.args.word (Some page)) c.args.right c.in_ok-removed.removed c.self.inside.removed.items
    (all_set c.self.inside.bases.items c.args.word page c.self.inside.removed.items live c.self.invariant)))
