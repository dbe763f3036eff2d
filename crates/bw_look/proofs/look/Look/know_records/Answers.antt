use Rattle.std.proofs.Common.{◌≡◌, ◌<◌, ◌≤◌, ◌^◌, length, slice_index, ap, sym, ◌∙◌, subst}
use Rattle.std.proofs.lemmas.List.{length-map}
use Rattle.bw_chain.specs.Chains.{slot_of_word}
use Rattle.bw_level.specs.Reading.{writes_over}
use Rattle.bw_level.specs.Searches.{AllStand}
use Rattle.bw_level.specs.Slots.{slot_at}
use Rattle.bw_look.specs.Trees.{ArePlaced}
use Rattle.bw_look.specs.View.{TreeView}
use Rattle.bw_look.proofs.RoutingLemmas.{none_on, page_there}
use Rattle.bw_look.proofs.look.Look.know_records.Goals as goal

pub returns-clause-there : goal.returns-clause-there
returns-clause-there c = λ p on.
    subst (λ (v : TreeView). p < length v.heads) c.self.view_is
    (page_there c.self.inside.heads.now.items _ _ _ _ _ _ c.args.self.now p c.self.view_is c.self.invariant.now on)

pub returns-clause-stand : goal.returns-clause-stand
returns-clause-stand c = subst (λ (v : TreeView). AllStand v.slots v.levels) c.self.view_is c.self.invariant.now.stand

pub returns-clause-placed : goal.returns-clause-placed
returns-clause-placed c = subst (λ (v : TreeView). ArePlaced v.heads v.levels) c.self.view_is c.self.invariant.now.placed

pub returns-clause-bare : goal.returns-clause-bare
returns-clause-bare c = λ p low.
    sym (ap (λ (v : TreeView). writes_over (slot_at v.slots p)) c.self.view_is)
    ∙ none_on c.self.inside.heads.now.items _ _ _ _ c.self.invariant.now p (subst (λ (v : TreeView). slice_index v.heads p < 2 ^ 32) (sym c.self.view_is) low)

pub returns-clause-few : goal.returns-clause-few
returns-clause-few c = subst (λ (v : TreeView). length v.heads ≤ 2 ^ 32) c.self.view_is c.self.invariant.now.few_pages

pub returns-clause-slots : goal.returns-clause-slots
returns-clause-slots c =
    subst (λ (v : TreeView). length v.slots ≡ length v.heads) c.self.view_is (length-map c.self.inside.heads.now.items (slot_of_word c.self.inside.chains.now.bases c.self.inside.chains.now.records))
