use Rattle.std.proofs.Common.{ℕ, List, set, Some, ◌≡◌, ◌≤◌, ◌^◌, ◌++◌, length, ◌∙◌, ap, subst, arith}
use Rattle.std.proofs.lemmas.List.{length-map}
use Rattle.bw_delta.specs.declared.deltas.Delta.{Delta}
use Rattle.bw_delta.specs.declared.deltas.Delta.TheVariants.{AddChild}
use Rattle.bw_page.specs.declared.pages.Page.TheVariants.{Inner as InnerPage}
use Rattle.bw_key.specs.Order.{KeyBytes}
use Rattle.bw_level.specs.Changes.{Bases}
use Rattle.bw_level.specs.Searches.{plain_inner}
use Rattle.bw_level.specs.Slots.{Live, PageState, slot_at}
use Rattle.bw_chain.specs.Chains.{Records}
use Rattle.bw_chain.specs.Records.{with_link}
use Rattle.bw_tree.specs.TreeChildren.{AreNamed, state_with_children}
use Rattle.bw_look.specs.Trees.{IsTree, view_of}
use Rattle.bw_tree.proofs.NamingLemmas.{all_named_on, own_behind}
use Rattle.bw_look.proofs.RoutingLemmas.{page_there}
use Rattle.bw_tree.proofs.tree.Tree.name_all.Goals as goal

pub index-head-requires : goal.index-head-requires
index-head-requires c =
    let there = page_there c.self.inside.heads.items c.self.inside.chains.bases c.self.inside.chains.records c.self.inside.root c.self.inside.next _ c.self.inside.staged _ c.args.parent c.self.view_is c.self.invariant.now c.requires.page.in_levels in
    omega (arith, there, c.parent.view_is, c.self.inside.heads.ok)

pub index_mut-requires : goal.index_mut-requires
index_mut-requires c =
    let there = page_there c.self.inside.heads.items c.self.inside.chains.bases c.self.inside.chains.records c.self.inside.root c.self.inside.next _ c.self.inside.staged _ c.args.parent c.self.view_is c.self.invariant.now c.requires.page.in_levels in
    omega (arith, there, c.parent.view_is, c.self.inside.heads.ok)

-- the tree of the new word and base page, and what it is to the old one
named_now : (c : goal.After-self-1) →
    IsTree (set c.self.inside.heads.items c.parent-2.inside.0 c.parent-2.inside.0) c.replace_base.new.self.bases c.replace_base.new.self.records c.self.inside.root c.self.inside.next c.self.inside.staged
    × AreNamed c.args.self.now (view_of (set c.self.inside.heads.items c.parent-2.inside.0 c.parent-2.inside.0) c.replace_base.new.self.bases c.replace_base.new.self.records c.self.inside.root c.self.inside.next c.self.inside.staged) c.args.parent c.args.entries.items
named_now c =
    let heads = c.self.inside.heads.items in
    let records = c.self.inside.chains.records in
    let head = c.index-head.result.now in
    let deltas = c.in_ok-deltas.deltas.items in
    let more = with_link head deltas in
    let longer : c.add_records.new.self.records ≡ records ++ more = c.in_ok-add_records.ensures.ok in
    let count : length more ≡ length c.args.entries.items =
    length-map deltas (λ (d : Delta). (d, head)) ∙ ap length c.in_ok-deltas.ensures ∙ length-map c.args.entries.items (λ e. AddChild e.0 e.1) in
    let named = subst (λ (l : List (KeyBytes × ℕ)). (was : PageState) → slot_at c.args.self.now.slots c.args.parent ≡ Live was → plain_inner c.in_ok-page.page ≡ Live (state_with_children l was)) c.deref.ensures.value c.in_ok-page.ensures in
    let there = page_there heads c.self.inside.chains.bases records c.self.inside.root c.self.inside.next _ c.self.inside.staged _ c.args.parent c.self.view_is c.self.invariant.now c.requires.page.in_levels in
    all_named_on heads c.self.inside.chains.bases records more c.self.inside.root c.self.inside.next c.self.inside.staged c.args.self.now c.args.parent c.args.entries.items (InnerPage c.in_ok-page.page)
    count (subst (λ (r : Records). length r ≤ 2 ^ 32) longer c.in_ok-add_records.ensures.few)
    c.self.invariant c.self.view_is c.requires.none c.requires.page c.requires.fit named
    (set heads c.parent-2.inside.0 c.parent-2.inside.0) c.replace_base.new.self.bases c.replace_base.new.self.records c.args.parent
    (own_behind heads c.self.inside.chains.bases records more c.self.invariant.now.own c.self.invariant.now.ends c.args.parent there)
    (ap (λ n. set heads n n) c.parent-2.view_is)
    (c.replace_base.ensures.bases ∙ ap (λ (b : Bases). set b c.args.parent (Some (InnerPage c.in_ok-page.page))) c.add_records.ensures.bases)
    (c.replace_base.ensures.records ∙ longer)

pub invariant_of-self-2 : goal.invariant_of-self-2
invariant_of-self-2 c = (named_now c).0

pub returns-clause-ok : goal.returns-clause-ok
returns-clause-ok c = (named_now c).1
