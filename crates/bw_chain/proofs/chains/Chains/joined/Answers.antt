use Rattle.std.proofs.Common.{◌≡◌, sym, subst}
use Rattle.std.specs.Prelude.{IfOk}
use Rattle.bw_page.specs.declared.pages.Page.{Page}
use Rattle.bw_level.specs.Changes.{plain}
use Rattle.bw_chain.specs.Chains.{page_at}
use Rattle.bw_level.specs.Merges.{AreNeighbours, slot_joined}
use Rattle.bw_level.specs.Slots.{Slot}
use Rattle.bw_chain.proofs.BaseReadLemmas.{read_page, read_there}
use Rattle.bw_chain.proofs.chains.Chains.joined.Goals as goal

pub unreachable-requires : goal.unreachable-requires
unreachable-requires c =
    read_there c.args.self.now c.args.word c.base.result c.requires.neighbours.state c.requires.ends c.requires.plain c.base.ensures c.requires.neighbours.is c.in_default.is

pub unreachable-requires-in_default-base : goal.unreachable-requires-in_default-base
unreachable-requires-in_default-base c =
    read_there c.args.self.now c.args.right c.base-2.result c.requires.neighbours.other c.requires.right_ends c.requires.right_plain c.base-2.ensures c.requires.neighbours.other_is c.in_default-base.is

pub join-requires : goal.join-requires
join-requires c =
    subst (λ (o : Slot). AreNeighbours (plain c.in-Some.page.now) o)
    (read_page c.args.self.now c.args.right c.base-2.result c.in-Some-base.other c.requires.right_ends c.requires.right_plain c.base-2.ensures c.in-Some-base.is)
    (subst (λ (o : Slot). AreNeighbours o (page_at c.args.self.now c.args.right))
    (read_page c.args.self.now c.args.word c.base.result c.in-Some.page c.requires.ends c.requires.plain c.base.ensures c.in-Some.is)
    c.requires.neighbours)

pub returns : goal.returns
returns c =
    let page = read_page c.args.self.now c.args.word c.base.result c.in-Some.page c.requires.ends c.requires.plain c.base.ensures c.in-Some.is in
    let other = read_page c.args.self.now c.args.right c.base-2.result c.in-Some-base.other c.requires.right_ends c.requires.right_plain c.base-2.ensures c.in-Some-base.is in
    subst (λ (o : Slot). IfOk c.join.result (λ (p : Page). plain p ≡ slot_joined o (page_at c.args.self.now c.args.right))) (sym page)
    (subst (λ (o : Slot). IfOk c.join.result (λ (p : Page). plain p ≡ slot_joined (plain c.in-Some.page.now) o)) (sym other) c.join.ensures)
