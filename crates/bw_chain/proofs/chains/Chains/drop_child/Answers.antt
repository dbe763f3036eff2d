use Rattle.std.proofs.Common.{◌≡◌, ◌∙◌, ◌∷◌, [], ◌++◌, set, Option, Some, None, ap, length, sym, subst, arith}
use Rattle.std.proofs.lemmas.List.{length-set, set-set}
use Rattle.bw_page.specs.declared.pages.Page.{Page}
use Rattle.bw_delta.specs.declared.deltas.Delta.TheVariants.{DropChild}
use Rattle.bw_level.specs.Changes.{Bases, based}
use Rattle.bw_chain.specs.Chains.{ChainsView, Records, page_at}
use Rattle.bw_level.specs.Before.{low_of}
use Rattle.bw_level.specs.Children.{slot_without_child, state_without_child}
use Rattle.bw_level.specs.Slots.{IsSoundInner, Slot}
use Rattle.bw_chain.specs.Removed.{HasAllRemoved}
use Rattle.bw_chain.proofs.InPlaceLemmas.{plain_within, taken}
use Rattle.bw_chain.proofs.RemovedBases.{all_replaced, inner_live, live_page}
use Rattle.bw_chain.proofs.chains.Chains.drop_child.Goals as goal

pub replace-requires : goal.replace-requires
replace-requires c =
    let within = plain_within c.args.self.now c.args.word c.requires.ends c.requires.plain in
    omega (arith, within, ap (λ (v : ChainsView). length v.bases) c.self.view_is)

pub unreachable-requires : goal.unreachable-requires
unreachable-requires c =
    let is = taken c.args.self.now c.self.inside.bases.items c.args.word c.replace.result c.requires.ends c.requires.plain (ap (λ (v : ChainsView). v.bases) c.self.view_is) c.replace.ensures.old ∙ ap (λ (o : Option Page). based (Some o)) c.in_default.is in
    subst IsSoundInner is c.requires.inner

pub drop_child-requires-clause-inner : goal.drop_child-requires-clause-inner
drop_child-requires-clause-inner c =
    let is = taken c.args.self.now c.self.inside.bases.items c.args.word c.replace.result c.requires.ends c.requires.plain (ap (λ (v : ChainsView). v.bases) c.self.view_is) c.replace.ensures.old ∙ ap (λ (o : Option Page). based (Some o)) c.in-Some.is in
    subst IsSoundInner is c.requires.inner

pub drop_child-requires-clause-other : goal.drop_child-requires-clause-other
drop_child-requires-clause-other c =
    let is = taken c.args.self.now c.self.inside.bases.items c.args.word c.replace.result c.requires.ends c.requires.plain (ap (λ (v : ChainsView). v.bases) c.self.view_is) c.replace.ensures.old ∙ ap (λ (o : Option Page). based (Some o)) c.in-Some.is in
    subst (λ (o : Slot). c.args.sep ≡ low_of o → ⊥) is c.requires.other

pub set-requires : goal.set-requires
set-requires c =
    let within = plain_within c.args.self.now c.args.word c.requires.ends c.requires.plain in
    omega (arith, within, ap (λ (v : ChainsView). length v.bases) c.self.view_is, ap length c.replace.ensures.items, length-set c.self.inside.bases.items c.args.word None)

pub returns-clause-ok : goal.returns-clause-ok
returns-clause-ok c =
    let word = c.args.word in
    let items = c.self.inside.bases.items in
    let page = c.drop_child.new.page in
    let is = taken c.args.self.now items word c.replace.result c.requires.ends c.requires.plain (ap (λ (v : ChainsView). v.bases) c.self.view_is) c.replace.ensures.old ∙ ap (λ (o : Option Page). based (Some o)) c.in-Some.is in
    record {
      page = page;
      lost = c.drop_child.ensures ∙ ap (slot_without_child c.args.sep) (sym is);
      bases =
          c.set.ensures.items ∙ ap (λ (bs : Bases). set bs word (Some page)) c.replace.ensures.items ∙ set-set items word None (Some page)
          ∙ ap (λ (v : ChainsView). set v.bases word (Some page)) c.self.view_is;
      records = c.append.ensures.records ∙ ap (λ (rs : Records). rs ++ (DropChild c.args.sep, word) ∷ []) (c.in_ok-make_room.ensures.records ∙ ap (λ (v : ChainsView). v.records) c.self.view_is);
    }

pub invariant_of-self-2 : goal.invariant_of-self-2
invariant_of-self-2 c =
    let word = c.args.word in
    let items = c.self.inside.bases.items in
    let page = c.drop_child.new.page in
    let is = taken c.args.self.now items word c.replace.result c.requires.ends c.requires.plain (ap (λ (v : ChainsView). v.bases) c.self.view_is) c.replace.ensures.old ∙ ap (λ (o : Option Page). based (Some o)) c.in-Some.is in
    let live = inner_live (page_at c.args.self.now word) c.requires.inner in
    subst (λ (bs : Bases). HasAllRemoved bs c.self.inside.removed.items)
    (sym (c.set.ensures.items ∙ ap (λ (bs : Bases). set bs word (Some page)) c.replace.ensures.items))
    (all_replaced items word page c.self.inside.removed.items
    (live_page page (state_without_child c.args.sep live.0) (c.drop_child.ensures ∙ ap (slot_without_child c.args.sep) (sym is ∙ live.1)))
    c.self.invariant)
