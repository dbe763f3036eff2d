use Rattle.std.proofs.Common.{◌∙◌, set, [], Option, Some, None, ap, get_or, length, subst, sym, arith}
use Rattle.std.proofs.lemmas.List.{length-set, set-set}
use Rattle.std.proofs.lemmas.Option.{get_or_from_slice_get}
use Rattle.bw_key.specs.Order.{KeyBytes}
use Rattle.bw_page.specs.declared.pages.Page.{Page}
use Rattle.bw_delta.specs.declared.deltas.Delta.{Delta}
use Rattle.bw_delta.specs.declared.deltas.Delta.TheVariants.{Split}
use Rattle.bw_level.specs.Changes.{Bases, based, change, plain}
use Rattle.bw_chain.specs.Chains.{ChainsView}
use Rattle.bw_level.specs.Slots.{IsSound}
use Rattle.bw_chain.specs.Removed.{HasAllRemoved}
use Rattle.bw_chain.proofs.InPlaceLemmas.{split_at, split_within}
use Rattle.bw_chain.proofs.RemovedBases.{all_replaced, live_page, sound_live}
use Rattle.bw_chain.proofs.chains.Chains.narrow.Goals as goal

pub replace-requires : goal.replace-requires
replace-requires c =
    let s = c.in-Some-Split-default in
    let within = split_within c.args.self.now c.args.head s.number s.sep s.to c.requires.ends (sym s.ensures ∙ ap (λ (d : Delta). Some (d, s.number)) s.field-0-0-is) in
    omega (arith, within, ap (λ (v : ChainsView). length v.bases) c.self.view_is)

pub unreachable-requires : goal.unreachable-requires
unreachable-requires c =
    let s = c.in-Some-Split-default in
    let at = split_at c.args.self.now c.args.head s.number s.sep s.to c.replace.result c.requires.ends (sym s.ensures ∙ ap (λ (d : Delta). Some (d, s.number)) s.field-0-0-is) c.requires.sound
    (sym (get_or_from_slice_get c.self.inside.bases.items s.number c.replace.result c.replace.result c.replace.ensures.old) ∙ ap (λ (v : ChainsView). get_or v.bases s.number c.replace.result) c.self.view_is) in
    subst (λ (o : Option Page). IsSound (change [] (Split s.sep s.to) (based (Some o)))) c.in_default-replace.is at.sound

pub narrow-requires : goal.narrow-requires
narrow-requires c = λ bases.
    let s = c.in-Some-Split-default in
    let at = split_at c.args.self.now c.args.head s.number s.sep s.to c.replace.result c.requires.ends (sym s.ensures ∙ ap (λ (d : Delta). Some (d, s.number)) s.field-0-0-is) c.requires.sound
    (sym (get_or_from_slice_get c.self.inside.bases.items s.number c.replace.result c.replace.result c.replace.ensures.old) ∙ ap (λ (v : ChainsView). get_or v.bases s.number c.replace.result) c.self.view_is) in
    subst (λ (k : KeyBytes). IsSound (change [] (Split k s.to) (plain c.in-Some.base))) (sym c.in_ok-high.ensures.ok)
    (subst (λ (o : Option Page). IsSound (change [] (Split s.sep s.to) (based (Some o)))) c.in-Some.is at.sound)

pub set-requires : goal.set-requires
set-requires c =
    let s = c.in-Some-Split-default in
    let within = split_within c.args.self.now c.args.head s.number s.sep s.to c.requires.ends (sym s.ensures ∙ ap (λ (d : Delta). Some (d, s.number)) s.field-0-0-is) in
    omega (arith, within, ap (λ (v : ChainsView). length v.bases) c.self.view_is, ap length c.replace.ensures.items, length-set c.self.inside.bases.items s.number None)

pub returns-clause-ok : goal.returns-clause-ok
returns-clause-ok c =
    let s = c.in-Some-Split-default in
    let page = c.narrow.new.base in
    let at = split_at c.args.self.now c.args.head s.number s.sep s.to c.replace.result c.requires.ends (sym s.ensures ∙ ap (λ (d : Delta). Some (d, s.number)) s.field-0-0-is) c.requires.sound
    (sym (get_or_from_slice_get c.self.inside.bases.items s.number c.replace.result c.replace.result c.replace.ensures.old) ∙ ap (λ (v : ChainsView). get_or v.bases s.number c.replace.result) c.self.view_is) in
    record {
      page = page;
      same =
          c.narrow.ensures []
          ∙ ap (λ (k : KeyBytes). change [] (Split k s.to) (plain c.in-Some.base)) c.in_ok-high.ensures.ok
          ∙ ap (λ (o : Option Page). change [] (Split s.sep s.to) (based (Some o))) (sym c.in-Some.is)
          ∙ sym at.state;
      under = at.under;
      bases =
          c.set.ensures.items ∙ ap (λ (bs : Bases). set bs s.number (Some page)) c.replace.ensures.items ∙ set-set c.self.inside.bases.items s.number None (Some page)
          ∙ ap (λ (v : ChainsView). set v.bases s.number (Some page)) c.self.view_is;
      records = ap (λ (v : ChainsView). v.records) c.self.view_is;
    }

pub invariant_of-self : goal.invariant_of-self
invariant_of-self c =
    let s = c.in-Some-Split-default in
    let page = c.narrow.new.base in
    let at = split_at c.args.self.now c.args.head s.number s.sep s.to c.replace.result c.requires.ends (sym s.ensures ∙ ap (λ (d : Delta). Some (d, s.number)) s.field-0-0-is) c.requires.sound
    (sym (get_or_from_slice_get c.self.inside.bases.items s.number c.replace.result c.replace.result c.replace.ensures.old) ∙ ap (λ (v : ChainsView). get_or v.bases s.number c.replace.result) c.self.view_is) in
    let live = sound_live (change [] (Split s.sep s.to) (based (Some (Some c.in-Some.base)))) (subst (λ (o : Option Page). IsSound (change [] (Split s.sep s.to) (based (Some o)))) c.in-Some.is at.sound) in
    let is = c.narrow.ensures [] ∙ ap (λ (k : KeyBytes). change [] (Split k s.to) (plain c.in-Some.base)) c.in_ok-high.ensures.ok ∙ live.1 in
    subst (λ (bs : Bases). HasAllRemoved bs c.self.inside.removed.items)
    (sym (c.set.ensures.items ∙ ap (λ (bs : Bases). set bs s.number (Some page)) c.replace.ensures.items))
    (all_replaced c.self.inside.bases.items s.number page c.self.inside.removed.items (live_page page live.0 is) c.self.invariant)
