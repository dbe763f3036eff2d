use Rattle.std.proofs.Common.{◌≡◌, ◌<◌, ◌∙◌, ◌++◌, ◌∷◌, [], set, slice_get, Option, Some, None, Result, Ok, Err, OnErr, ap, get_or, length, sym, subst, arith}
use Rattle.std.proofs.lemmas.List.{length-set, set-get_or, set-set}
use Rattle.std.proofs.lemmas.Option.{get_or_from_slice_get}
use Rattle.bw_key.specs.Order.{KeyBytes}
use Rattle.bw_page.specs.declared.pages.Page.{Page}
use Rattle.bw_delta.specs.declared.deltas.Delta.TheVariants.{Split}
use Rattle.bw_level.specs.Changes.{Bases, based, plain}
use Rattle.bw_chain.specs.Chains.{ChainsView, Records}
use Rattle.bw_chain.specs.Placing.{put_at}
use Rattle.bw_chain.specs.Removed.{HasAllRemoved}
use Rattle.bw_level.specs.Splits.{first_entries, right_part, slot_entries, slot_left, slot_right, slot_separator}
use Rattle.bw_chain.proofs.InPlaceLemmas.{plain_within, taken}
use Rattle.bw_chain.proofs.RemovedBases.{all_put, all_replaced, entries_live, live_page}
use Rattle.bw_chain.proofs.chains.Chains.split.Goals as goal

refused : {T E P : Type 0} (r : Result T E) → P → OnErr r P
refused (Ok x) p = tt
refused (Err e) p = p

abbrev view_of : Bases → Records → ChainsView
view_of bases records = record { bases = bases; records = records }

pub replace-requires : goal.replace-requires
replace-requires c =
    let within = plain_within c.args.self.now c.args.word c.requires.ends c.requires.plain in
    omega (arith, within, ap (λ (v : ChainsView). length v.bases) c.self.view_is, ap length c.in_ok-make_room.ensures.items)

pub unreachable-requires : goal.unreachable-requires
unreachable-requires c = omega (arith, c.requires.fewer, ap slot_entries (taken c.args.self.now c.make_room.new.self.items c.args.word c.replace.result c.requires.ends c.requires.plain (c.in_ok-make_room.ensures.items ∙ ap (λ (v : ChainsView). v.bases) c.self.view_is) c.replace.ensures.old ∙ ap (λ (o : Option Page). based (Some o)) c.in_default.is))

pub cut-cut-requires-clause-fewer : goal.cut-cut-requires-clause-fewer
cut-cut-requires-clause-fewer c = omega (arith, c.requires.fewer, ap slot_entries (taken c.args.self.now c.make_room.new.self.items c.args.word c.replace.result c.requires.ends c.requires.plain (c.in_ok-make_room.ensures.items ∙ ap (λ (v : ChainsView). v.bases) c.self.view_is) c.replace.ensures.old ∙ ap (λ (o : Option Page). based (Some o)) c.in-Some.is))

pub set-requires : goal.set-requires
set-requires c =
    let within = plain_within c.args.self.now c.args.word c.requires.ends c.requires.plain in
    omega (arith, within, ap (λ (v : ChainsView). length v.bases) c.self.view_is, ap length c.in_ok-make_room.ensures.items, ap length c.replace.ensures.items, length-set c.make_room.new.self.items c.args.word None)

pub returns-in_err-sep-clause-err : goal.returns-in_err-sep-clause-err
returns-in_err-sep-clause-err c =
    let word = c.args.word in
    let items = c.make_room.new.self.items in
    let page = c.cut-cut.new.base in
    let back : c.set.new.self.items ≡ c.self.inside.bases.items =
    c.set.ensures.items ∙ ap (λ (bs : Bases). set bs word (Some page)) c.replace.ensures.items ∙ set-set items word None (Some page)
    ∙ ap (λ (p : Page). set items word (Some p)) c.in_err-sep.ensures.err
    ∙ ap (λ (o : Option Page). set items word o) (sym c.in-Some.is ∙ sym (get_or_from_slice_get items word c.replace.result c.replace.result c.replace.ensures.old))
    ∙ set-get_or items word c.replace.result ∙ c.in_ok-make_room.ensures.items in
    refused c.from_residual-in_err-sep.result
    (ap (λ (bs : Bases). view_of bs c.make_room-2.new.arena.records) back
    ∙ ap (view_of c.self.inside.bases.items) c.in_ok-make_room-2.ensures.records ∙ c.self.view_is)

pub returns-clause-cut : goal.returns-clause-cut
returns-clause-cut c =
    let keep = c.args.keep in
    let word = c.args.word in
    let items = c.make_room.new.self.items in
    let page = c.cut-cut.new.base in
    let right = c.in_ok-sep.right in
    let is = taken c.args.self.now c.make_room.new.self.items c.args.word c.replace.result c.requires.ends c.requires.plain (c.in_ok-make_room.ensures.items ∙ ap (λ (v : ChainsView). v.bases) c.self.view_is) c.replace.ensures.old ∙ ap (λ (o : Option Page). based (Some o)) c.in-Some.is in
    record {
      left = page;
      right = right;
      first = c.in_ok-sep.ensures.left ∙ ap (slot_left keep) (sym is);
      others = c.in_ok-sep.ensures.right ∙ ap (slot_right keep) (sym is);
      bases =
          c.put_base.ensures
          ∙ ap (λ (bs : Bases). put_at bs c.to.inside.0 (Some right)) (c.set.ensures.items ∙ ap (λ (bs : Bases). set bs word (Some page)) c.replace.ensures.items ∙ set-set items word None (Some page))
          ∙ ap (λ (bs : Bases). put_at (set bs word (Some page)) c.to.inside.0 (Some right)) (c.in_ok-make_room.ensures.items ∙ ap (λ (v : ChainsView). v.bases) c.self.view_is)
          ∙ ap (λ n. put_at (set c.args.self.now.bases word (Some page)) n (Some right)) c.to.view_is;
      records =
          c.append.ensures.records
          ∙ ap (λ (rs : Records). rs ++ (Split c.in_ok-sep.sep c.args.to, word) ∷ []) (c.in_ok-make_room-2.ensures.records ∙ ap (λ (v : ChainsView). v.records) c.self.view_is)
          ∙ ap (λ (k : KeyBytes). c.args.self.now.records ++ (Split k c.args.to, word) ∷ []) (c.in_ok-sep.ensures.separator ∙ ap (slot_separator keep) (sym is));
    }

pub invariant_of-self-2 : goal.invariant_of-self-2
invariant_of-self-2 c =
    let keep = c.args.keep in
    let word = c.args.word in
    let items = c.self.inside.bases.items in
    let page = c.cut-cut.new.base in
    let right = c.in_ok-sep.right in
    let fewer : keep < slot_entries (plain c.in-Some.base) = omega (arith, c.requires.fewer, ap slot_entries (taken c.args.self.now c.make_room.new.self.items c.args.word c.replace.result c.requires.ends c.requires.plain (c.in_ok-make_room.ensures.items ∙ ap (λ (v : ChainsView). v.bases) c.self.view_is) c.replace.ensures.old ∙ ap (λ (o : Option Page). based (Some o)) c.in-Some.is)) in
    let live = entries_live (plain c.in-Some.base) keep fewer in
    let left_stays = live_page page (record live.0 { body = first_entries keep live.0.body }) (c.in_ok-sep.ensures.left ∙ ap (slot_left keep) live.1) in
    let right_stays = live_page right (right_part keep live.0) (c.in_ok-sep.ensures.right ∙ ap (slot_right keep) live.1) in
    let now : c.put_base.new.bases.items ≡ put_at (set (set items word None) word (Some page)) c.to.inside.0 (Some right) =
    c.put_base.ensures
    ∙ ap (λ (bs : Bases). put_at bs c.to.inside.0 (Some right))
    (c.set.ensures.items ∙ ap (λ (bs : Bases). set bs word (Some page)) (c.replace.ensures.items ∙ ap (λ (bs : Bases). set bs word None) c.in_ok-make_room.ensures.items)) in
    subst (λ (bs : Bases). HasAllRemoved bs c.self.inside.removed.items) (sym now)
    (all_put (set (set items word None) word (Some page)) c.to.inside.0 right c.self.inside.removed.items right_stays
    (all_replaced items word page c.self.inside.removed.items left_stays c.self.invariant))
