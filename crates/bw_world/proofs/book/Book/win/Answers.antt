use Rattle.std.proofs.Common.{rules, arith, subst, sym, ap, set, get_or, map, length, ◌∙◌, ◌≡◌, ◌<◌, ◌∷◌, ◌++◌, [], None}
use Rattle.std.proofs.lemmas.List.{length-map}
use lib.Seq.{map-set}
use Rattle.bw_core.specs.declared.BookView.{BookView}
use Rattle.bw_core.specs.Events.{book_after_win, post}
use Rattle.bw_world.proofs.Members.{get_or-map}
use Rattle.bw_world.proofs.book.Book.win.Goals as goal

pub returns-clause-ok : goal.returns-clause-ok
returns-clause-ok c = let i = c.self.inside in
    let inside : c.args.page < length i.seen.items = let h = subst (λ (z : BookView). c.args.page < length z.seen) (sym c.self.view_is) c.requires in let n = length-map i.seen.items (λ v. v.items) in omega arith in
    let below : get_or (map (λ v. v.items) i.seen.items) c.args.page [] ≡ c.index.result.now.items = get_or-map (λ v. v.items) i.seen.items c.args.page c.index.result.now [] inside c.index.ensures in
    let chain : c.extend_from_slice.new.self.items ≡ c.args.rec ∷ c.index.result.now.items = search rules in
    let posts : c.push-2.new.self.items ≡ i.posted.items ++ post c.args.rec c.args.page c.args.lost ∷ [] = search rules in
    (λ j. let b : BookView = record {
      live = i.live;
      owned = i.owned.items;
      posted = posts j;
      under = None;
      seen = (map-set (λ v. v.items) i.seen.items c.args.page c.extend_from_slice.new.self ∙ ap (set (map (λ v. v.items) i.seen.items) c.args.page) (chain ∙ ap (λ z. c.args.rec ∷ z) (sym below))) j;
      ends = i.ends.items;
      swaps = i.swaps.items;
      width = i.width;
      told = i.told;
    } in b)
    ∙ ap (λ (z : BookView). book_after_win z c.args.rec c.args.page c.args.lost) c.self.view_is
