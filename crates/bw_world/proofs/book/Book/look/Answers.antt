use Rattle.std.proofs.Common.{ap, set, ◌∙◌}
use lib.Seq.{map-set}
use Rattle.bw_core.specs.declared.BookView.{BookView}
use Rattle.bw_core.specs.Events.{book_after_look}
use Rattle.bw_world.proofs.book.Book.look.Goals as goal

pub returns : goal.returns
returns c = let i = c.self.inside in
    (λ j. let b : BookView = record {
      live = i.live;
      owned = i.owned.items;
      posted = i.posted.items;
      under = i.under;
      seen = map-set (λ v. v.items) i.seen.items c.args.page c.args.chain.records j;
      ends = set i.ends.items c.args.page c.args.chain.last;
      swaps = i.swaps.items;
      width = i.width;
      told = i.told;
    } in b)
    ∙ ap (λ (z : BookView). book_after_look z c.args.page c.args.chain.records.items c.args.chain.last) c.self.view_is
