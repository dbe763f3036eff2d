use Rattle.std.proofs.Common.{rules, tests, subst, ◌&&◌, leb, ltb, ◌<◌, ◌↔◌, IsTrue}
use Rattle.std.proofs.lemmas.Iterator.{YieldsList-from_slice}
use Rattle.std.proofs.lemmas.Iterator.Search.{any_from_yields_List}
use Rattle.bw_core.specs.declared.Span.{Span}
use Rattle.bw_core.specs.declared.BookView.{BookView}
use Rattle.bw_core.specs.World.{owns}
use Rattle.bw_world.proofs.Members.{test_is}
use Rattle.bw_world.proofs.book.Book.owns.Goals as goal

pub returns : goal.returns
returns c = let i = c.self.inside in let any = any_from_yields_List (λ (x : Span). leb x.from c.args.rec && ltb c.args.rec x.to) _ _ c.any.result c.any.ensures.ran (YieldsList-from_slice i.owned.items cc) (λ x b q k. search (rules, tests)) in
    subst (λ (z : BookView). IsTrue c.any.result ↔ (0 < owns c.args.rec z)) c.self.view_is (test_is _ i.owned.items c.any.result any)
