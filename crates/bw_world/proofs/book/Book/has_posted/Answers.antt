use Rattle.std.proofs.Common.{rules, tests, subst, ◌==◌, ◌<◌, ◌↔◌, IsTrue}
use Rattle.std.proofs.lemmas.Iterator.{YieldsList-from_slice}
use Rattle.std.proofs.lemmas.Iterator.Search.{any_from_yields_List}
use Rattle.bw_core.specs.declared.Post.{Post}
use Rattle.bw_core.specs.declared.BookView.{BookView}
use Rattle.bw_core.specs.World.{posts_in}
use Rattle.bw_world.proofs.Members.{test_is}
use Rattle.bw_world.proofs.book.Book.has_posted.Goals as goal

pub returns : goal.returns
returns c = let i = c.self.inside in let any = any_from_yields_List (λ (x : Post). x.rec == c.args.rec) _ _ c.any.result c.any.ensures.ran (YieldsList-from_slice i.posted.items cc) (λ x b q k. search (rules, tests)) in
    subst (λ (z : BookView). IsTrue c.any.result ↔ (0 < posts_in c.args.rec z.posted)) c.self.view_is (test_is _ i.posted.items c.any.result any)
