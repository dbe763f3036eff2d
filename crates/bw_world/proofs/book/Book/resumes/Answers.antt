use Rattle.std.proofs.Common.{inr, subst, ◌∙◌, Some}
use Rattle.bw_core.specs.declared.BookView.{BookView}
use Rattle.bw_core.specs.Events.{under, Resumes}
use Rattle.bw_world.proofs.book.Book.resumes.Goals as goal

pub returns-in-Some : goal.returns-in-Some
returns-in-Some c = let u = c.in-Some.under in
    subst (λ (z : BookView). Resumes z c.args.rec c.args.page u.lost) c.self.view_is (inr (u.armed, c.in-Some.is ∙ (λ j. Some (under (c.if-under-rec.true j) (c.if-under-page.true j) u.lost u.armed))))
