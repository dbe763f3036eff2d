use Rattle.std.proofs.Common.{ℕ, List, ◌++◌, ◌∷◌, [], subst, sym}
use Rattle.bw_shape.specs.Tidying.{AreAmong}
use Rattle.bw_shape.proofs.TidyLemmas.{among_longer}
use Rattle.bw_tidy.proofs.PutLeafLemmas.{among_both}
use Rattle.bw_tidy.proofs.leaf_workers.add_due.Goals as goal

pub returns-in_err-push-clause-among : goal.returns-in_err-push-clause-among
returns-in_err-push-clause-among c = λ among. subst (AreAmong c.args.begun.now.items) (sym c.in_err-push.ensures.items) among

pub returns-in_err-push-2-clause-among : goal.returns-in_err-push-2-clause-among
returns-in_err-push-2-clause-among c = λ among.
    let begun = c.args.begun.now.items in
    let pages = c.args.pages.now.items in
    let page = c.args.finding.now.page in
    subst (λ (l : List ℕ). AreAmong l c.push.new.self.items) (sym c.in_err-push-2.ensures.items)
    (subst (AreAmong begun) (sym c.in_ok-push.ensures.items) (among_longer begun pages page among))

pub returns-in_ok-push-2-clause-among : goal.returns-in_ok-push-2-clause-among
returns-in_ok-push-2-clause-among c = λ among.
    let begun = c.args.begun.now.items in
    let pages = c.args.pages.now.items in
    let page = c.args.finding.now.page in
    subst (λ (l : List ℕ). AreAmong l c.push.new.self.items) (sym c.in_ok-push-2.ensures.items)
    (subst (AreAmong (begun ++ page ∷ [])) (sym c.in_ok-push.ensures.items) (among_both begun pages page among))

pub returns-else-is_some-clause-among : goal.returns-else-is_some-clause-among
returns-else-is_some-clause-among c = λ among.
    subst (AreAmong c.args.begun.now.items) (sym c.in_ok-push.ensures.items) (among_longer c.args.begun.now.items c.args.pages.now.items c.args.finding.now.page among)
