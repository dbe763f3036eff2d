use Rattle.std.proofs.Common.{◌≡◌, ◌∙◌, ◌≤◌, ◌-◌, ◌++◌, List, ℕ, ap, drop, subst, sym, take}
use Rattle.bw_shape.specs.Tidying.{AreAmong, DueView}
use Rattle.bw_shape.proofs.TidyLemmas.{among_block, among_longer}
use Rattle.bw_shape.proofs.due.Due.add_as_far_as.Goals as goal

-- the block that was added is one of the pages
added : (pages told all all' : List ℕ) (start end : ℕ) → told ≡ pages → start ≤ end → all' ≡ all ++ take (end - start) (drop start told) → AreAmong (take start pages) all → AreAmong (take end pages) all'
added pages told all all' start end same le is among = among_block pages all all' start end le among (is ∙ ap (λ (l : List ℕ). all ++ take (end - start) (drop start l)) same)

pub returns-in_ok-push-clause-among : goal.returns-in_ok-push-clause-among
returns-in_ok-push-clause-among c = λ among.
    let longer = c.extend_from_slice.new.self.items in
    subst (AreAmong (take c.place_before-end.result c.args.self.now.pages)) (sym c.in_ok-push.ensures.items)
    (among_longer _ longer c.args.leaf
    (added c.args.self.now.pages c.deref.result.now c.args.all.now.items longer c.args.start c.place_before-end.result (c.deref.ensures.value ∙ ap (λ (d : DueView). d.pages) c.self.view_is) c.place_before-end.ensures.more
    c.in_ok-extend_from_slice.ensures.items among))

pub returns-else-ne-clause-among : goal.returns-else-ne-clause-among
returns-else-ne-clause-among c =
    added c.args.self.now.pages c.deref.result.now c.args.all.now.items c.extend_from_slice.new.self.items c.args.start c.place_before-end.result (c.deref.ensures.value ∙ ap (λ (d : DueView). d.pages) c.self.view_is)
    c.place_before-end.ensures.more c.in_ok-extend_from_slice.ensures.items
