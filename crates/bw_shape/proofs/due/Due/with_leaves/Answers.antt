use Rattle.std.proofs.Common.{◌≡◌, ◌∙◌, ◌++◌, List, ℕ, ap, drop}
use Rattle.std.proofs.lemmas.List.{take_rest}
use Rattle.bw_shape.specs.Tidying.{DueView}
use Rattle.bw_shape.proofs.TidyLemmas.{among_rest}
use Rattle.bw_shape.proofs.due.Due.with_leaves.Goals as goal

pub returns : goal.returns
returns c =
    let all = c.loop-leaf.all.items in
    let pages : c.deref.result.now ≡ c.args.self.now.pages = c.deref.ensures.value ∙ ap (λ (d : DueView). d.pages) c.self.view_is in
    among_rest c.args.self.now.pages all c.extend_from_slice.new.self.items c.loop-leaf.start c.loop-leaf.invariant.among
    (c.in_ok-extend_from_slice.ensures.items ∙ ap (λ (l : List ℕ). all ++ l) (take_rest c.deref.result.now c.loop-leaf.start ∙ ap (drop c.loop-leaf.start) pages))
