use Rattle.std.proofs.Common.{◌∙◌, ◌++◌, ◌∷◌, [], ap, arith, slice_range, subst, sym, take}
use Rattle.std.proofs.lemmas.List.{take_all, take_more}
use Rattle.bw_page.specs.MergedEntries.{put_all}
use Rattle.bw_page.proofs.MergingLemmas.{HasMerged, before_there, merging_more, merging_none, rest_is}
use Rattle.bw_page.proofs.children.Children.with_all.Goals as goal
use Rattle.bw_page.proofs.children.Children.with_all.Goals.{then-len-count, else-len-count}

pub loop-entry-init : goal.loop-entry-init
loop-entry-init c = merging_none c.in_ok-all.all c.args.self.now c.in_ok-all.ensures

pub loop-entry-preserved : goal.loop-entry-preserved
loop-entry-preserved c =
    let more = c.args.more.now in
    let i = c.loop-entry.entry-index in
    let e = c.entry-item.result in
    let next = take_more more i e c.loop-entry-test.true ∙ ap (λ x. take i more ++ x ∷ []) (sym c.entry-item.is) in
    subst (λ l. HasMerged l c.add_entry.new.self c.args.self.now c.in_ok-passed.passed) (sym next)
    (merging_more (take i more) c.loop-entry.all c.add_entry.new.self c.args.self.now c.loop-entry.passed c.in_ok-passed.passed e
    (before_there more i e c.requires.more c.loop-entry-test.true c.entry-item.is) c.loop-entry.invariant c.in_ok-passed.ensures.within c.in_ok-passed.ensures.ok)

pub returns : goal.returns
returns c =
    let own = c.args.self.now in
    let more = c.args.more.now in
    let whole = c.in_ok-extend.ensures.ok
    ∙ ap (λ n. c.loop-entry.all ++ slice_range own c.loop-entry.passed n) c.len-2.ensures.value
    ∙ ap (λ l. c.loop-entry.all ++ l) (rest_is c.loop-entry.passed own)
    ∙ c.loop-entry.invariant.is
    ∙ ap (λ l. put_all l own) (take_all c.loop-entry.entry-index more (omega (arith, c.loop-entry-test.false))) in
    elim c.if-len-count.branch [
      | then-len-count w ↦ w.all-is ∙ w.shrink_to_fit.ensures ∙ c.all.view_is ∙ whole
      | else-len-count w ↦ w.all-is ∙ whole
    ]
