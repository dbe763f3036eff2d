use Rattle.std.proofs.Common.{◌≡◌, length, rules, ap, sym, ◌∙◌}
use Rattle.bw_post.specs.Posting.{width_of}
use Rattle.bw_post.proofs.Joined.{same_widths}
use Rattle.bw_post.proofs.workers.post_side_by_side.Goals as goal

pub returns-clause-width : goal.returns-clause-width
returns-clause-width g c =
    let len : length c.for_each_mut.new.s ≡ length c.args.workers.now = search rules in
    same_widths c.args.workers.now c.for_each_mut.new.s len (λ i d lt. (let call = (c.for_each_mut.ensures i d lt).1 in ap width_of (sym call.left) ∙ call.call.1 ∙ ap width_of call.argument_is))
