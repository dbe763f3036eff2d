use Rattle.std.proofs.Common.{◌≡◌, ◌-◌, ap, sym, subst, ◌∙◌, arith}
use Rattle.std.specs.Prelude.{slice_get}
use Rattle.std.proofs.lemmas.Option.{slice_get_within}
use Rattle.bw_delta.specs.Writes.{WriteView}
use Rattle.bw_group.specs.Homes.{IsHomeNumber}
use Rattle.bw_post.proofs.Staged.{home_read, number_within, one_write}
use Rattle.bw_post.proofs.workers.home_at.Goals as goal

pub overflow_sub-place : goal.overflow_sub-place
overflow_sub-place c = let h = c.requires.staged c.args.number c.staged_write.result.now c.staged_write.ensures in omega (arith, h.0, c.stamp.ensures, c.next_stamp.ensures)

pub number_at-requires : goal.number_at-requires
number_at-requires c =
    let h = c.requires.staged c.args.number c.staged_write.result.now c.staged_write.ensures in
    omega (arith, number_within c.args.tree.now c.args.homes.now (c.staged_write.result.now.stamp - c.args.tree.now.next) c.staged_write.result.now.key h.1, c.stamp.ensures, c.next_stamp.ensures)

pub returns-clause-there : goal.returns-clause-there
returns-clause-there c =
    let h = c.requires.staged c.args.number c.staged_write.result.now c.staged_write.ensures in
    let w = c.staged_write.result.now in
    let place : c.stamp.result - c.next_stamp.result ≡ w.stamp - c.args.tree.now.next = omega (arith, c.stamp.ensures, c.next_stamp.ensures) in
    let home = home_read c.args.tree.now c.args.homes.now (w.stamp - c.args.tree.now.next) c.number_at.result w.key h.1 (ap (slice_get c.args.homes.now.numbers) (sym place) ∙ c.number_at.ensures) in
    slice_get_within c.args.homes.now.pages c.number_at.result home.page home.is

pub returns-clause-home : goal.returns-clause-home
returns-clause-home c v at =
    let h = c.requires.staged c.args.number c.staged_write.result.now c.staged_write.ensures in
    let w = c.staged_write.result.now in
    let place : c.stamp.result - c.next_stamp.result ≡ w.stamp - c.args.tree.now.next = omega (arith, c.stamp.ensures, c.next_stamp.ensures) in
    let home = home_read c.args.tree.now c.args.homes.now (w.stamp - c.args.tree.now.next) c.number_at.result w.key h.1 (ap (slice_get c.args.homes.now.numbers) (sym place) ∙ c.number_at.ensures) in
    subst (λ (u : WriteView). IsHomeNumber c.args.tree.now c.args.homes.now.pages u.key c.number_at.result) (one_write (sym c.staged_write.ensures ∙ at)) home
