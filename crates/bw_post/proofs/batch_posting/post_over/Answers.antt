use Rattle.std.proofs.Common.{◌<◌, ℕ, List, ap, sym, subst, ◌∙◌, arith}
use Rattle.std.specs.Prelude.{EachIndex, slice_index}
use Rattle.bw_core.specs.World.{total}
use Rattle.bw_board.specs.Public.{BoardView, SeatView}
use Rattle.bw_tree.specs.PageWords.{words_of}
use Rattle.bw_post.specs.Posting.{HasFolded, IsPostedBeside, width_of}
use Rattle.bw_post.proofs.Homes.{IsOver, is_board_of, is_over, low_words, no_leaves, no_spare, posted_stage, spares_fit, told_batch, unadopted}
use Rattle.bw_post.proofs.Joined.{front_of, same_length, same_sum}
use Rattle.bw_post.proofs.batch_posting.post_over.Goals as goal

pub open-requires-clause-low : goal.open-requires-clause-low
open-requires-clause-low g c =
    let tree = c.args.tree.now in
    let pages = c.args.homes.pages in
    let told = told_batch c.staged.result tree c.unwrap-staged.result c.staged.ensures c.unwrap-staged.ensures in
    let floor = c.unwrap-staged.result.floor in
    subst (λ (l : List ℕ). EachIndex l (λ i. slice_index l i < floor)) (sym (c.deref.ensures.value ∙ c.in_ok-heads.ensures ∙ ap (words_of tree.heads) c.pages.ensures))
    (low_words tree.heads pages floor (told.low (unadopted tree told.stage told.is c.requires.waiting)) c.requires.pages.there)

pub open-requires-clause-spare_low : goal.open-requires-clause-spare_low
open-requires-clause-spare_low g c = λ number spare e.
    let tree = c.args.tree.now in
    let pages = c.args.homes.pages in
    let told = told_batch c.staged.result tree c.unwrap-staged.result c.staged.ensures c.unwrap-staged.ensures in
    (spares_fit tree pages c.args.spares.now c.unwrap-staged.result.floor (omega (arith, told.floor)) c.requires.spares number spare e).0

pub open-requires-clause-spare_new : goal.open-requires-clause-spare_new
open-requires-clause-spare_new g c = λ number spare e same.
    let tree = c.args.tree.now in
    let pages = c.args.homes.pages in
    let told = told_batch c.staged.result tree c.unwrap-staged.result c.staged.ensures c.unwrap-staged.ensures in
    let words = c.deref.ensures.value ∙ c.in_ok-heads.ensures ∙ ap (words_of tree.heads) c.pages.ensures in
    (spares_fit tree pages c.args.spares.now c.unwrap-staged.result.floor (omega (arith, told.floor)) c.requires.spares number spare e).1 (same ∙ ap (λ (l : List ℕ). slice_index l number) words)

pub post_side_by_side-requires-clause-over : goal.post_side_by_side-requires-clause-over
post_side_by_side-requires-clause-over g c κs within =
    let tree = c.args.tree.now in
    let pages = c.args.homes.pages in
    let told = told_batch c.staged.result tree c.unwrap-staged.result c.staged.ensures c.unwrap-staged.ensures in
    let opened = c.in_ok-board.ensures.opened in
    let first = opened.same_heads ∙ c.deref.ensures.value ∙ c.in_ok-heads.ensures ∙ ap (words_of tree.heads) c.pages.ensures in
    is_board_of tree pages c.args.spares.now c.in_ok-board.board c.unwrap-staged.result told c.requires.pages c.requires.spares first opened.same_records opened.same_spares

pub join_workers-requires-clause-over : goal.join_workers-requires-clause-over
join_workers-requires-clause-over g c =
    let tree = c.args.tree.now in
    let pages = c.args.homes.pages in
    let told = told_batch c.staged.result tree c.unwrap-staged.result c.staged.ensures c.unwrap-staged.ensures in
    let opened = c.in_ok-board.ensures.opened in
    let first = opened.same_heads ∙ c.deref.ensures.value ∙ c.in_ok-heads.ensures ∙ ap (words_of tree.heads) c.pages.ensures in
    is_board_of tree pages c.args.spares.now c.in_ok-board.board c.unwrap-staged.result told c.requires.pages c.requires.spares first opened.same_records opened.same_spares

pub close-requires-clause-whole : goal.close-requires-clause-whole
close-requires-clause-whole g c =
    c.in_ok-seat.ensures.width ∙ ap (total width_of) (front_of c.in_ok-crew.crew.len c.post_side_by_side.new.workers _ (let len = same_length c.deref_mut.result.now c.post_side_by_side.new.workers c.post_side_by_side.ensures.width in omega (arith, len, c.deref_mut.ensures.len))) ∙ same_sum c.deref_mut.result.now c.post_side_by_side.new.workers c.post_side_by_side.ensures.width ∙ ap (total width_of) c.deref_mut.ensures.value ∙ c.in_ok-crew.ensures.width ∙ ap (λ (v : SeatView). v.book.width) c.in_ok-board.ensures.opened.seat_is

pub close-requires-clause-posted : goal.close-requires-clause-posted
close-requires-clause-posted g c = λ r. omega (arith, c.in_ok-seat.ensures.finished.worked.posted r)

pub returns-clause-posted : goal.returns-clause-posted
returns-clause-posted g c =
    let tree = c.args.tree.now in
    let pages = c.args.homes.pages in
    let told = told_batch c.staged.result tree c.unwrap-staged.result c.staged.ensures c.unwrap-staged.ensures in
    let opened = c.in_ok-board.ensures.opened in
    let first = opened.same_heads ∙ c.deref.ensures.value ∙ c.in_ok-heads.ensures ∙ ap (words_of tree.heads) c.pages.ensures in
    let seat = c.in_ok-seat.field-0.seat in
    let leaves = c.in_ok-seat.field-0.folded.items in
    let worked = c.in_ok-seat.ensures.finished.worked in
    let over = subst (IsOver tree pages) (sym worked.board_is) (is_over tree pages c.args.spares.now c.in_ok-board.board c.unwrap-staged.result told c.requires.pages c.requires.spares first opened.same_records opened.same_spares) in
    let folded = subst (λ (b : BoardView). HasFolded tree pages b.spares leaves seat.book.swaps) (sym worked.board_is) worked.folded in
    subst (λ (l : List ℕ). IsPostedBeside tree leaves l c.in_ok-closed.closed.heads c.in_ok-closed.closed.links) (sym (c.in_ok-pages.ensures.items ∙ c.pages-3.ensures))
    (posted_stage tree seat pages c.in_ok-closed.closed.heads c.in_ok-closed.closed.links c.in_ok-closed.closed.swapped leaves c.unwrap-staged.result c.requires.waiting told
    (ap (λ (b : BoardView). b.floor) worked.board_is ∙ opened.same_floor) over worked.homes folded c.in_ok-closed.ensures.closed)

pub returns-clause-none : goal.returns-clause-none
returns-clause-none g c = λ none.
    let tree = c.args.tree.now in
    let pages = c.args.homes.pages in
    let told = told_batch c.staged.result tree c.unwrap-staged.result c.staged.ensures c.unwrap-staged.ensures in
    let opened = c.in_ok-board.ensures.opened in
    let first = opened.same_heads ∙ c.deref.ensures.value ∙ c.in_ok-heads.ensures ∙ ap (words_of tree.heads) c.pages.ensures in
    let seat = c.in_ok-seat.field-0.seat in
    let leaves = c.in_ok-seat.field-0.folded.items in
    let worked = c.in_ok-seat.ensures.finished.worked in
    let over = subst (IsOver tree pages) (sym worked.board_is) (is_over tree pages c.args.spares.now c.in_ok-board.board c.unwrap-staged.result told c.requires.pages c.requires.spares first opened.same_records opened.same_spares) in
    let folded = subst (λ (b : BoardView). HasFolded tree pages b.spares leaves seat.book.swaps) (sym worked.board_is) worked.folded in
    no_leaves tree told.stage seat pages c.in_ok-closed.closed.heads c.in_ok-closed.closed.links c.in_ok-closed.closed.swapped leaves over told.is (ap (λ (b : BoardView). b.floor) worked.board_is ∙ opened.same_floor ∙ told.floor) worked.homes folded c.in_ok-closed.ensures.closed
    (no_spare seat.board.spares (ap (λ (b : BoardView). b.spares) worked.board_is ∙ opened.same_spares ∙ none))
