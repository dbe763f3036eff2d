use Rattle.std.proofs.Common.{◌≡◌, ◌∙◌, ℕ, true, false, List, [], ◌∷◌, ◌++◌, Some, None, get_or, ap, subst, refl}
use Rattle.std.specs.Prelude.{slice_index_or}
use Rattle.std.specs.List.{Contains}
use Rattle.bw_board.specs.Public.{SeatView}
use Rattle.bw_look.specs.PageStates.{leaf_as_of}
use Rattle.bw_look.specs.declared.folded.Folded.{Folded}
use Rattle.bw_tree.specs.Levels.{row}
use Rattle.bw_post.proofs.Folds.{claimed_late, claimed_won, page_read, some_spare, tries_other}
use Rattle.bw_post.proofs.folding.fold_leaf.Goals as goal

pub returns-in-Won-clause-claimed : goal.returns-in-Won-clause-claimed
returns-in-Won-clause-claimed c =
    let pages = c.args.homes.now.pages in
    let n = c.args.number in
    let page = c.index-pages-number.result in
    let leaf : Folded = record { page = page; leaf = c.in-Ok.leaf } in
    let given = some_spare (slice_index_or c.args.board.now.spares n None) c.requires.spare in
    let spare = c.requires.over.spares n given.0 given.1 in
    let same : given.0 ≡ page = page_read pages n given.0 page spare.listed (c.index-pages-number.is ∙ ap (λ (l : List ℕ). get_or l n page) c.pages.ensures) in
    claimed_won c.args.tree.now pages c.args.board.now c.args.worker.now _ n refl c.requires.claimed c.requires.over.once leaf (spare.listed ∙ ap Some same) (given.1 ∙ ap Some same)
    (subst (Contains (row c.args.tree.now.levels 0)) same spare.leaf) (c.in-Ok.ensures ∙ ap (leaf_as_of c.args.tree.now page) c.next_stamp.ensures)
    (c.push_reserved.ensures.items ∙ ap (λ (l : List Folded). l ++ leaf ∷ []) c.reserve.ensures.items) (c.in-Won.ensures.won refl)

pub returns-in-Won-clause-untried : goal.returns-in-Won-clause-untried
returns-in-Won-clause-untried c = λ other lt. tries_other c.args.number other true c.args.worker.now.seat.book.swaps c.replace.new.seat.book.swaps (ap (λ (z : SeatView). z.book.swaps) (c.in-Won.ensures.won refl).after) lt

pub returns-in-Late-clause-claimed : goal.returns-in-Late-clause-claimed
returns-in-Late-clause-claimed c = claimed_late c.args.tree.now c.args.homes.now.pages c.args.board.now c.args.worker.now _ c.args.number refl c.requires.claimed c.reserve.ensures.items (c.in-Late.ensures.late refl)

pub returns-in-Late-clause-untried : goal.returns-in-Late-clause-untried
returns-in-Late-clause-untried c = λ other lt. tries_other c.args.number other false c.args.worker.now.seat.book.swaps c.replace.new.seat.book.swaps (ap (λ (z : SeatView). z.book.swaps) (c.in-Late.ensures.late refl).after) lt
