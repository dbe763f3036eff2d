use Rattle.std.proofs.Common.{rules, sym, subst, ◌≡◌, length}
use Rattle.std.proofs.lemmas.List.{nil_from_length}
use Rattle.bw_board.specs.Public.{AreSwapped}
use Rattle.bw_board.proofs.Ends.{swapped_nowhere}
use Rattle.bw_board.proofs.last_words.swapped_pages.Goals as goal

pub returns-then-is_empty-clause-swapped : goal.returns-then-is_empty-clause-swapped
returns-then-is_empty-clause-swapped c = let zero : length c.args.spares.now ≡ 0 = search rules in
    let first = c.args.first.now in let heads = c.args.heads.now in let links = c.args.links.now in
    subst (AreSwapped first c.args.floor heads links (length first)) (sym c.new.ensures.items)
    (swapped_nowhere first c.args.floor heads links (length first) (c.requires.spareless (nil_from_length c.args.spares.now zero)))
