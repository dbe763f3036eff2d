use Rattle.bw_board.specs.Public.{AreSwapped}
use Rattle.bw_board.proofs.last_words.replaced_pages.Given as goal

abbrev pub invariant-loop-page : goal.invariant-loop-page
invariant-loop-page l = AreSwapped l.first l.floor l.heads l.links l.page l.found.items
