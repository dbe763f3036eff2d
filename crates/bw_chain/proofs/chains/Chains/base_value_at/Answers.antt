use Rattle.std.proofs.Common.{◌∙◌, sym, ap, Option}
use Rattle.std.specs.Borrow.{Bor}
use Rattle.bw_page.specs.declared.pages.Page.{Page}
use Rattle.bw_level.specs.Changes.{plain}
use Rattle.bw_chain.specs.Chains.{slot_of_word}
use Rattle.bw_level.specs.Turns.{plain_at}
use Rattle.bw_level.specs.Reading.{base_of}
use Rattle.bw_chain.proofs.ReadingLemmas.{base_through}
use Rattle.bw_chain.proofs.chains.Chains.base_value_at.Goals as goal

pub returns-in-Leaf : goal.returns-in-Leaf
returns-in-Leaf c =
    c.find.ensures
    ∙ sym (base_through c.args.self.now.bases (slot_of_word c.args.self.now.bases c.args.self.now.records c.args.head) _ _ c.args.key.now c.under_writes.ensures.same c.under_writes.ensures.other c.requires.above
    ∙ ap (λ (o : Option (Bor Page)). base_of (plain_at o) c.args.key.now) c.in_ok-leaf.was
    ∙ ap (λ (p : Page). base_of (plain p) c.args.key.now) c.in-Leaf.is)
