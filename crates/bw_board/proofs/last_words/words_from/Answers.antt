use Rattle.std.proofs.Common.{rules, arith, sym, ap, ◌∙◌, ◌≡◌, ◌+◌, ◌∷◌, ◌++◌, []}
use Rattle.std.specs.Mem.Slots.{slots_items}
use Rattle.bw_board.proofs.Ends.{take_next}
use Rattle.bw_board.proofs.last_words.words_from.Goals as goal

pub loop-i-preserved : goal.loop-i-preserved
loop-i-preserved c = let items : c.push.new.self.items ≡ c.loop-i.found.items ++ c.word.result ∷ [] = search rules in
    items ∙ (ap (λ z. z ++ c.word.result ∷ []) c.loop-i.invariant ∙ sym (take_next (slots_items c.args.closed.now.words) c.args.from c.loop-i.i (c.loop-i.i + 1) c.word.result (omega arith) c.word.ensures))
