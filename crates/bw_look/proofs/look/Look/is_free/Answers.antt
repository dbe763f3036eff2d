use Rattle.std.proofs.Common.{◌≡◌, false, true, Decides, sym, ◌∙◌}
use Rattle.bw_level.specs.Slots.{slot_at}
use Rattle.bw_look.proofs.UnreachedLemmas.{taken_low}
use Rattle.bw_look.proofs.look.Look.is_free.Goals as goal

no : {P : Type 0} → (P → ⊥) → Decides false P
no none = (λ e. absurd (different e), λ p. absurd (none p))
  where
    different : false ≡ true → ⊥
    different e = cc

pub returns-then-is_some : goal.returns-then-is_some
returns-then-is_some c = no (taken_low (slot_at c.args.self.now.slots c.args.page) c.low_key.result c.low_key.ensures (sym c.is_some.ensures ∙ c.if-is_some.true))
