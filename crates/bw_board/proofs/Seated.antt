-- A seat stays at its table.
use Rattle.std.proofs.Common.{◌≡◌, ℕ, ◌+◌, sym, ap, ◌∙◌, length}
use Rattle.atomic_table.specs.Seated.{TableId}
use Rattle.atomic_table.specs.declared.shared.Seat.{Seat}
use Rattle.bw_board.specs.declared.table.Sight.{Sight}
use Rattle.bw_board.specs.Plays.{IsSeated, StaysSane}

-- after a step that changes neither the words of its board nor whether it is live
pub stays_seated : (z : TableId) (s s' : Seat ℕ Sight) (v : Sight) → IsSeated z s → s'.table_id ≡ s.table_id → StaysSane s.me s'.me → s'.me.0 ≡ v → v.first ≡ s.me.0.first → v.records ≡ s.me.0.records → v.book.live ≡ s.me.0.book.live → IsSeated z s'
stays_seated z s s' v h table stays is first records live = record {
  table = table ∙ h.table;
  words = h.words ∙ λ j. 1 + (length (sym (ap (λ (v : Sight). v.first) is ∙ first) j) + sym (ap (λ (v : Sight). v.records) is ∙ records) j);
  words_fit = h.words_fit;
  no_slots = stays.slots ∙ h.no_slots;
  live = ap (λ (v : Sight). v.book.live) is ∙ live ∙ h.live;
}
