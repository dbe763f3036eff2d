use Rattle.std.proofs.Common.{ℕ, ◌-◌, length, get_or}
use Rattle.bw_world.proofs.Reading.{Reads}
use Rattle.bw_world.proofs.state.State.chain.Given as goal

abbrev pub invariant-loop-word : goal.invariant-loop-word
invariant-loop-word l = (last : ℕ) × Reads l.self-inside.floor l.self-inside.links.items (get_or l.self-inside.heads.items l.page 0) last l.word l.records.items

abbrev pub decreases-loop-word : goal.decreases-loop-word
decreases-loop-word l = length l.self-inside.links.items - length l.records.items
