-- The value at a key as of a stamp, from stamped writes in any order.
use Rattle.std.specs.Prelude.{ℕ, zero, suc, List, [], ◌∷◌, Option, Some, None, if◌then◌else◌, ◌==◌, map, nat_eq}
use Rattle.std.specs.List.{IsDistinct}
use Rattle.std.specs.Borrow.{Bor}
use Rattle.bw_model.specs.Values.{ValueBytes}
use Rattle.bw_model.specs.Actions.{effect}
use Rattle.bw_model.specs.declared.operations.Action.{Action}
use Rattle.bw_delta.specs.Writes.{WriteView}

-- the writes that references point to
abbrev pub pointed_to : List (Bor WriteView) → List WriteView
pointed_to = map (λ w. w.now)

-- what was written with a stamp, if anything was
abbrev pub action_at : List WriteView → ℕ → Option Action
action_at [] stamp = None
action_at (w ∷ ws) stamp = if w.stamp == stamp then Some w.action else action_at ws stamp

-- an action's effect, where there is an action
abbrev pub then_effect : Option Action → Option ValueBytes → Option ValueBytes
then_effect None value = value
then_effect (Some action) value = effect action value

-- As of stamp 0 the value is the one at the start. As of the next stamp it is what the action with this stamp
-- makes of the value as of this one.
unfoldable pub history : Option ValueBytes → (ℕ → Option Action) → ℕ → Option ValueBytes
history start at zero = start
history start at (suc stamp) = then_effect (at stamp) (history start at stamp)

-- no two writes have one stamp
abbrev pub HasDistinctStamps : List WriteView → Type 0
HasDistinctStamps ws = IsDistinct nat_eq (map (λ w. w.stamp) ws)
