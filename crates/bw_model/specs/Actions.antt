-- What a write does with the optional value at its key. The ordered map and the history of a key share this table.
use Rattle.std.specs.Prelude.{Option, Some, None, if◌then◌else◌}
use Rattle.bw_model.specs.Values.{ValueBytes, value_eq}
use Rattle.bw_model.specs.declared.operations.Action.{Action}
use Rattle.bw_model.specs.declared.operations.Action.TheVariants.{Insert, Upsert, Update, Delete, SwapIf}
use Rattle.bw_model.specs.declared.operations.Reply.{Reply}
use Rattle.bw_model.specs.declared.operations.Reply.TheVariants.{Absent, Inserted, Held, New, Was}

-- by what stood at the key: the reply, and what is left there
abbrev pub written : Action → Option ValueBytes → Reply × Option ValueBytes
written (Insert v) None = (Inserted, Some v)
written (Insert v) (Some w) = (Held w, Some w)
written (Upsert v) None = (New, Some v)
written (Upsert v) (Some w) = (Was w, Some v)
written (Update v) None = (Absent, None)
written (Update v) (Some w) = (Was w, Some v)
written Delete None = (Absent, None)
written Delete (Some w) = (Was w, None)
written (SwapIf old new) None = (Absent, None)
written (SwapIf old new) (Some w) = if value_eq w old then (Was w, Some new) else (Held w, Some w)

-- what a write answers
abbrev pub answer : Action → Option ValueBytes → Reply
answer action before = (written action before).0

-- what it leaves
abbrev pub effect : Action → Option ValueBytes → Option ValueBytes
effect action before = (written action before).1
