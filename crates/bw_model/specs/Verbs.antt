-- What the operations on one key do, as far as that and the value there tell the reply.
use Rattle.std.specs.Prelude.{◌≡◌, Option, Some, None}
use Rattle.bw_model.specs.Actions.{answer}
use Rattle.bw_model.specs.Model.{found}
use Rattle.bw_model.specs.Values.{ValueBytes}
use Rattle.bw_model.specs.declared.operations.Action.TheVariants as action
use Rattle.bw_model.specs.declared.operations.Op.{Op}
use Rattle.bw_model.specs.declared.operations.Op.TheVariants as op
use Rattle.bw_model.specs.declared.operations.Reply.{Reply}
use Rattle.bw_model.specs.declared.verbs.Verb.{Verb}
use Rattle.bw_model.specs.declared.verbs.Verb.TheVariants.{Get, Insert, Upsert, Update, Delete}

-- a swap has no verb, since the value that it swaps tells its reply as well, and neither has a scan
abbrev pub verb_of : Op → Option Verb
verb_of (op.Get key) = Some Get
verb_of (op.Insert key v) = Some Insert
verb_of (op.Upsert key v) = Some Upsert
verb_of (op.Update key v) = Some Update
verb_of (op.Delete key) = Some Delete
verb_of (op.SwapIf key old new) = None
verb_of (op.Scan from to most) = None
verb_of (op.Rscan from to most) = None

-- the reply at a key that had the value `before`, whatever value a write puts
abbrev pub IsReplyTo : Verb → Option ValueBytes → Reply → Type 0
IsReplyTo Get before reply = reply ≡ found before
IsReplyTo Insert before reply = (v : ValueBytes) → reply ≡ answer (action.Insert v) before
IsReplyTo Upsert before reply = (v : ValueBytes) → reply ≡ answer (action.Upsert v) before
IsReplyTo Update before reply = (v : ValueBytes) → reply ≡ answer (action.Update v) before
IsReplyTo Delete before reply = reply ≡ answer action.Delete before

-- and to a swap of the value `old`
abbrev pub IsSwapReply : ValueBytes → Option ValueBytes → Reply → Type 0
IsSwapReply old before reply = (new : ValueBytes) → reply ≡ answer (action.SwapIf old new) before
