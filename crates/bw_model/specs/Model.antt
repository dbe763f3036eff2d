-- The index as one thread sees it: an ordered map, and operations that run on it one after another.
use Rattle.std.specs.Prelude.{◌≡◌, List, [], ◌∷◌, Option, Some, None}
use Rattle.std.specs.FinMap.{get}
use Rattle.bw_key.specs.Order.{KeyBytes}
use Rattle.bw_model.specs.Values.{ValueBytes}
use Rattle.bw_model.specs.Contents.{Contents, set_at, first_of_range, last_of_range}
use Rattle.bw_model.specs.Actions.{answer, effect}
use Rattle.bw_model.specs.declared.operations.Action.{Action}
use Rattle.bw_model.specs.declared.operations.Action.TheVariants as action
use Rattle.bw_model.specs.declared.operations.Op.{Op}
use Rattle.bw_model.specs.declared.operations.Op.TheVariants.{Get, Insert, Upsert, Update, Delete, SwapIf, Scan, Rscan}
use Rattle.bw_model.specs.declared.operations.Reply.{Reply}
use Rattle.bw_model.specs.declared.operations.Reply.TheVariants.{Found, Absent, Pairs}

-- the reply to a look-up, by the value at the key
abbrev pub found : Option ValueBytes → Reply
found None = Absent
found (Some w) = Found w

-- what a write answers
abbrev pub answer_at : Contents ValueBytes → KeyBytes → Action → Reply
answer_at m key write = answer write (get m key)

-- what it leaves
abbrev pub written_at : Contents ValueBytes → KeyBytes → Action → Contents ValueBytes
written_at m key write = set_at m key (effect write (get m key))

-- the reply to an operation
abbrev pub reply_of : Op → Contents ValueBytes → Reply
reply_of (Get key) m = found (get m key)
reply_of (Insert key v) m = answer_at m key (action.Insert v)
reply_of (Upsert key v) m = answer_at m key (action.Upsert v)
reply_of (Update key v) m = answer_at m key (action.Update v)
reply_of (Delete key) m = answer_at m key action.Delete
reply_of (SwapIf key old new) m = answer_at m key (action.SwapIf old new)
reply_of (Scan from to most) m = Pairs (first_of_range m from to most)
reply_of (Rscan from to most) m = Pairs (last_of_range m from to most)

-- the key that an operation reads or writes, where it is one
abbrev pub key_of : Op → Option KeyBytes
key_of (Get key) = Some key
key_of (Insert key v) = Some key
key_of (Upsert key v) = Some key
key_of (Update key v) = Some key
key_of (Delete key) = Some key
key_of (SwapIf key old new) = Some key
key_of (Scan from to most) = None
key_of (Rscan from to most) = None

-- the reply to an operation on a key, by any map that has this value there
abbrev pub IsReplyAt : Op → Option ValueBytes → Reply → Type 0
IsReplyAt op value reply = (m : Contents ValueBytes) (key : KeyBytes) → key_of op ≡ Some key → get m key ≡ value →
    reply ≡ reply_of op m

-- what an operation leaves
abbrev pub after : Op → Contents ValueBytes → Contents ValueBytes
after (Get key) m = m
after (Insert key v) m = written_at m key (action.Insert v)
after (Upsert key v) m = written_at m key (action.Upsert v)
after (Update key v) m = written_at m key (action.Update v)
after (Delete key) m = written_at m key action.Delete
after (SwapIf key old new) m = written_at m key (action.SwapIf old new)
after (Scan from to most) m = m
after (Rscan from to most) m = m

-- the replies to a batch, one operation after another
abbrev pub replies_of : List Op → Contents ValueBytes → List Reply
replies_of [] m = []
replies_of (op ∷ ops) m = reply_of op m ∷ replies_of ops (after op m)

-- what a batch leaves
abbrev pub contents_after : List Op → Contents ValueBytes → Contents ValueBytes
contents_after [] m = m
contents_after (op ∷ ops) m = contents_after ops (after op m)
