-- A batch whose writes stand in a tree, and the replies to it.
use Rattle.std.specs.Prelude.{◌≡◌, ℕ, ◌+◌, ◌≤◌, ◌^◌, List, length, map, take, Option, Some, slice_get, slice_index_or}
use Rattle.std.specs.List.{AllByRecursion}
use Rattle.std.specs.List.Sorted.{IsSortedBy}
use Rattle.std.specs.Ordering.{is_lt}
use Rattle.std.specs.FinMap.{get}
use Rattle.bw_key.specs.Order.{KeyBytes, key_cmp}
use Rattle.bw_model.specs.Contents.{Contents}
use Rattle.bw_model.specs.Values.{ValueBytes}
use Rattle.bw_model.specs.Model.{IsReplyAt, contents_after, replies_of, reply_of}
use Rattle.bw_model.specs.declared.operations.Op.{Op}
use Rattle.bw_model.specs.declared.operations.Reply.{Reply}
use Rattle.bw_model.specs.declared.operations.Reply.TheVariants.{Absent}
use Rattle.bw_delta.specs.Writes.{WriteView}
use Rattle.bw_delta.specs.History.{history, action_at}
use Rattle.bw_look.specs.View.{TreeView, contents_at}
use Rattle.bw_group.specs.Homes.{AreHomes, HomesView}
use Rattle.bw_group.specs.Points.{entries_at, entries_of, places_of, HasRisingPlaces, IsEntryOf, IsPointOf}
use Rattle.bw_group.specs.declared.points.Point.{Point}
use Rattle.bw_tidy.specs.Findings.{GoOn}
use Rattle.bw_tidy.specs.declared.leaf_findings.Findings.{Findings}
use Rattle.bw_answer.specs.declared.batch_reader.Answer.{Answer}
use Rattle.bw_answer.specs.declared.shared_leaves.BatchScan.{BatchScan}

-- As of each stamp the tree has the map that the operations before it left.
abbrev pub HasContentsInTurn : TreeView → ℕ → List Op → Type 0
HasContentsInTurn tree base ops =
    (i : ℕ) → contents_at tree (base + i) ≡ contents_after (take i ops) (contents_at tree base)

pub record ReaderView : Type 0 where
  pub tree : TreeView
  pub ops : List Op
  pub base : ℕ
  pub homes : HomesView

-- the map before the batch
abbrev pub contents_before : ReaderView → Contents ValueBytes
contents_before batch = contents_at batch.tree batch.base

-- the replies to the batch, those of one thread that runs it in order
abbrev pub replies_to : ReaderView → List Reply
replies_to batch = replies_of batch.ops (contents_before batch)

pub record IsReadInTurn (batch : ReaderView) : Type 0 where
  pub reads : HasContentsInTurn batch.tree batch.base batch.ops
  pub fits : batch.base + length batch.ops ≤ 2 ^ 40
  pub homes : AreHomes batch.tree batch.ops batch.homes

-- what is found of leaves goes on, as of the stamp behind the batch
abbrev pub GoesOnTo : ReaderView → Findings → Findings → Type 0
GoesOnTo batch = GoOn batch.tree (batch.base + length batch.ops)

-- a place with the reply that the batch wants there
abbrev pub answer_to : ReaderView → ℕ → Answer
answer_to batch place = record { place = place; reply = slice_index_or (replies_to batch) place Absent }

-- these places in order, each with the reply that the batch wants there
abbrev pub answers_to : ReaderView → List ℕ → List Answer
answers_to batch = map (answer_to batch)

-- the answer to a scan that is under way
abbrev pub answer_of : BatchScan → Answer
answer_of scan =
    let contents = contents_at scan.cursor.tree scan.cursor.stamp in
    record { place = scan.place; reply = reply_of scan.cursor.op contents }

-- as of each stamp the tree has at the key what these writes make of this value
abbrev pub IsReadBy : TreeView → Option ValueBytes → List WriteView → KeyBytes → Type 0
IsReadBy tree start writes key = (stamp : ℕ) → get (contents_at tree stamp) key ≡ history start (action_at writes) stamp

abbrev pub point_places : List Point → List ℕ
point_places points = places_of (entries_of points)

-- the reply to the operation at this place, where its key has this value
abbrev pub IsReplyThere : List Op → ℕ → Option ValueBytes → Reply → Type 0
IsReplyThere ops place value reply = (op : Op) → slice_get ops place ≡ Some op → IsReplyAt op value reply

-- Points of a batch in the order of their keys, those of one key in the order of the batch.
pub record ArePointsOf (ops : List Op) (points : List Point) : Type 0 where
  pub sorted : IsSortedBy (λ d e. is_lt (key_cmp d.0 e.0)) (entries_of points)
  pub entries : AllByRecursion (IsEntryOf ops) (entries_of points)
  pub rising : (key : KeyBytes) → HasRisingPlaces 0 (entries_at key (entries_of points))
  pub verbs : AllByRecursion (IsPointOf ops) points
