-- The reply to an operation on one key, by the writes as of its stamp, and lists of answers.
use Rattle.std.proofs.Common.{◌≡◌, ℕ, zero, suc, ◌+◌, ◌-◌, ◌<◌, ◌≤◌, List, [], ◌∷◌, ◌++◌, length, take, drop, get_or, slice_get, Option, Some, None, refl, sym, ap, ◌∙◌, subst, arith}
use Rattle.std.specs.Option.{option_map}
use Rattle.std.specs.FinMap.{get as get_at}
use Rattle.bw_key.specs.Order.{KeyBytes}
use Rattle.std.proofs.lemmas.List.{append_assoc, append-nil, take_more, take_all, map-append}
use Rattle.bw_model.specs.Values.{ValueBytes}
use Rattle.bw_model.specs.Contents.{Contents}
use Rattle.bw_model.specs.Model.{found, reply_of, after, replies_of, contents_after}
use Rattle.bw_model.specs.Actions.{answer}
use Rattle.bw_model.specs.Verbs.{verb_of, IsReplyTo}
use Rattle.bw_model.specs.declared.verbs.Verb.{Verb}
use Rattle.bw_model.specs.declared.operations.Action.{Action}
use Rattle.bw_model.specs.declared.operations.Action.TheVariants as action
use Rattle.bw_model.specs.declared.operations.Op.{Op}
use Rattle.bw_model.specs.declared.operations.Op.TheVariants.{Get, Insert, Upsert, Update, Delete, SwapIf, Scan, Rscan}
use Rattle.bw_model.specs.declared.operations.Reply.{Reply}
use Rattle.bw_model.specs.declared.operations.Reply.TheVariants.{Absent}
use Rattle.bw_delta.specs.Writes.{WriteView}
use Rattle.bw_delta.specs.History.{history, action_at}
use Rattle.bw_delta.specs.Rising.{HasRisingStamps}
use Rattle.bw_delta.specs.Readings.{from_stamp}
use Rattle.bw_delta.proofs.Readings.{all_left, resumed, left_later}
use Rattle.bw_look.specs.View.{contents_at}
use Rattle.bw_group.specs.Points.{Entry, entries_of, places_of, HasRisingPlaces}
use Rattle.bw_model.specs.Model.{key_of}
use Rattle.bw_group.specs.declared.points.Point.{Point}
use Rattle.bw_answer.specs.declared.batch_reader.Answer.{Answer}
use Rattle.bw_answer.specs.Replies.{ReaderView, IsReadInTurn, contents_before, replies_to, answer_to, answers_to, IsReadBy}
use Rattle.bw_model.specs.Model.{IsReplyAt}
use Rattle.bw_group.proofs.ListParts.{take_to}
use Rattle.bw_answer.proofs.ListLemmas.{drop_next}

no_verb : {v : Verb} → None ≡ Some v → ⊥
no_verb e = cc

same_verb : {v w : Verb} → Some v ≡ Some w → v ≡ w
same_verb e = cc

same_key : {k l : KeyBytes} → Some k ≡ Some l → k ≡ l
same_key e = cc

-- the answer of a write by the value at its key
written : (write : Action) (m : Contents ValueBytes) (k key : KeyBytes) (value : Option ValueBytes) (reply : Reply) → k ≡ key → get_at m key ≡ value → reply ≡ answer write value → reply ≡ answer write (get_at m k)
written write m k key value reply same read is = is ∙ ap (answer write) (sym read) ∙ ap (λ (x : KeyBytes). answer write (get_at m x)) (sym same)

-- a reply of a batch
pub reply_at : (ops : List Op) (m : Contents ValueBytes) (i : ℕ) → slice_get (replies_of ops m) i ≡ option_map (λ op. reply_of op (contents_after (take i ops) m)) (slice_get ops i)
reply_at [] m zero = refl
reply_at [] m (suc i) = refl
reply_at (op ∷ ops) m zero = refl
reply_at (op ∷ ops) m (suc i) = reply_at ops (after op m) i

pub replies_length : (ops : List Op) (m : Contents ValueBytes) → length (replies_of ops m) ≡ length ops
replies_length [] m = refl
replies_length (op ∷ ops) m = ap suc (replies_length ops (after op m))

-- the reply to the operation at a place, by the map as of its stamp
pub reply_there : (batch : ReaderView) → IsReadInTurn batch → (place : ℕ) (op : Op) → slice_get batch.ops place ≡ Some op →
    slice_get (replies_to batch) place ≡ Some (reply_of op (contents_at batch.tree (batch.base + place)))
reply_there batch q place op is =
    let m = contents_before batch in
    reply_at batch.ops m place
    ∙ ap (option_map (λ (o : Op). reply_of o (contents_after (take place batch.ops) m))) is
    ∙ ap (λ (n : Contents ValueBytes). Some (reply_of op n)) (sym (q.reads place))

-- the answer at the place of an operation
pub answer_there : (batch : ReaderView) → IsReadInTurn batch → (place : ℕ) (op : Op) (reply : Reply) → slice_get batch.ops place ≡ Some op →
    reply ≡ reply_of op (contents_at batch.tree (batch.base + place)) → record { place = place; reply = reply } ≡ answer_to batch place
answer_there batch q place op reply is answers =
    ap (λ (r : Reply). record { place = place; reply = r }) (answers ∙ sym (found (replies_to batch) place (reply_there batch q place op is)))
  where
    found : (rs : List Reply) (i : ℕ) {r : Reply} → slice_get rs i ≡ Some r → get_or rs i Absent ≡ r
    found [] i e = absurd (none e)
      where
        none : {r : Reply} → None ≡ Some r → ⊥
        none e = cc
    found (r ∷ rs) zero e = same e
      where
        same : {r' : Reply} → Some r ≡ Some r' → r ≡ r'
        same e = cc
    found (r ∷ rs) (suc i) e = found rs i e

-- the reply to an operation by its verb
pub verb_replied : (op : Op) (verb : Verb) (value : Option ValueBytes) (reply : Reply) → verb_of op ≡ Some verb → IsReplyTo verb value reply → IsReplyAt op value reply
verb_replied (Get k) verb value reply has is = λ m key at read.
    let own : reply ≡ found value = subst (λ (v : Verb). IsReplyTo v value reply) (sym (same_verb has)) is in
    own ∙ ap found (sym read) ∙ ap (λ (x : KeyBytes). found (get_at m x)) (sym (same_key at))
verb_replied (Insert k v) verb value reply has is = λ m key at read.
    let own : (w : ValueBytes) → reply ≡ answer (action.Insert w) value = subst (λ (u : Verb). IsReplyTo u value reply) (sym (same_verb has)) is in
    written (action.Insert v) m k key value reply (same_key at) read (own v)
verb_replied (Upsert k v) verb value reply has is = λ m key at read.
    let own : (w : ValueBytes) → reply ≡ answer (action.Upsert w) value = subst (λ (u : Verb). IsReplyTo u value reply) (sym (same_verb has)) is in
    written (action.Upsert v) m k key value reply (same_key at) read (own v)
verb_replied (Update k v) verb value reply has is = λ m key at read.
    let own : (w : ValueBytes) → reply ≡ answer (action.Update w) value = subst (λ (u : Verb). IsReplyTo u value reply) (sym (same_verb has)) is in
    written (action.Update v) m k key value reply (same_key at) read (own v)
verb_replied (Delete k) verb value reply has is = λ m key at read.
    let own : reply ≡ answer action.Delete value = subst (λ (u : Verb). IsReplyTo u value reply) (sym (same_verb has)) is in
    written action.Delete m k key value reply (same_key at) read own
verb_replied (SwapIf k old new) verb value reply has is = absurd (no_verb has)
verb_replied (Scan from to most) verb value reply has is = absurd (no_verb has)
verb_replied (Rscan from to most) verb value reply has is = absurd (no_verb has)

-- answers with those of further places behind them
pub more_answers : (batch : ReaderView) (before answers answers' : List Answer) (places more : List ℕ) → answers ≡ before ++ answers_to batch places →
    answers' ≡ answers ++ answers_to batch more → answers' ≡ before ++ answers_to batch (places ++ more)
more_answers batch before answers answers' places more so is =
    is
    ∙ ap (λ l. l ++ answers_to batch more) so
    ∙ append_assoc before (answers_to batch places) (answers_to batch more)
    ∙ ap (λ l. before ++ l) (sym (map-append (answer_to batch) places more))

pub no_answers : (batch : ReaderView) (before : List Answer) → before ≡ before ++ answers_to batch []
no_answers batch before = sym (append-nil before)

-- What was answered of a group of entries, and what is known of the value at their key.
pub record IsAnswering (batch : ReaderView) (start : Option ValueBytes) (ws : List WriteView) (all : List Entry) (n : ℕ) (before answers : List Answer) (stamp : ℕ) (value : Option ValueBytes) (rest : List WriteView) : Type 0 where
  pub reads : value ≡ history start (action_at ws) stamp
  pub left : rest ≡ from_stamp stamp ws
  pub low : ℕ
  pub upto : (stamp ≤ batch.base + low) × HasRisingPlaces low (drop n all)
  pub done : answers ≡ before ++ answers_to batch (places_of (take n all))

pub answering_none : (batch : ReaderView) (start : Option ValueBytes) (ws : List WriteView) → HasRisingStamps 0 ws → (all : List Entry) (answers : List Answer) (value : Option ValueBytes) (rest : List WriteView) → HasRisingPlaces 0 all →
    value ≡ start → rest ≡ ws → IsAnswering batch start ws all 0 answers answers 0 value rest
unfolding history
answering_none batch start ws stamps all answers value rest rising is left = record {
  reads = is;
  left = left ∙ sym (all_left 0 0 ws (omega arith) stamps);
  low = 0;
  upto = (omega arith, rising);
  done = no_answers batch answers;
}

-- one entry further
pub answer_more : (batch : ReaderView) → IsReadInTurn batch → (start : Option ValueBytes) (ws : List WriteView) → HasRisingStamps 0 ws → (all : List Entry) (n : ℕ) (before answers answers' : List Answer) (stamp : ℕ) (value : Option ValueBytes) (rest : List WriteView)
    (e : Entry) (op : Op) (value' : Option ValueBytes) (rest' : List WriteView) (reply : Reply) → n < length all → (d : Entry) → get_or all n d ≡ e → slice_get batch.ops e.1 ≡ Some op → key_of op ≡ Some e.0 →
    IsReadBy batch.tree start ws e.0 → IsAnswering batch start ws all n before answers stamp value rest →
    value' ≡ history value (action_at rest) (batch.base + e.1) → rest' ≡ from_stamp (batch.base + e.1) rest →
    IsReplyAt op value' reply → answers' ≡ answers ++ record { place = e.1; reply = reply } ∷ [] →
    IsAnswering batch start ws all (n + 1) before answers' (batch.base + e.1) value' rest'
answer_more batch q start ws stamps all n before answers answers' stamp value rest e op value' rest' reply lt d at op_is has reads so further left replies added =
    let place = e.1 in
    let now = batch.base + place in
    let next : drop n all ≡ e ∷ drop (n + 1) all = drop_next all n d lt ∙ ap (λ x. x ∷ drop (n + 1) all) at in
    let rising = subst (HasRisingPlaces so.low) next so.upto.1 in
    let later : stamp ≤ now = omega (arith, so.upto.0, rising.0) in
    let value_is : value' ≡ history start (action_at ws) now =
    further ∙ ap (λ v. history v (action_at rest) now) so.reads ∙ ap (λ l. history (history start (action_at ws) stamp) (action_at l) now) so.left ∙ resumed start 0 ws stamp now stamps later in
    let rest_is : rest' ≡ from_stamp now ws = left ∙ ap (from_stamp now) so.left ∙ left_later stamp now ws later in
    let reply_is : reply ≡ reply_of op (contents_at batch.tree now) = replies (contents_at batch.tree now) e.0 has (reads now ∙ sym value_is) in
    let answer_is = answer_there batch q place op reply op_is reply_is in
    let places : places_of (take (n + 1) all) ≡ places_of (take n all) ++ place ∷ [] =
    ap places_of (take_more all n d lt ∙ ap (λ x. take n all ++ x ∷ []) at) ∙ map-append (λ (x : Entry). x.1) (take n all) (e ∷ []) in
    record {
      reads = value_is;
      left = rest_is;
      low = place + 1;
      upto = (omega arith, rising.1);
      done = more_answers batch before answers answers' (places_of (take n all)) (place ∷ []) so.done (added ∙ ap (λ a. answers ++ a ∷ []) answer_is)
          ∙ ap (λ l. before ++ answers_to batch l) (sym places);
    }

pub all_answering : (batch : ReaderView) (start : Option ValueBytes) (ws : List WriteView) (all : List Entry) (n : ℕ) (before answers : List Answer) (stamp : ℕ) (value : Option ValueBytes) (rest : List WriteView) → length all ≤ n →
    IsAnswering batch start ws all n before answers stamp value rest → answers ≡ before ++ answers_to batch (places_of all)
all_answering batch start ws all n before answers stamp value rest le so = so.done ∙ ap (λ (l : List Entry). before ++ answers_to batch (places_of l)) (take_all n all le)

-- The points up to a place are answered.
pub record AreAnsweredTo (batch : ReaderView) (ps : List Point) (n : ℕ) (before answers : List Answer) : Type 0 where
  pub within : n ≤ length ps
  pub done : answers ≡ before ++ answers_to batch (places_of (entries_of (take n ps)))

pub answered_none : (batch : ReaderView) (ps : List Point) (answers : List Answer) → AreAnsweredTo batch ps 0 answers answers
answered_none batch ps answers = record { within = omega arith; done = no_answers batch answers }

-- and so with a part more
pub part_answered : (batch : ReaderView) (ps : List Point) (n m : ℕ) (before answers answers' : List Answer) → n ≤ m → m ≤ length ps → AreAnsweredTo batch ps n before answers →
    answers' ≡ answers ++ answers_to batch (places_of (entries_of (take (m - n) (drop n ps)))) → AreAnsweredTo batch ps m before answers'
part_answered batch ps n m before answers answers' le bound so more =
    let front = take n ps in
    let part = take (m - n) (drop n ps) in
    let both : places_of (entries_of (take m ps)) ≡ places_of (entries_of front) ++ places_of (entries_of part) =
    ap (λ (l : List Point). places_of (entries_of l)) (take_to ps n m le)
    ∙ ap places_of (map-append (λ (p : Point). (p.key.now, p.place)) front part)
    ∙ map-append (λ (e : Entry). e.1) (entries_of front) (entries_of part) in
    record {
      within = bound;
      done = more_answers batch before answers answers' (places_of (entries_of front)) (places_of (entries_of part)) so.done more
          ∙ ap (λ l. before ++ answers_to batch l) (sym both);
    }

pub all_answered : (batch : ReaderView) (ps : List Point) (n : ℕ) (before answers : List Answer) → length ps ≤ n → AreAnsweredTo batch ps n before answers → answers ≡ before ++ answers_to batch (places_of (entries_of ps))
all_answered batch ps n before answers le so = so.done ∙ ap (λ (l : List Point). before ++ answers_to batch (places_of (entries_of l))) (take_all n ps le)
