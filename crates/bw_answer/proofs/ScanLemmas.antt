-- Lists of scans that are under way, and the answers to them.
use Rattle.std.proofs.Common.{◌≡◌, ℕ, ◌+◌, ◌<◌, List, [], ◌∷◌, ◌++◌, length, map, take, get_or, slice_get, Some, sym, ap, ◌∙◌}
use Rattle.std.proofs.lemmas.List.{append_assoc, map-append, take_more}
use Rattle.bw_model.specs.Model.{reply_of}
use Rattle.bw_model.specs.declared.operations.Reply.{Reply}
use Rattle.bw_look.specs.View.{TreeView, contents_at}
use Rattle.bw_answer.specs.Replies.{ReaderView, IsReadInTurn, answer_of, answer_to, answers_to}
use Rattle.bw_answer.specs.declared.batch_reader.Answer.{Answer}
use Rattle.bw_answer.specs.declared.shared_leaves.BatchScan.{BatchScan}
use Rattle.bw_answer.proofs.ReplyLemmas.{answer_there}

-- the answer to a scan of the batch's operation at its place, as of that one's stamp, is the one that the batch wants there
pub scan_answered : (batch : ReaderView) → IsReadInTurn batch → (scan : BatchScan) → slice_get batch.ops scan.place ≡ Some scan.cursor.op → scan.cursor.tree ≡ batch.tree → scan.cursor.stamp ≡ batch.base + scan.place →
    answer_of scan ≡ answer_to batch scan.place
scan_answered batch q scan is tree stamp =
    answer_there batch q scan.place scan.cursor.op (answer_of scan).reply is
    (ap (λ (t : TreeView). reply_of scan.cursor.op (contents_at t scan.cursor.stamp)) tree ∙ ap (λ n. reply_of scan.cursor.op (contents_at batch.tree n)) stamp)

-- one more scan of a list
pub scans_more : (batch : ReaderView) (places : List ℕ) (n : ℕ) (scans scans' : List BatchScan) (scan : BatchScan) → n < length places → scan.place ≡ get_or places n scan.place → answer_of scan ≡ answer_to batch scan.place →
    map answer_of scans ≡ answers_to batch (take n places) → scans' ≡ scans ++ scan ∷ [] → map answer_of scans' ≡ answers_to batch (take (n + 1) places)
scans_more batch places n scans scans' scan lt at answered so added =
    ap (map answer_of) added
    ∙ map-append answer_of scans (scan ∷ [])
    ∙ ap (λ (l : List Answer). l ++ answer_of scan ∷ []) so
    ∙ ap (λ (a : Answer). answers_to batch (take n places) ++ a ∷ []) answered
    ∙ sym (map-append (answer_to batch) (take n places) (scan.place ∷ []))
    ∙ ap (answers_to batch) (sym (take_more places n scan.place lt ∙ ap (λ p. take n places ++ p ∷ []) (sym at)))

-- one more answer, to the next scan of a list
pub next_answered : (all answers answers' : List Answer) (scans rest : List BatchScan) (scan : BatchScan) (reply : Reply) → scans ≡ scan ∷ rest → reply ≡ (answer_of scan).reply → answers' ≡ answers ++ record { place = scan.place; reply = reply } ∷ [] →
    answers ++ map answer_of scans ≡ all → answers' ++ map answer_of rest ≡ all
next_answered all answers answers' scans rest scan reply next is added so =
    ap (λ (l : List Answer). l ++ map answer_of rest) (added ∙ ap (λ (r : Reply). answers ++ record { place = scan.place; reply = r } ∷ []) is)
    ∙ append_assoc answers (answer_of scan ∷ []) (map answer_of rest)
    ∙ sym (ap (λ (l : List BatchScan). answers ++ map answer_of l) next)
    ∙ so
