use Rattle.std.proofs.Common.{◌≡◌, ◌+◌, [], ◌∷◌, Some, get_or, slice_get, ap, sym, subst, ◌∙◌}
use Rattle.std.specs.List.{AllByRecursion}
use Rattle.std.proofs.lemmas.List.{get_or_default}
use Rattle.bw_group.proofs.ListParts.{all_append}
use Rattle.bw_answer.specs.Replies.{ReaderView, IsReadInTurn}
use Rattle.bw_answer.specs.declared.shared_leaves.BatchScan.{BatchScan}
use Rattle.bw_answer.proofs.ScanLemmas.{scan_answered, scans_more}
use Rattle.bw_answer.proofs.batch_reader.BatchReader.scans_at.Goals as goal

pub loop-place-preserved : goal.loop-place-preserved
loop-place-preserved c =
    let batch = c.args.self.now in
    let places = c.args.places.now in
    let n = c.loop-place.place-index in
    let place = get_or places n 0 in
    let scan : BatchScan = record { place = place; cursor = c.new-cursor.result } in
    let added = c.in_ok-push.ensures.items in
    let op_is = ap (λ (v : ReaderView). slice_get v.ops place) (sym c.self.view_is) ∙ c.op_at.ensures ∙ ap Some (sym c.new-cursor.ensures.op) in
    let tree = c.new-cursor.ensures.tree ∙ c.requires.tree in
    let stamp = c.new-cursor.ensures.stamp ∙ ap (λ (v : ReaderView). v.base + place) c.self.view_is in
    record {
      trees = subst (AllByRecursion (λ (s : BatchScan). s.cursor.tree ≡ batch.tree)) (sym added) (all_append (λ (s : BatchScan). s.cursor.tree ≡ batch.tree) c.loop-place.scans.items (scan ∷ []) c.loop-place.invariant.trees (tree, tt));
      answered =
          scans_more batch places n c.loop-place.scans.items c.push.new.self.items scan c.loop-place-test.true (get_or_default places n 0 place c.loop-place-test.true)
          (scan_answered batch (subst IsReadInTurn c.self.view_is c.self.invariant) scan op_is tree stamp)
          c.loop-place.invariant.answered added;
    }
