use Rattle.std.proofs.Common.{◌<◌, length, ◌∙◌}
use Rattle.bw_answer.specs.Replies.{point_places}
use Rattle.bw_answer.proofs.ListLemmas.{all_front}
use Rattle.bw_answer.proofs.Replied.{batch_within, grouped_points, grouped_scans, replied_in_turn}
use Rattle.bw_answer.proofs.batch_replies.place_replies.Goals as goal

pub place_points-requires-clause-points : goal.place_points-requires-clause-points
place_points-requires-clause-points c = grouped_points c.args.batch.now c.points-points.ensures.grouped _ _ c.requires.ops c.points-points.ensures.points c.points-points.ensures.verbs

pub place_points-requires-clause-there : goal.place_points-requires-clause-there
place_points-requires-clause-there c =
    let n = length c.args.replies.now in
    all_front (λ place. place < n) (point_places c.points-points.result.now) c.scans-scans.result.now
    (batch_within c.args.batch.now c.points-points.ensures.grouped c.points-points.result.now c.scans-scans.result.now c.points-points.ensures.points c.scans-scans.ensures n c.requires.size)

pub place_scans-requires-clause-scans : goal.place_scans-requires-clause-scans
place_scans-requires-clause-scans c = grouped_scans c.args.batch.now c.points-points.ensures.grouped _ _ c.requires.ops c.scans-scans.ensures

pub place_scans-requires-clause-there : goal.place_scans-requires-clause-there
place_scans-requires-clause-there c =
    (replied_in_turn c.args.batch.now c.points-points.ensures.grouped c.points-points.result.now c.scans-scans.result.now c.points-points.ensures.points c.scans-scans.ensures c.args.reader.now c.requires.ops c.args.replies.now
    c.place_points.new.replies c.requires.size c.in_ok-place_points.ensures.replies).1

pub returns-clause-replies : goal.returns-clause-replies
returns-clause-replies c =
    c.in_ok-place_scans.ensures
    ∙ (replied_in_turn c.args.batch.now c.points-points.ensures.grouped c.points-points.result.now c.scans-scans.result.now c.points-points.ensures.points c.scans-scans.ensures c.args.reader.now c.requires.ops c.args.replies.now
    c.place_points.new.replies c.requires.size c.in_ok-place_points.ensures.replies).0
