use Rattle.std.proofs.Common.{◌≡◌, ◌+◌, ◌-◌, ◌*◌, ◌<◌, min, max, length, [], ◌∷◌, sym, ap, subst, ◌∙◌, arith}
use Rattle.std.proofs.lemmas.List.{length-append}
use Rattle.std.specs.List.{AllByRecursion}
use Rattle.bw_group.proofs.ListParts.{all_append}
use Rattle.bw_answer.specs.Parts.{HasShares, IsPartOf}
use Rattle.bw_answer.specs.declared.parts.Part.{Part}
use Rattle.bw_answer.proofs.PartPlaces.{next_cut, part_more, parts_left, share_of_part, shares_enough}
use Rattle.bw_answer.proofs.parts.parts.Goals as goal
use Rattle.bw_answer.proofs.parts.parts.Goals.{then-points_cut-points, else-points_cut-points+then-scans_cut-scans}

pub loop-points_cut-preserved : goal.loop-points_cut-preserved
loop-points_cut-preserved c =
    let i = c.loop-points_cut.invariant in
    let points = c.next_span.ensures in
    let scans = c.next_span-in-loop-points_cut.ensures in
    let part : Part = record { points = c.next_span.result; scans = c.next_span-in-loop-points_cut.result } in
    let old = c.loop-points_cut.parts.items in
    let new = c.push.new.self.items in
    let added = c.in_ok-push.ensures.items in
    let len : length new ≡ length old + 1 = ap length added ∙ length-append old (part ∷ []) in
    let pos = c.requires in
    let most_points = c.max-most_points.ensures ∙ ap (λ n. max n 1) c.div_ceil.ensures in
    let most_scans = c.max-most_scans.ensures ∙ ap (λ n. max n 1) c.div_ceil-2.ensures in
    let enough_points = shares_enough c.args.points c.args.count c.max-most_points.result pos most_points in
    let enough_scans = shares_enough c.args.scans c.args.count c.max-most_scans.result pos most_scans in
    let fewer : length old < c.args.count = elim c.if-points_cut-points.branch [
      | then-points_cut-points w ↦ parts_left (length old) c.max-most_points.result c.args.count c.args.points c.loop-points_cut.points_cut i.points_end enough_points w.if-points_cut-points.true
      | else-points_cut-points+then-scans_cut-scans w ↦ parts_left (length old) c.max-most_scans.result c.args.count c.args.scans c.loop-points_cut.scans_cut i.scans_end enough_scans w.if-scans_cut-scans.true
    ] in
    let points_end = points.end ∙ next_cut (length old) c.max-most_points.result c.args.points c.loop-points_cut.points_cut i.points_end ∙ ap (λ n. min (n * c.max-most_points.result) c.args.points) (sym len) in
    let scans_end = scans.end ∙ next_cut (length old) c.max-most_scans.result c.args.scans c.loop-points_cut.scans_cut i.scans_end ∙ ap (λ n. min (n * c.max-most_scans.result) c.args.scans) (sym len) in
    let shares : HasShares c.args.count c.args.points c.args.scans part = (
      share_of_part c.args.points c.args.count c.max-most_points.result (part.points.end - part.points.start) pos most_points (omega (arith, points.end, points.start)) (omega (arith, points.within.1)),
      share_of_part c.args.scans c.args.count c.max-most_scans.result (part.scans.end - part.scans.start) pos most_scans (omega (arith, scans.end, scans.start)) (omega (arith, scans.within.1)),
    ) in
    record {
      points_within = points.within.1;
      scans_within = scans.within.1;
      within = subst (AllByRecursion (IsPartOf c.args.points c.args.scans)) (sym added)
          (all_append (IsPartOf c.args.points c.args.scans) old (part ∷ []) i.within ((points.within, scans.within), tt));
      points_end = points_end;
      scans_end = scans_end;
      few = omega (arith, len, fewer);
      shares = subst (AllByRecursion (HasShares c.args.count c.args.points c.args.scans)) (sym added)
          (all_append (HasShares c.args.count c.args.points c.args.scans) old (part ∷ []) i.shares (shares, tt));
      have_points = part_more (λ (p : Part). p.points) c.args.points old new c.loop-points_cut.points_cut part i.have_points added points.start points.within;
      have_scans = part_more (λ (p : Part). p.scans) c.args.scans old new c.loop-points_cut.scans_cut part i.have_scans added scans.start scans.within;
    }
