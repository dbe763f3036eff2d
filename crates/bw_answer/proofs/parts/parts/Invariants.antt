use Rattle.std.proofs.Common.{◌≡◌, ◌+◌, ◌-◌, ◌*◌, ◌≤◌, length, min}
use Rattle.std.specs.List.{AllByRecursion}
use Rattle.bw_answer.specs.Parts.{HasShares, IsPartOf}
use Rattle.bw_answer.proofs.PartPlaces.{HaveTo}
use Rattle.bw_answer.proofs.parts.parts.Given as goal

abbrev pub invariant-loop-points_cut : goal.invariant-loop-points_cut
invariant-loop-points_cut l = record {
  points_within : l.points_cut ≤ l.points;
  scans_within : l.scans_cut ≤ l.scans;
  within : AllByRecursion (IsPartOf l.points l.scans) l.parts.items;
  points_end : l.points_cut ≡ min (length l.parts.items * l.most_points) l.points;
  scans_end : l.scans_cut ≡ min (length l.parts.items * l.most_scans) l.scans;
  few : length l.parts.items ≤ l.count;
  shares : AllByRecursion (HasShares l.count l.points l.scans) l.parts.items;
  have_points : HaveTo (λ p. p.points) l.points l.parts.items l.points_cut;
  have_scans : HaveTo (λ p. p.scans) l.scans l.parts.items l.scans_cut;
}

abbrev pub decreases-loop-points_cut : goal.decreases-loop-points_cut
decreases-loop-points_cut l = (l.points - l.points_cut) + (l.scans - l.scans_cut)
