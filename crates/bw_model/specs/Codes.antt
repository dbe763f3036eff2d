-- How contracts keep a map of values.
use Rattle.std.specs.Coded.{Coded, coded_ℕ, coded_list}
use Rattle.std.specs.FinMap as map
use Rattle.bw_model.specs.Contents.{Contents}
use Rattle.bw_model.specs.Values.{ValueBytes}

abbrev pub coded_contents : Coded (Contents ValueBytes)
coded_contents = map.code (coded_list coded_ℕ) (coded_list coded_ℕ)
