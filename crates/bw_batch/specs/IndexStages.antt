-- What is staged.
use Rattle.std.specs.Prelude.{ℕ, Option, Some, None}
use Rattle.bw_look.specs.View.{StageView}

-- how many operations a staged batch has
abbrev pub operations_staged : Option StageView → ℕ
operations_staged None = 0
operations_staged (Some stage) = stage.ops
