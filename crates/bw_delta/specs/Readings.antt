-- The value at a key as of a stamp that rises.
use Rattle.std.specs.Prelude.{ℕ, List, Option, filter, nat_le}
use Rattle.bw_model.specs.Values.{ValueBytes}
use Rattle.bw_delta.specs.Writes.{WriteView}

-- the writes with this stamp or a later one
abbrev pub from_stamp : ℕ → List WriteView → List WriteView
from_stamp stamp ws = filter (λ w. nat_le stamp w.stamp) ws

-- the value as of the stamp, and the writes from that stamp on
pub record ReadingView : Type 0 where
  pub stamp : ℕ
  pub value : Option ValueBytes
  pub rest : List WriteView
