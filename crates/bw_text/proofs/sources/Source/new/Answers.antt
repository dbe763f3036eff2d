use Rattle.std.proofs.Common.{◌≡◌, ℕ, ◌-◌, List, Option, Some, None, ◌++◌, take, drop, refl, ap, arith}
use Rattle.bw_text.specs.Sources.{unread_of}
use Rattle.bw_text.proofs.sources.Source.new.Goals as goal

-- an empty buffer
unread_fresh : (buffer : List ℕ) (at : ℕ) (rest : Option (List ℕ)) → unread_of buffer at at rest ≡ rest
unread_fresh buffer at None = refl
unread_fresh buffer at (Some rest) = ap (λ n. Some (take n (drop at buffer) ++ rest)) (let e : at - at ≡ 0 = omega arith in e)

pub returns-clause-unread : goal.returns-clause-unread
returns-clause-unread g c = unread_fresh c.in_ok-buffer.buffer.items 0 (g.R.Inlet.remaining c.args.reader)
