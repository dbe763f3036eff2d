-- Steps of reading, one after another.
use Rattle.std.proofs.Common.{ℕ, List, [], Option, subst, append-nil, arith}
use Rattle.std.proofs.KnownBytes.{Consumes-trans}
use Rattle.std.specs.Io.KnownBytes.{Consumes}
use Rattle.bw_text.specs.Sources.{SourceView, ReadsOn}

pub reads_on_none : (s : SourceView) → ReadsOn s s
reads_on_none s = record { turns = omega arith; calls = (omega arith, omega arith); budget = omega arith }

pub reads_on_more : (a b c : SourceView) → ReadsOn a b → ReadsOn b c → ReadsOn a c
reads_on_more a b c first second = record {
  turns = omega (arith, first.turns, second.turns);
  calls = (omega (arith, first.turns, second.turns, first.calls.0, second.calls.0), omega (arith, first.turns, second.turns, first.calls.1, second.calls.1));
  budget = omega (arith, first.budget, second.budget);
}

-- bytes were taken, and then none
pub takes_none_after : (a b c : Option (List ℕ)) (bs : List ℕ) → Consumes a b bs → Consumes b c [] → Consumes a c bs
takes_none_after a b c bs first second = subst (λ (l : List ℕ). Consumes a c l) (append-nil bs) (Consumes-trans a b c bs [] first second)
