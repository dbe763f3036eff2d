-- What is made of words.
use Rattle.std.specs.Prelude.{◌≡◌, Result, Ok, Err}
use Rattle.bw_text.specs.declared.faults.Cause.{Cause}
use Rattle.bw_text.specs.declared.line_words.Misread.{Misread}
use Rattle.bw_text.specs.declared.line_words.Misread.TheVariants.{Faulty, Memory}

-- What they say, or what is wrong with them. Where memory ran out, nothing.
abbrev pub Says : {X : Type 0} → Result X Misread → Result X Cause → Type 0
Says (Ok x) said = said ≡ Ok x
Says (Err (Faulty cause)) said = said ≡ Err cause
Says (Err Memory) said = Unit {0}
