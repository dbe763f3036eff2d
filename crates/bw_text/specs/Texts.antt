-- What is printed.
use Rattle.std.specs.Prelude.{ℕ, List, [], ◌∷◌, ◌++◌, length, codes, Ok, Err}
use Rattle.std.specs.List.{flat_map}
use Rattle.std.specs.Fmt.{decimal}
use Rattle.bw_model.specs.Values.{Pair}
use Rattle.bw_model.specs.Runs.{Outcome}
use Rattle.bw_model.specs.declared.operations.Reply.{Reply}
use Rattle.bw_model.specs.declared.operations.Reply.TheVariants.{Found, Absent, Inserted, Held, New, Was, Pairs}
use Rattle.bw_model.specs.declared.outcomes.Refusal.{Refusal}
use Rattle.bw_model.specs.declared.outcomes.Refusal.TheVariants.{TooLong, Memory}
use Rattle.bw_text.specs.Spelling.{spelled}

-- a line, with the byte that ends it
abbrev pub line : List ℕ → List ℕ
line text = text ++ 10 ∷ []

-- `K V`
abbrev pub pair_text : Pair → List ℕ
pair_text pair = line (spelled pair.0 ++ 32 ∷ spelled pair.1)

-- a word and how many pairs there are, and then the pairs
abbrev pub pairs_text : List ℕ → List Pair → List ℕ
pairs_text word pairs = line (word ++ decimal (length pairs)) ++ flat_map pair_text pairs

abbrev pub reply_text : Reply → List ℕ
reply_text (Found v) = line (codes "is " ++ spelled v)
reply_text Absent = line (codes "none")
reply_text Inserted = line (codes "inserted")
reply_text (Held v) = line (codes "held " ++ spelled v)
reply_text New = line (codes "new")
reply_text (Was v) = line (codes "was " ++ spelled v)
reply_text (Pairs pairs) = pairs_text (codes "scan ") pairs

abbrev pub replies_text : List Reply → List ℕ
replies_text = flat_map reply_text

abbrev pub refusal_text : Refusal → List ℕ
refusal_text (TooLong ops most) = line (codes "refused long " ++ decimal ops ++ 32 ∷ decimal most)
refusal_text Memory = line (codes "refused memory")

-- a refused batch prints one line in place of its replies
abbrev pub outcome_text : Outcome → List ℕ
outcome_text (Ok replies) = replies_text replies
outcome_text (Err refusal) = refusal_text refusal

abbrev pub contents_text : List Pair → List ℕ
contents_text = pairs_text (codes "contents ")
