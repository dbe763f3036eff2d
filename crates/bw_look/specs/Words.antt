-- Mapping words of some pages, put in their places.
use Rattle.std.specs.Prelude.{ℕ, List, [], ◌∷◌, Option, Some, None}
use Rattle.std.specs.List.{slice_set}
use Rattle.bw_level.specs.Changes.{Bases}
use Rattle.bw_look.specs.Folding.{put_leaves}
use Rattle.bw_look.specs.declared.words_before.WordsBefore.{WordsBefore}
use Rattle.bw_look.specs.declared.words_before.WordsBefore.TheVariants.{OfAll, OfPages, UnderLeaves}

-- the mapping words with these words in the places of these pages
abbrev pub put_words : List ℕ → List ℕ → List ℕ → List ℕ
put_words heads [] words = heads
put_words heads (p ∷ pages) [] = heads
put_words heads (p ∷ pages) (word ∷ words) = put_words (slice_set heads p word) pages words

-- the mapping words before a batch, where these are the present ones
abbrev pub words_before : Option WordsBefore → List ℕ → List ℕ
words_before None heads = heads
words_before (Some (OfAll words)) heads = words.items
words_before (Some (OfPages pages words)) heads = put_words heads pages.items words.items
words_before (Some (UnderLeaves pages words leaves)) heads = put_words heads pages.items words.items

-- the base pages before a batch, where these are the present ones
abbrev pub bases_before : Option WordsBefore → Bases → Bases
bases_before None bases = bases
bases_before (Some (OfAll words)) bases = bases
bases_before (Some (OfPages pages words)) bases = bases
bases_before (Some (UnderLeaves pages words leaves)) bases = put_leaves bases leaves.items
