-- The world of posting as plain data, and when it is lawful. The numbers at the facts are the clauses of the law,
-- `Lawful`.
use Rattle.std.specs.Prelude.{◌*◌, ◌-◌, ◌/◌, min, ◌≡◌, ℕ, ◌+◌, ◌<◌, ◌≤◌, ◌==◌, ◌&&◌, nat_lt, nat_le, Bool, true, false, cond, List, [], ◌∷◌, ◌++◌, length, slice_index, slice_index_or, Some, None, Option, ◌⊎◌, ◌≢◌}
use Rattle.std.specs.List.{AllByRecursion}
use mathlib.Core.Option.{some}
use lib.ListN.{get_elem?}
use Rattle.bw_core.specs.declared.Span.{Span}
use Rattle.bw_core.specs.declared.Post.{Post}
use Rattle.bw_core.specs.declared.Under.{Under}
use Rattle.bw_core.specs.declared.Swap.{Swap}
use Rattle.bw_core.specs.declared.BookView.{BookView}

-- a mapping table while records are posted, and what each seat holds and knows
pub record World : Type 0 where
  -- the head words at the start
  pub first : List ℕ
  -- record r has the word floor + r; a word below the floor names something old
  pub floor : ℕ
  -- the number of records
  pub records : ℕ
  -- how many records a claim takes
  pub piece : ℕ
  -- for each page the word that may replace its first one
  pub spares : List (Option ℕ)
  -- the first record that no claim has taken, where there is one
  pub next : ℕ
  -- the present head words, one a page
  pub heads : List ℕ
  -- the link word of each record
  pub links : List ℕ
  -- a book for each seat that ever was
  pub books : List BookView

-- 1 for true, 0 for false
abbrev pub one_if : Bool → ℕ
one_if b = cond b 1 0

-- f of each member, added up: std's `sum_by`, by recursion, so that it computes on `x ∷ xs`
abbrev pub total : {X : Type 0} → (X → ℕ) → List X → ℕ
total f [] = 0
total f (x ∷ xs) = f x + total f xs

-- how often r stands in the list: std's `count_by`, in the same way
abbrev pub times : ℕ → List ℕ → ℕ
times r rs = total (λ x. one_if (x == r)) rs

-- in how many of the spans r lies
abbrev pub spans_have : ℕ → List Span → ℕ
spans_have r ss = total (λ s. one_if (nat_le s.from r && nat_lt r s.to)) ss

-- in how many of the book's own spans r lies
abbrev pub owns : ℕ → BookView → ℕ
owns r b = spans_have r b.owned

-- how often r was posted
abbrev pub posts_in : ℕ → List Post → ℕ
posts_in r ps = total (λ x. one_if (x.rec == r)) ps

-- how often r was posted under page p
abbrev pub posts_at : ℕ → ℕ → List Post → ℕ
posts_at p r ps = total (λ x. one_if ((x.page == p) && (x.rec == r))) ps

-- in how many swaps the page's first word was replaced
abbrev pub wins_in : ℕ → List Swap → ℕ
wins_in p ss = total (λ s. one_if ((s.page == p) && s.won)) ss

-- in how many swaps the page was tried, won or late
abbrev pub tries_in : ℕ → List Swap → ℕ
tries_in p ss = total (λ s. one_if (s.page == p)) ss

-- the chain that the book last saw at page p
abbrev pub seen_at : BookView → ℕ → List ℕ
seen_at b p = slice_index_or b.seen p []

-- the word below the floor that ended this chain
abbrev pub end_at : BookView → ℕ → ℕ
end_at b p = slice_index b.ends p

-- the word that may replace the page's first word
abbrev pub spare_at : World → ℕ → Option ℕ
spare_at w p = slice_index_or w.spares p None

-- 1 where a chain doesn't end in the page's first word, but in its spare
abbrev pub late : ℕ → ℕ → ℕ
late first last = cond (last == first) 0 1

-- the word is the page's first word, or its spare
abbrev pub IsLast : List ℕ → List (Option ℕ) → ℕ → ℕ → Type 0
IsLast first spares p x = (x ≡ slice_index first p) ⊎ (slice_index_or spares p None ≡ Some x)

-- the word that names the chain's first record, or the word that ends an empty chain
abbrev pub top : ℕ → ℕ → List ℕ → ℕ
top floor last [] = last
top floor last (r ∷ rs) = floor + r

-- going from a word by the links meets just these records, and then the word `last`
abbrev pub Meets : ℕ → List ℕ → ℕ → List ℕ → ℕ → Type 0
Meets floor links word [] last = word ≡ last
Meets floor links word (r ∷ rs) last = (word ≡ floor + r) × (r < length links)
    × Meets floor links (slice_index links r) rs last

-- the one list ends with the other
abbrev pub IsEnd : List ℕ → List ℕ → Type 0
IsEnd end whole = (front : List ℕ) × (whole ≡ front ++ end)

-- how many records stand beneath r in the chain
abbrev pub beneath : ℕ → List ℕ → ℕ
beneath r [] = 0
beneath r (x ∷ xs) = cond (x == r) (length xs) (beneath r xs)

-- an armed record's link is the top of an end of the seen chain, over the word that ended that chain or over the page's
-- first word;
-- that end has at least `lost` records, or one less where it is over the spare
pub record Armed (w : World) (b : BookView) (u : Under) : Type 0 where
  pub end : List ℕ
  pub last : ℕ
  pub is_end : IsEnd end (seen_at b u.page)
  pub last_is : (last ≡ slice_index w.first u.page) ⊎ (last ≡ end_at b u.page)
  pub linked : slice_index w.links u.rec ≡ top w.floor last end
  pub few : u.lost ≤ length end + late (slice_index w.first u.page) last

-- what holds of a record under way
pub record LawfulUnder (w : World) (b : BookView) (u : Under) : Type 0 where
  -- 3: its page exists, and its seat owns it and hasn't posted it
  pub on_page : u.page < length w.first
  pub own : 0 < owns u.rec b
  pub unposted : posts_in u.rec b.posted ≡ 0
  -- 5: it has lost at most as often as the seen chain is long, or once more where that chain ends in the spare
  pub few : u.lost ≤ length (seen_at b u.page) + late (slice_index w.first u.page) (end_at b u.page)
  pub armed : u.armed ≡ true → Armed w b u

-- the book of a seat that was joined into another
abbrev pub spent : BookView
spent = record {
  live = false;
  owned = [];
  posted = [];
  under = None;
  seen = [];
  ends = [];
  swaps = [];
  width = 0;
  told = false;
}

-- what holds of each book, where `fresh p` is the chain of page p and `last p` the word that ends it
pub record LawfulBook (w : World) (fresh : ℕ → List ℕ) (last : ℕ → ℕ) (b : BookView) : Type 0 where
  -- 3: what was posted is the seat's own
  pub posts_own : (r : ℕ) → posts_in r b.posted ≤ owns r b
  -- 3 and 5: it was posted on a page that exists, and has lost at most as often as there are records beneath it, or
  -- once more over the spare
  pub posts_page : AllByRecursion (λ x. (x.page < length w.first)
      × (x.lost ≤ beneath x.rec (fresh x.page) + late (slice_index w.first x.page) (last x.page))) b.posted
  -- 3 and 5, of the record under way
  pub lawful_under : (u : Under) → b.under ≡ Some u → LawfulUnder w b u
  -- 3: a book that isn't live is empty
  pub gone : b.live ≡ false → b ≡ spent
  -- 6: a live book has some width
  pub some_width : b.live ≡ true → 0 < b.width
  -- 3: a live book has a seen chain and an end for each page
  pub seen_each_page : b.live ≡ true → length b.seen ≡ length w.first
  pub end_each_page : b.live ≡ true → length b.ends ≡ length w.first
  -- 4: it knows each page's first word, or the word that ends the chain now
  pub ends_is : (p : ℕ) → b.live ≡ true → p < length w.first → (end_at b p ≡ slice_index w.first p)
      ⊎ (end_at b p ≡ last p)
  -- 4: what it has seen is an end of the chain, and has all that it posted there
  pub seen_end : (p : ℕ) → b.live ≡ true → p < length w.first → IsEnd (seen_at b p) (fresh p)
  pub seen_own : (p r : ℕ) → b.live ≡ true → p < length w.first → posts_at p r b.posted ≤ times r (seen_at b p)

-- the width of a seat that may claim again
abbrev pub open_width : BookView → ℕ
open_width b = cond b.told 0 b.width

-- the number of records, rounded up to whole pieces
abbrev pub rounded : ℕ → ℕ → ℕ
rounded piece records = piece * ((records + (piece - 1)) / piece)

-- 6: what is claimed
pub record Claimed (piece records next : ℕ) (bs : List BookView) : Type 0 where
  pub some_piece : 0 < piece
  -- the records below the next claim have one owner each, and the others none
  pub owned_is : (r : ℕ) → total (λ b. owns r b) bs ≡ one_if (nat_lt r (min next records))
  -- a seat that was told of no record left was told the truth
  pub told_done : (i : ℕ) (b : BookView) → get_elem? bs i ≡ some b → b.told ≡ true → records ≤ next
  -- the widths are parts of 1,024
  pub widths : total (λ b. b.width) bs ≡ 1024
  -- the claims went by whole pieces, and each told seat made one in vain
  pub stride : (k : ℕ) × (next ≡ piece * k)
  pub room : next + piece * total open_width bs ≤ rounded piece records + piece * 1024

-- the law of posting, in six clauses: 1 each page has a chain, 2 of just the records posted there, 3 by their owners;
-- 4 what a seat has seen is an end of the chain, 5 which bounds how often a record has lost; 6 what is claimed
pub record Lawful (w : World) : Type 0 where
  -- each page's chain of new records, newest first, and the word below the floor that ends it
  pub fresh : ℕ → List ℕ
  pub last : ℕ → ℕ
  -- 3: there is a head for each page, and a link for each record
  pub head_each_page : length w.heads ≡ length w.first
  pub link_each_record : length w.links ≡ w.records
  -- what never changes: first words and spares are below the floor, and a spare isn't its page's first word
  pub low : (p : ℕ) → p < length w.first → slice_index w.first p < w.floor
  pub spare_low : (p x : ℕ) → spare_at w p ≡ Some x → (x < w.floor) × (x ≢ slice_index w.first p)
  -- 1: the chain is what the links give from the head on; it ends in the page's first word, or in its spare where just
  -- one swap was won; no record comes twice
  pub met : (p : ℕ) → p < length w.first → Meets w.floor w.links (slice_index w.heads p) (fresh p) (last p)
  pub last_is : (p : ℕ) → p < length w.first → IsLast w.first w.spares p (last p)
  pub swapped : (p : ℕ) → p < length w.first
      → total (λ b. wins_in p b.swaps) w.books ≡ late (slice_index w.first p) (last p)
  pub once : (p r : ℕ) → p < length w.first → times r (fresh p) ≤ 1
  -- 2: it has just the records that some book posted there, and no record is posted twice
  pub placed : (p r : ℕ) → p < length w.first → times r (fresh p) ≡ total (λ b. posts_at p r b.posted) w.books
  pub posted_once : (r : ℕ) → total (λ b. posts_in r b.posted) w.books ≤ 1
  -- 3: what is owned is owned once, and is a record
  pub owned_once : (r : ℕ) → total (owns r) w.books ≤ 1
  pub owned_low : (r : ℕ) → w.records ≤ r → total (owns r) w.books ≡ 0
  -- 6: what is claimed
  pub claims : Claimed w.piece w.records w.next w.books
  -- 3 to 6, of each book
  pub each : (i : ℕ) (b : BookView) → get_elem? w.books i ≡ some b → LawfulBook w fresh last b

-- what no event changes
pub record SameStart (w w' : World) : Type 0 where
  pub first : w'.first ≡ w.first
  pub floor : w'.floor ≡ w.floor
  pub records : w'.records ≡ w.records
  pub piece : w'.piece ≡ w.piece
  pub spares : w'.spares ≡ w.spares

-- a lawful world went on to another
pub record Onward (w : World) (q : Lawful w) (w' : World) (q' : Lawful w') : Type 0 where
  -- a chain before is an end of the chain after, over the same word or in place of the first word
  pub grows : (p : ℕ) → IsEnd (q.fresh p) (q'.fresh p)
  pub lasts : (p : ℕ) → (q.last p ≡ slice_index w.first p) ⊎ (q.last p ≡ q'.last p)
  -- the links of posted records stay
  pub links_stay : (r : ℕ) → 0 < total (λ b. posts_in r b.posted) w.books
      → slice_index w'.links r ≡ slice_index w.links r
  -- what never changes stays
  pub start_stays : SameStart w w'

-- the world after is lawful again, and went on from the one before
abbrev pub Keeps : (w : World) → Lawful w → World → Type 0
Keeps w q w' = (q' : Lawful w') × Onward w q w' q'
