-- Where an event is allowed: what the tests of a program show.
use Rattle.std.proofs.Common.{◌≡◌, ℕ, ◌+◌, ◌<◌, ◌≤◌, ◌==◌, cond, Bool, true, false, ◌^◌, List, [], ◌∷◌, ◌++◌, length, get_or, sym, ◌∙◌, subst, arith, Option, Some, None, MatchOption, IsTrue, ◌↔◌}
use mathlib.Core.Option.{some-injective}
use mathlib.Core.Logic.{dite}
use native.Mathlib.Decide.{ℕ_discrete, dec_lt}
use Rattle.bw_core.specs.declared.BookView.{BookView}
use Rattle.std.specs.List.{AllByRecursion}
use Rattle.bw_core.specs.World.{World, LawfulUnder, owns, posts_in, times, seen_at, end_at, late}
use Rattle.bw_core.specs.Events.{under, Resumes}
use Rattle.bw_core.specs.Transitions.{IsWorld, IsSeat, MayLink, MayTry, MayFollow, MayJoin}
use Rattle.bw_core.proofs.Lists.{at_index, inside_at, meets_low, one_other, AllByRecursion-like, few, end-length, total_two}
use Rattle.bw_core.proofs.Events.{is_record}
use Rattle.bw_core.proofs.Claims.{no_wrap}

-- a seat has one book
pub one_seat : (w : World) (seat : ℕ) (b d : BookView) → IsSeat w seat b → IsSeat w seat d → b ≡ d
one_seat w seat b d h k = some-injective b d (sym h.0 ∙ k.0)

-- the book that is read there is the seat's
pub read_seat : (w : World) (seat : ℕ) (d b : BookView) → IsSeat w seat d → b ≡ get_or w.books seat b → b ≡ d
read_seat w seat d b h e = some-injective b d (sym (at_index w.books seat b (inside_at w.books seat d h.0) e) ∙ h.0)

-- a live book has a chain and an end for each page
pub seat_pages : (w : World) → IsWorld w → (seat : ℕ) (b : BookView) (page : ℕ) → IsSeat w seat b → page < length w.first → (page < length b.seen) × (page < length b.ends)
seat_pages w k seat b page h p = let ok = k.lawful.each seat b h.0 in let s = ok.seen_each_page h.1 in let e = ok.end_each_page h.1 in (omega arith, omega arith)

pub page_heads : (w : World) → IsWorld w → (page : ℕ) → page < length w.first → page < length w.heads
page_heads w k page p = let e = k.lawful.head_each_page in omega arith

-- a record of a list is below what all of them are below
times_below : (n r : ℕ) (rs : List ℕ) → AllByRecursion (λ x. x < n) rs → 0 < times r rs → r < n
times_below n r [] h t = absurd (omega arith)
times_below n r (x ∷ rs) h t = dite (ℕ_discrete x r) (λ e. let l = h.0 in omega arith) (λ ne. times_below n r rs h.1 (let o = one_other x r ne in omega arith))

-- what a seat saw are records
seen_records : (w : World) → IsWorld w → (seat : ℕ) (b : BookView) (page : ℕ) → IsSeat w seat b → page < length w.first → AllByRecursion (λ x. x < length w.links) (seen_at b page)
seen_records w k seat b page h p = let q = k.lawful in let end = (q.each seat b h.0).seen_end page h.1 p in
    AllByRecursion-end (λ x. x < length w.links) end.0 (seen_at b page) (subst (AllByRecursion (λ x. x < length w.links)) end.1 (meets_low w.floor w.links (get_or w.heads page 0) (q.fresh page) (q.last page) (q.met page p)))
  where
    AllByRecursion-end : (P : ℕ → Type 0) (front rs : List ℕ) → AllByRecursion P (front ++ rs) → AllByRecursion P rs
    AllByRecursion-end P [] rs h = h
    AllByRecursion-end P (x ∷ front) rs h = AllByRecursion-end P front rs h.1

pub seen_link : (w : World) → IsWorld w → (seat rec : ℕ) (b : BookView) (page : ℕ) → MayFollow w seat rec b page → rec < length w.links
seen_link w k seat rec b page may = times_below (length w.links) rec (seen_at b page) (seen_records w k seat b page may.0 may.1) may.2

-- and they have words
pub seen_words : (w : World) → IsWorld w → (seat : ℕ) (b : BookView) (page : ℕ) → IsSeat w seat b → page < length w.first → AllByRecursion (λ r. w.floor + r < 2 ^ 64) (seen_at b page)
seen_words w k seat b page h p = AllByRecursion-like _ _ (seen_at b page) (λ x l. let e = k.lawful.link_each_record in let f = k.words_fit in omega arith) (seen_records w k seat b page h p)

-- an own record has a link, and a word
pub own_link : (w : World) → IsWorld w → (seat rec : ℕ) (b : BookView) → IsSeat w seat b → 0 < owns rec b → (rec < length w.links) × (w.floor + rec < 2 ^ 33)
own_link w k seat rec b h own = let r = is_record w k.lawful seat b rec h.0 own in let e = k.lawful.link_each_record in let f = k.words_fit in (omega arith, omega arith)

-- a record under way
pub tried : (w : World) → IsWorld w → (seat rec page : ℕ) (b : BookView) (lost : ℕ) → MayTry w seat rec page b lost → LawfulUnder w b (under rec page lost true)
tried w k seat rec page b lost may = (k.lawful.each seat b may.0.0).lawful_under (under rec page lost true) may.1

pub late_small : (first x : ℕ) → late first x ≤ 1
late_small first x = elim (x == first) as (λ b. cond b 0 1 ≤ 1) [ true ↦ omega arith | false ↦ omega arith ]

pub tried_few : (w : World) → IsWorld w → (seat rec page : ℕ) (b : BookView) (lost : ℕ) → MayTry w seat rec page b lost → lost < 2 ^ 63
tried_few w k seat rec page b lost may = let q = k.lawful in let u = tried w k seat rec page b lost may in let p = u.on_page in
    let end = end-length (seen_at b page) (q.fresh page) ((q.each seat b may.0.0).seen_end page may.0.1 p) in
    let all = few (length w.links) (q.fresh page) (meets_low w.floor w.links (get_or w.heads page 0) (q.fresh page) (q.last page) (q.met page p)) (λ r. q.once page r p) in
    let bound = u.few in let over = late_small (get_or w.first page 0) (end_at b page) in let e = q.link_each_record in let f = k.words_fit in omega arith

-- two live books have widths that add up to a width
pub two_widths : (w : World) → IsWorld w → (into other : ℕ) (b d : BookView) → MayJoin w into other b d → b.width + d.width < 2 ^ 64
two_widths w k into other b d may = let t = total_two (λ (x : BookView). x.width) w.books into other b d may.2 may.0.0 may.1.0 in let m = k.lawful.claims.widths in omega arith

-- the next claim fits
pub claim_fits : (w : World) → IsWorld w → w.next + w.piece < 2 ^ 64
claim_fits w k = no_wrap w.piece w.records w.next w.books k.lawful.claims (let f = k.words_fit in omega arith) k.piece_fits

-- a test that failed
pub is_zero : (r : Bool) (n : ℕ) → r ≡ false → (IsTrue r ↔ (0 < n)) → n ≡ 0
is_zero r n e h = elim (dec_lt 0 n) [ yes d ↦ (let f : false ≡ true = sym e ∙ h.1 d in absurd (cc)) | no k ↦ omega arith ]

pub link_allowed : (w : World) (seat rec page : ℕ) (b : BookView) (r : Option ℕ) → IsSeat w seat b → page < length w.first → 0 < owns rec b → posts_in rec b.posted ≡ 0
    → MatchOption r ((lost : ℕ) → Resumes b rec page lost → ⊥) (Resumes b rec page)
    → MatchOption r ((d : BookView) → (lost : ℕ) → MayLink w seat rec page d lost → ⊥) (λ lost. (d : BookView) × MayLink w seat rec page d lost)
link_allowed w seat rec page b None h p o n m = λ d lost may. m lost (subst (λ z. Resumes z rec page lost) (one_seat w seat d b may.0 h) may.4)
link_allowed w seat rec page b (Some lost) h p o n m = (b, (h, p, o, n, m))
