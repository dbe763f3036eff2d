-- A list of spares may be shorter than the pages, or longer: only what it has for a page counts.
use Rattle.std.proofs.Common.{inl, ◌≡◌, ◌≢◌, ℕ, zero, suc, ◌+◌, ◌^◌, ◌<◌, ◌≤◌, List, length, get_or, sym, refl, ◌∙◌, Option, Some, None}
use lib.ListN.{replicate, length-replicate}
use Rattle.bw_core.specs.declared.Under.{Under}
use Rattle.bw_core.specs.declared.BookView.{BookView}
use Rattle.bw_core.specs.World.{World, Armed, LawfulUnder, LawfulBook, Lawful}
use Rattle.bw_core.specs.Transitions.{CanStart, start_world}
use Rattle.bw_core.proofs.Runs.{start_is_lawful}
use Rattle.bw_core.proofs.Without.{one_last}

-- what a board asks as it is opened
pub record CanOpen (first : List ℕ) (floor records piece : ℕ) (spares : List (Option ℕ)) : Type 0 where
  pub first_low : (page : ℕ) → page < length first → get_or first page 0 < floor
  pub words_fit : floor + records ≤ 2 ^ 33
  pub some_piece : 0 < piece
  pub piece_fits : piece ≤ 4096
  pub spare_low : (page x : ℕ) → get_or spares page None ≡ Some x → (x < floor) × (x ≢ get_or first page 0)

nothing_there : (n p : ℕ) → get_or (replicate {A = Option ℕ} n None) p None ≡ None
nothing_there zero p = refl
nothing_there (suc n) zero = refl
nothing_there (suc n) (suc p) = nothing_there n p

-- as if no page had a spare
starts_without : (first : List ℕ) (floor records piece : ℕ) (spares : List (Option ℕ)) → CanOpen first floor records piece spares → CanStart first floor records piece (replicate (length first) None)
starts_without first floor records piece spares can = record {
  first_low = can.first_low;
  words_fit = can.words_fit;
  some_piece = can.some_piece;
  piece_fits = can.piece_fits;
  spare_each_page = length-replicate (length first) None;
  spare_low = λ p x e. let none : None ≡ Some x = sym (nothing_there (length first) p) ∙ e in absurd (cc);
}

-- no book tells of spares
same_book : (w : World) (spares : List (Option ℕ)) (f : ℕ → List ℕ) (l : ℕ → ℕ) (b : BookView) → LawfulBook w f l b → LawfulBook (record w { spares = spares }) f l b
same_book w spares f l b ok = record {
  posts_own = ok.posts_own;
  posts_page = ok.posts_page;
  lawful_under = λ u e. same_under u (ok.lawful_under u e);
  gone = ok.gone;
  some_width = ok.some_width;
  seen_each_page = ok.seen_each_page;
  end_each_page = ok.end_each_page;
  ends_is = ok.ends_is;
  seen_end = ok.seen_end;
  seen_own = ok.seen_own;
}
  where
    same_armed : (u : Under) → Armed w b u → Armed (record w { spares = spares }) b u
    same_armed u a = record { end = a.end; last = a.last; is_end = a.is_end; last_is = a.last_is; linked = a.linked; few = a.few }

    same_under : (u : Under) → LawfulUnder w b u → LawfulUnder (record w { spares = spares }) b u
    same_under u h = record { on_page = h.on_page; own = h.own; unposted = h.unposted; few = h.few; armed = λ e. same_armed u (h.armed e) }

pub opens_lawful : (first : List ℕ) (floor records piece : ℕ) (spares : List (Option ℕ)) → CanOpen first floor records piece spares → Lawful (start_world first floor records piece spares)
opens_lawful first floor records piece spares can = let nones : List (Option ℕ) = replicate (length first) None in
    let w : World = start_world first floor records piece nones in
    let q : Lawful w = start_is_lawful first floor records piece nones (starts_without first floor records piece spares can) in record {
      fresh = q.fresh;
      last = q.last;
      head_each_page = q.head_each_page;
      link_each_record = q.link_each_record;
      low = q.low;
      spare_low = can.spare_low;
      met = q.met;
      last_is = λ p h. inl (one_last first nones p (q.last p) (nothing_there (length first) p) (q.last_is p h));
      swapped = q.swapped;
      once = q.once;
      placed = q.placed;
      posted_once = q.posted_once;
      owned_once = q.owned_once;
      owned_low = q.owned_low;
      claims = q.claims;
      each = λ i b e. same_book w spares q.fresh q.last b (q.each i b e);
    }
