-- The law without a spare, an armed link told by what its seat saw, and sums over books.
use Rattle.std.proofs.Common.{inl, inr, ⊎_elim, ◌≡◌, ℕ, ◌+◌, ◌<◌, ◌≤◌, leb, ltb, eqb, min, true, ◌&&◌, List, [], ◌∷◌, length, get_or, sym, refl, ap, ◌∙◌, subst, arith, Option, Some, None, append-nil}
use mathlib.Core.Logic.{dite}
use native.Mathlib.Decide.{ℕ_discrete}
use Rattle.bw_core.specs.declared.Span.{Span}
use Rattle.bw_core.specs.declared.Post.{Post}
use Rattle.bw_core.specs.declared.Swap.{Swap}
use Rattle.bw_core.specs.declared.Under.{Under}
use Rattle.bw_core.specs.declared.BookView.{BookView}
use Rattle.bw_core.specs.World.{World, Armed, LawfulBook, Meets, IsEnd, IsLast, one_if, beneath, late, top, seen_at, end_at}
use Rattle.bw_core.specs.Events.{span}
use Rattle.bw_core.specs.Keeping.{SparelessPage, ArmedLink, ArmedLinkIs, JoinAdds, ClaimAdds}
use Rattle.bw_core.proofs.Lists.{total-append, late_first, AllByRecursion-like}
use Rattle.bw_core.proofs.Events.{live_under, armed_in}

-- a page without a spare has one word to end in, and no bound grows
pub one_last : (first : List ℕ) (spares : List (Option ℕ)) (p x : ℕ) → get_or spares p None ≡ None → IsLast first spares p x → x ≡ get_or first p 0
one_last first spares p x none (inl e) = e
one_last first spares p x none (inr e) = let f : None ≡ Some x = sym none ∙ e in absurd (cc)

pub no_spare : (first : List ℕ) (spares : List (Option ℕ)) (p x : ℕ) → get_or spares p None ≡ None → IsLast first spares p x → late (get_or first p 0) x ≡ 0
no_spare first spares p x none h = late_first (get_or first p 0) x (one_last first spares p x none h)

armed_words : (w : World) (f : ℕ → List ℕ) (l : ℕ → ℕ) (b : BookView) (u : Under) → LawfulBook w f l b → b.live ≡ true → u.page < length w.first → Armed w b u → ArmedLink w l b u
armed_words w f l b u ok live h m = ⊎_elim (λ (e : m.last ≡ get_or w.first u.page 0). by m.end m.is_end m.linked m.few e)
    (λ (e : m.last ≡ end_at b u.page). inl (m.end, m.is_end, m.linked ∙ ap (λ z. top w.floor z m.end) e, subst (λ z. u.lost ≤ length m.end + late (get_or w.first u.page 0) z) e m.few)) m.last_is
  where
    by : (end : List ℕ) → IsEnd end (seen_at b u.page) → get_or w.links u.rec 0 ≡ top w.floor m.last end → u.lost ≤ length end + late (get_or w.first u.page 0) m.last → m.last ≡ get_or w.first u.page 0 → ArmedLink w l b u
    by (r ∷ end) is linked few e = inl (r ∷ end, is, linked, let a = late_first (get_or w.first u.page 0) m.last e in omega arith)
    by [] is linked few e = let a = late_first (get_or w.first u.page 0) m.last e in dite (ℕ_discrete (end_at b u.page) (get_or w.first u.page 0))
        (λ (s : end_at b u.page ≡ get_or w.first u.page 0). inl ([], is, linked ∙ (e ∙ sym s), omega arith))
        (λ n. inr (linked ∙ e, (λ z. n (⊎_elim (λ k. k) (λ k. k ∙ z) (ok.ends_is u.page live h))), omega arith))

words_armed : (w : World) (l : ℕ → ℕ) (b : BookView) (u : Under) → ArmedLink w l b u → Armed w b u
words_armed w l b u (inl t) = record { end = t.0; last = end_at b u.page; is_end = t.1; last_is = inr refl; linked = t.2; few = t.3 }
words_armed w l b u (inr t) = record { end = []; last = get_or w.first u.page 0; is_end = (seen_at b u.page, sym (append-nil (seen_at b u.page))); last_is = inl refl; linked = t.0; few = let z = t.2 in omega arith }

-- the whole of the law at a page without a spare
pub spareless_page : SparelessPage
spareless_page w q page h none = let first : ℕ = get_or w.first page 0 in
    let ends : q.last page ≡ first = one_last w.first w.spares page (q.last page) none (q.last_is page h) in
    let in_time : late first (q.last page) ≡ 0 = late_first first (q.last page) ends in record {
      met = subst (λ z. Meets w.floor w.links (get_or w.heads page 0) (q.fresh page) z) ends (q.met page h);
      no_swap = q.swapped page h ∙ in_time;
      ends_is = λ seat b at live. ⊎_elim (λ e. e) (λ e. e ∙ ends) ((q.each seat b at).ends_is page live h);
      posts = λ seat b at. AllByRecursion-like _ _ b.posted (λ x k e. let m = subst (λ z. x.lost ≤ beneath x.rec (q.fresh z) + late (get_or w.first z 0) (q.last z)) e k.1 in omega arith) (q.each seat b at).posts_page;
      under_way = λ seat b u at is e. let ok = q.each seat b at in let live = live_under w q.fresh q.last b ok u is in
          let m = subst (λ z. u.lost ≤ length (seen_at b z) + late (get_or w.first z 0) (end_at b z)) e (ok.lawful_under u is).few in
          let z = late_first first (end_at b page) (⊎_elim (λ e. e) (λ e. e ∙ ends) (ok.ends_is page live h)) in omega arith;
      armed = λ seat b u at is e armed. let m = armed_in w q seat b u at is armed in
          let last_first : m.1 ≡ first = ⊎_elim (λ k. k ∙ ap (λ z. get_or w.first z 0) e) (λ k. k ∙ (ap q.last e ∙ ends)) m.4 in
          let few = subst (λ z. u.lost ≤ length m.0 + late (get_or w.first z 0) m.1) e m.6 in let z = late_first first m.1 last_first in
          (m.0, subst (λ z. IsEnd m.0 (seen_at b z)) e m.2, m.5 ∙ ap (λ z. top w.floor z m.0) last_first, omega arith);
    }

pub armed_link_is : ArmedLinkIs
armed_link_is w q seat b u at live h = (armed_words w q.fresh q.last b u (q.each seat b at) live h, words_armed w q.last b u)

-- sums over joined books
pub join_adds : JoinAdds
join_adds first b d r p = (
  total-append (λ (s : Span). one_if (leb s.from r && ltb r s.to)) b.owned d.owned,
  total-append (λ (x : Post). one_if (eqb x.rec r)) b.posted d.posted,
  total-append (λ (x : Post). one_if (eqb x.page p && eqb x.rec r)) b.posted d.posted,
  total-append (λ (s : Swap). one_if (eqb s.page p && s.won)) b.swaps d.swaps,
)

pub claim_adds : ClaimAdds
claim_adds piece records n r b = let a = total-append (λ (s : Span). one_if (leb s.from r && ltb r s.to)) b.owned (span n (min (n + piece) records) ∷ []) in omega arith
