use Rattle.std.proofs.Common.{◌≤◌, rules, sym, ap, subst, ◌∙◌, ◌≡◌, ◌+◌, ℕ, List, length, take, drop}
use Rattle.std.specs.Mem.Slots.{slots_items}
use Rattle.bw_core.specs.World.{owns, posts_in}
use Rattle.bw_core.specs.declared.BookView.{BookView}
use Rattle.bw_board.specs.declared.table.Sight.{Sight}
use Rattle.bw_board.specs.Public.{AreSwapped, IsClosed}
use Rattle.bw_board.proofs.Ends.{ends, ends_each, chains_of, first_ends, closes_at}
use Rattle.bw_board.proofs.board.Board.close.Goals as goal

pub swapped_pages-requires : goal.swapped_pages-requires
swapped_pages-requires c = let v : Sight = c.seat.inside.place.me.0 in let key = c.self.inside.table.shared.key in let i = c.self.invariant in
    let same = c.requires.board ∙ sym c.self.view_is in let book : v.book ≡ c.args.seat.book = ap (λ z. z.book) c.seat.view_is in
    let ws : List ℕ = slots_items c.close_with-closed.result.words in
    let t = ends key.heads.items key.floor key.records key.piece key.spares.items c.seat.inside.place.id c.self.inside.pages v ws _ c.args.seat c.close_with-closed.ensures.values.2 c.seat.invariant.live i.pages_are
    (ap (λ z. z.first) same) (ap (λ z. z.floor) same ∙ i.same_floor) (ap (λ z. z.records) same ∙ i.same_records) (ap (λ z. z.spares) same) (sym book)
    (ap (λ (b : BookView). b.width) book ∙ c.requires.whole) (ap (λ (b : BookView). b.told) book ∙ c.requires.told)
    (subst (λ (b : BookView). (r : ℕ) → owns r b ≤ posts_in r b.posted) (sym book) c.requires.posted) in
    let hs : List ℕ = take c.self.inside.pages (drop 1 ws) in let ls : List ℕ = take key.records (drop (1 + c.self.inside.pages) ws) in
    let heads : c.in_ok-heads.heads.items ≡ hs = search rules in
    let links' : c.in_ok-links.links.items ≡ take c.self.inside.records (drop (1 + c.self.inside.pages) ws) = search rules in
    let links : c.in_ok-links.links.items ≡ ls = links' ∙ ap (λ z. take z (drop (1 + c.self.inside.pages) ws)) i.same_records in
    let first : c.as_slice.result.now ≡ c.args.seat.board.first = c.as_slice.ensures.value ∙ (i.same_heads ∙ sym (ap (λ z. z.first) same)) in
    let floor : c.self.inside.floor ≡ c.args.seat.board.floor = sym (ap (λ z. z.floor) same) in
    let hs_is : c.as_slice-2.result.now ≡ hs = c.as_slice-2.ensures.value ∙ heads in let ls_is : c.as_slice-3.result.now ≡ ls = c.as_slice-3.ensures.value ∙ links in
    let spares : c.as_slice-4.result.now ≡ c.args.seat.board.spares = c.as_slice-4.ensures.value ∙ (i.same_spares ∙ sym (ap (λ z. z.spares) same)) in record {
      pages = ap length hs_is ∙ (t.0 ∙ sym (ap length first));
      chains = chains_of c.args.seat hs ls c.as_slice.result.now c.as_slice-2.result.now c.as_slice-3.result.now c.self.inside.floor first hs_is ls_is floor t.2;
      spareless = λ e. first_ends c.args.seat hs ls c.as_slice.result.now c.as_slice-2.result.now c.as_slice-3.result.now c.self.inside.floor first hs_is ls_is floor (sym spares ∙ e) t.2;
    }

pub returns : goal.returns
returns c = let v : Sight = c.seat.inside.place.me.0 in let key = c.self.inside.table.shared.key in let i = c.self.invariant in
    let same = c.requires.board ∙ sym c.self.view_is in let book : v.book ≡ c.args.seat.book = ap (λ z. z.book) c.seat.view_is in
    let ws : List ℕ = slots_items c.close_with-closed.result.words in
    let t = ends key.heads.items key.floor key.records key.piece key.spares.items c.seat.inside.place.id c.self.inside.pages v ws _ c.args.seat c.close_with-closed.ensures.values.2 c.seat.invariant.live i.pages_are
    (ap (λ z. z.first) same) (ap (λ z. z.floor) same ∙ i.same_floor) (ap (λ z. z.records) same ∙ i.same_records) (ap (λ z. z.spares) same) (sym book)
    (ap (λ (b : BookView). b.width) book ∙ c.requires.whole) (ap (λ (b : BookView). b.told) book ∙ c.requires.told)
    (subst (λ (b : BookView). (r : ℕ) → owns r b ≤ posts_in r b.posted) (sym book) c.requires.posted) in
    let hs : List ℕ = take c.self.inside.pages (drop 1 ws) in let ls : List ℕ = take key.records (drop (1 + c.self.inside.pages) ws) in
    let heads : c.in_ok-heads.heads.items ≡ hs = search rules in
    let links' : c.in_ok-links.links.items ≡ take c.self.inside.records (drop (1 + c.self.inside.pages) ws) = search rules in
    let links : c.in_ok-links.links.items ≡ ls = links' ∙ ap (λ z. take z (drop (1 + c.self.inside.pages) ws)) i.same_records in
    let first : c.as_slice.result.now ≡ c.args.seat.board.first = c.as_slice.ensures.value ∙ (i.same_heads ∙ sym (ap (λ z. z.first) same)) in
    let floor : c.self.inside.floor ≡ c.args.seat.board.floor = sym (ap (λ z. z.floor) same) in
    let hs_is : c.as_slice-2.result.now ≡ hs = c.as_slice-2.ensures.value ∙ heads in let ls_is : c.as_slice-3.result.now ≡ ls = c.as_slice-3.ensures.value ∙ links in
    let swapped : AreSwapped c.as_slice.result.now c.self.inside.floor c.as_slice-2.result.now c.as_slice-3.result.now (length c.as_slice.result.now) c.in_ok-swapped.swapped.items = search rules in
    let closed : IsClosed c.args.seat c.as_slice-2.result.now c.as_slice-3.result.now c.in_ok-swapped.swapped.items
    = closes_at c.args.seat hs ls c.as_slice.result.now c.as_slice-2.result.now c.as_slice-3.result.now c.in_ok-swapped.swapped.items c.self.inside.floor first hs_is ls_is floor t swapped in
    let e = ends_each key.heads.items key.floor key.records key.piece key.spares.items c.seat.inside.place.id v ws _ c.args.seat c.close_with-closed.ensures.values.2
    (ap (λ z. z.records) same ∙ i.same_records) (ap (λ z. z.spares) same) (sym book) (ap (λ (b : BookView). b.width) book ∙ c.requires.whole) (ap (λ (b : BookView). b.told) book ∙ c.requires.told)
    (subst (λ (b : BookView). (r : ℕ) → owns r b ≤ posts_in r b.posted) (sym book) c.requires.posted) in
    record { closed = subst (λ (k : List ℕ × List ℕ). IsClosed c.args.seat k.0 k.1 c.in_ok-swapped.swapped.items) (λ j. (c.as_slice-2.ensures.value j, c.as_slice-3.ensures.value j)) closed; each = e.0; sound = e.1 }
