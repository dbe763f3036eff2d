-- Trees whose pages differ in writes alone have the same levels.
use Rattle.std.proofs.Common.{◌≡◌, ℕ, T, List, [], ◌∷◌, Option, refl, sym, ap, ◌∙◌, subst}
use Rattle.std.specs.List.{AllByRecursion, list_all}
use Rattle.bw_key.specs.Order.{KeyBytes}
use Rattle.bw_model.specs.Contents.{is_in_range}
use Rattle.bw_page.proofs.Truths.{both_of}
use Rattle.bw_page.specs.declared.pages.RemovedPage.{RemovedPage}
use Rattle.bw_delta.specs.Writes.{WriteView}
use Rattle.bw_delta.specs.declared.deltas.Delta.TheVariants.{Put}
use Rattle.bw_level.specs.Searches.{AllStand}
use Rattle.bw_level.specs.Slots.{Slot, PageState, Body, Pairs, Children, Free, Gone, Live, slot_at, level_of, children_of, IsSoundBody}
use Rattle.bw_level.specs.Levels.{AreLevels}
use Rattle.bw_level.specs.Entries.{AreExact}
use Rattle.bw_level.specs.Changes.{Bases, body_written, change}
use Rattle.bw_level.specs.Reading.{body_pairs, pairs_under, row_pairs}
use Rattle.bw_level.specs.Turns.{slot_without_writes}
use Rattle.bw_level.specs.KeptLevels.{AreAlike, IsAlike}
use Rattle.bw_level.proofs.RowLemmas.{same_each}
use Rattle.bw_level.proofs.AlikeLemmas.{exact_alike, levels_alike, stand_alike}
use Rattle.bw_chain.proofs.ChainLemmas.{bare_put}
use Rattle.bw_tree.proofs.PostedLemmas.{put_over}

one_state : {s t : PageState} → Live s ≡ Live t → s ≡ t
one_state e = cc

no_live : {s : PageState} → Free ≡ Live s → ⊥
no_live e = cc

no_gone : {l : RemovedPage} {s : PageState} → Gone l ≡ Live s → ⊥
no_gone e = cc

abbrev pub AreInside : PageState → List WriteView → Type 0
AreInside s ws = AllByRecursion (λ w. T (is_in_range s.low s.high w.key)) ws

written_sound : (low : KeyBytes) (high : Option KeyBytes) (side : Option ℕ) (w : WriteView) (b : Body) → T (is_in_range low high w.key) → IsSoundBody low high side b → IsSoundBody low high side (body_written w b)
written_sound low high side w (Pairs pairs writes) inside h = record { page = h.page; inside = both_of (is_in_range low high w.key) (list_all (λ v. is_in_range low high v.key) writes) inside h.inside }
written_sound low high side w (Children level children) inside h = h

written_level : (w : WriteView) (b : Body) → level_of (body_written w b) ≡ level_of b
written_level w (Pairs pairs writes) = refl
written_level w (Children level children) = refl

written_children : (w : WriteView) (b : Body) → children_of (body_written w b) ≡ children_of b
written_children w (Pairs pairs writes) = refl
written_children w (Children level children) = refl

-- a page with writes of its range put over it
pub alike_put : (bases : Bases) (ws : List WriteView) (s : PageState) → AreInside s ws → IsAlike s (put_over bases ws (Live s))
alike_put bases [] s inside = record { state = s; is = refl; sound = λ h. h; level = refl; children = refl; low = refl; high = refl; side = refl }
alike_put bases (w ∷ ws) s inside =
    let a = alike_put bases ws s inside.1 in
    record {
      state = record a.state { body = body_written w a.state.body };
      is = ap (change bases (Put w)) a.is;
      sound = λ h. written_sound a.state.low a.state.high a.state.side w a.state.body
          (subst (λ (k : KeyBytes). T (is_in_range k a.state.high w.key)) (sym a.low) (subst (λ (o : Option KeyBytes). T (is_in_range s.low o w.key)) (sym a.high) inside.0)) (a.sound h);
      level = written_level w a.state.body ∙ a.level;
      children = written_children w a.state.body ∙ a.children;
      low = a.low;
      high = a.high;
      side = a.side;
    }

put_free : (bases : Bases) (ws : List WriteView) → put_over bases ws Free ≡ Free
put_free bases [] = refl
put_free bases (w ∷ ws) = ap (change bases (Put w)) (put_free bases ws)

put_gone : (bases : Bases) (ws : List WriteView) (l : RemovedPage) → put_over bases ws (Gone l) ≡ Gone l
put_gone bases [] l = refl
put_gone bases (w ∷ ws) l = ap (change bases (Put w)) (put_gone bases ws l)

-- a page of one tree is that of the other with writes of its range put over it
pub record IsPutOver (bases : Bases) (old new : Slot) : Type 0 where
  pub writes : List WriteView
  pub is : new ≡ put_over bases writes old
  pub inside : (s : PageState) → old ≡ Live s → AreInside s writes

put_alike : (bases : Bases) (slot other : Slot) → IsPutOver bases slot other → AreAlike slot other
put_alike bases Free other o = o.is ∙ put_free bases o.writes
put_alike bases (Gone l) other o = o.is ∙ put_gone bases o.writes l
put_alike bases (Live s) other o = subst (IsAlike s) (sym o.is) (alike_put bases o.writes s (o.inside s refl))

module _ (bases : Bases) (old new : List Slot) (over : (p : ℕ) → IsPutOver bases (slot_at old p) (slot_at new p)) where
  alike : (p : ℕ) → AreAlike (slot_at old p) (slot_at new p)
  alike p = put_alike bases (slot_at old p) (slot_at new p) (over p)

  -- the same levels stand over pages that differ in writes alone, with exact index entries
  pub levels_written : (root : ℕ) (levels : List (List ℕ)) → AreLevels old root levels → AreLevels new root levels
  levels_written root levels = levels_alike old new root levels alike

  pub exact_written : (levels : List (List ℕ)) → AreExact old levels → AreExact new levels
  exact_written levels = exact_alike old new alike levels

  pub stand_written : (levels : List (List ℕ)) → AllStand old levels → AllStand new levels
  stand_written levels = stand_alike old new alike levels

  put_pairs : (ws : List WriteView) (slot : Slot) → pairs_under (put_over bases ws slot) ≡ pairs_under slot
  put_pairs [] slot = refl
  put_pairs (w ∷ ws) slot = by (put_over bases ws slot) ∙ put_pairs ws slot
    where
      same : (b : Body) → body_pairs (body_written w b) ≡ body_pairs b
      same (Pairs pairs writes) = refl
      same (Children level children) = refl

      by : (slot : Slot) → pairs_under (change bases (Put w) slot) ≡ pairs_under slot
      by Free = refl
      by (Gone l) = refl
      by (Live s) = same s.body

  -- and the same pairs under the writes
  pub pairs_alike : (ps : List ℕ) → row_pairs new ps ≡ row_pairs old ps
  pairs_alike ps = same_each (λ p. pairs_under (slot_at old p)) (λ p. pairs_under (slot_at new p)) (λ p. let o = over p in ap pairs_under o.is ∙ put_pairs o.writes (slot_at old p)) ps

-- a page without the writes over it
pub put_bare : (bases : Bases) (ws : List WriteView) (slot : Slot) → slot_without_writes (put_over bases ws slot) ≡ slot_without_writes slot
put_bare bases [] slot = refl
put_bare bases (w ∷ ws) slot = bare_put bases w (put_over bases ws slot) ∙ put_bare bases ws slot
