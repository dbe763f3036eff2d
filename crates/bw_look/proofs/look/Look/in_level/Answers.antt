use Rattle.std.proofs.Common.{◌≡◌, ℕ, Some, None, refl, sym, ap, ◌∙◌, subst}
use Rattle.std.specs.Option.{option_copied}
use Rattle.bw_key.specs.Order.{KeyBytes}
use Rattle.bw_level.specs.Before.{low_at}
use Rattle.bw_level.specs.Searches.{AllStand, IsInLevels}
use Rattle.bw_level.specs.Slots.{Slot, PageState, Free, Gone, Live, slot_at}
use Rattle.bw_level.proofs.AboveLemmas.{own_level, own_low}
use Rattle.bw_look.specs.Routing.{IsInLevel}
use Rattle.bw_look.specs.View.{TreeView}
use Rattle.bw_look.proofs.look.Look.in_level.Goals as goal

none_some : {k : KeyBytes} → None ≡ Some k → ⊥
none_some e = cc

-- an identifier with a key at which its page begins is that of a page, and so of one that stands on a level
stands : (tree : TreeView) → AllStand tree.slots tree.levels → (p : ℕ) (low : KeyBytes) → low_at (slot_at tree.slots p) ≡ Some low → IsInLevels tree.levels p
stands tree all p low = by (slot_at tree.slots p) (λ s at. all p s at)
  where
    by : (s : Slot) → ((state : PageState) → s ≡ Live state → IsInLevels tree.levels p) → low_at s ≡ Some low → IsInLevels tree.levels p
    by (Live state) on is = on state refl
    by (Gone removed) on is = absurd (none_some is)
    by Free on is = absurd (none_some is)

pub returns-in-Some-clause-level : goal.returns-in-Some-clause-level
returns-in-Some-clause-level c =
    let tree = c.args.self.now in
    let on = stands tree c.know_records.ensures.stand c.args.page _ (sym c.low_key.ensures ∙ ap option_copied c.in-Some.is) in
    subst (IsInLevel tree c.args.page) (sym (c.level.ensures ∙ own_level tree.slots tree.root tree.levels c.know_levels.ensures.lawful c.args.page on.level on.within on.in_level)) (on.within, on.in_level)

pub returns-in-Some-clause-there : goal.returns-in-Some-clause-there
returns-in-Some-clause-there c =
    c.know_records.ensures.there c.args.page (stands c.args.self.now c.know_records.ensures.stand c.args.page _ (sym c.low_key.ensures ∙ ap option_copied c.in-Some.is))

pub returns-in-None-clause-level : goal.returns-in-None-clause-level
returns-in-None-clause-level c = λ level on.
    let tree = c.args.self.now in
    none_some (sym (ap option_copied c.in-None.is) ∙ c.low_key.ensures ∙ own_low tree.slots tree.root tree.levels c.know_levels.ensures.lawful c.args.page level on.0 on.1)
