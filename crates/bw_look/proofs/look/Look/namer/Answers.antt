use Rattle.std.proofs.Common.{◌≡◌, ℕ, suc, ◌+◌, true, false, sym, ◌∙◌, subst, arith}
use Rattle.bw_key.specs.Order.{KeyBytes}
use Rattle.bw_level.specs.Levels.{IsHomeAt}
use Rattle.bw_look.specs.PageStates.{IsAbove}
use Rattle.bw_look.specs.Routing.{IsInLevel}
use Rattle.bw_look.specs.View.{TreeView}
use Rattle.bw_level.specs.Before.{low_of}
use Rattle.bw_level.specs.Slots.{slot_at}
use Rattle.bw_look.proofs.PageLemmas.{no_namer_off, no_namer_there, no_namer_top}
use Rattle.bw_look.proofs.look.Look.namer.Goals as goal

different : true ≡ false → ⊥
different e = cc

next_level : (n : ℕ) → n + 1 ≡ suc n
next_level n = omega arith

above_there : (tree : TreeView) (page parent level : ℕ) (low : KeyBytes) → IsInLevel tree page level → low ≡ low_of (slot_at tree.slots page) → IsHomeAt tree.slots tree.levels low (level + 1) parent → IsAbove tree page parent
above_there tree page parent level low on same home = record {
  level = level;
  in_level = on;
  home = subst (λ (k : KeyBytes). IsHomeAt tree.slots tree.levels k (suc level) parent) same (subst (λ n. IsHomeAt tree.slots tree.levels low n parent) (next_level level) home);
}

pub returns-in_default : goal.returns-in_default
returns-in_default c = no_namer_off c.args.self.now c.args.self.now.root c.know_levels.ensures.lawful c.args.page c.in_default.ensures.level

pub returns-then-level-root_level : goal.returns-then-level-root_level
returns-then-level-root_level c =
    no_namer_top c.args.self.now c.args.self.now.root c.know_levels.ensures.lawful c.args.page c.in-Some.level c.in-Some.ensures.level
    (omega (arith, c.root_level.ensures, c.if-level-root_level.true))

pub names-requires : goal.names-requires
names-requires c = above_there c.args.self.now c.args.page c.in-Some-above.parent c.in-Some.level _ c.in-Some.ensures.level c.low.ensures c.in-Some-above.ensures

pub returns : goal.returns
returns c =
    no_namer_there c.args.self.now c.args.self.now.root c.know_levels.ensures.lawful c.args.page c.in-Some-above.parent
    (above_there c.args.self.now c.args.page c.in-Some-above.parent c.in-Some.level _ c.in-Some.ensures.level c.low.ensures c.in-Some-above.ensures)
    (λ named. different (sym (c.names.ensures.1 named) ∙ c.if-names.false))
